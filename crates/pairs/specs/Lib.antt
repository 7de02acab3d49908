pub mod Table
pub mod Page
pub mod Calls
pub mod Runs
