pub mod Table
pub mod Prints
pub mod Calls
