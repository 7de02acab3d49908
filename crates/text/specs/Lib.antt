pub mod Text
pub mod Calls
