pub mod Last
pub mod Prints
