pub mod Numbers
pub mod Lowest
