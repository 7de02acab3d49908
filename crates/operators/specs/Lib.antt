pub mod Operators
pub mod Outcome
