-- Laws that the proofs of this crate, and of the crates above it, cite.
pub mod Conditions
pub mod Answered
pub mod Steps
pub mod Parts
pub mod Marked
pub mod Operands
pub mod Supplied
pub mod Lists
pub mod Same
pub mod Below
pub mod Whole
pub mod Calls
