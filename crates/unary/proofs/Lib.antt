-- Laws that the proofs of this crate, and of the crates above it, cite.
pub mod Passing
pub mod Failing
pub mod Answers
pub mod Checking
pub mod Kept
pub mod Operands
pub mod Negations
