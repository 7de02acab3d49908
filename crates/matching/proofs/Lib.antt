-- Laws that the proofs of this crate, and of the crates above it, cite.
pub mod Parts
pub mod Memo
pub mod Elision
pub mod Matching
pub mod Grown
