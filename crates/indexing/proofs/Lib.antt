-- Laws that the proofs of this crate, and of the crates above it, cite.
pub mod Targets
pub mod Trying
pub mod Indexing
pub mod Operands
