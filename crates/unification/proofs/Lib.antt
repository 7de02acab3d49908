-- Laws that the proofs of this crate, and of the crates above it, cite.
pub mod Growth
pub mod Unification
pub mod Pairs
pub mod Arguments
