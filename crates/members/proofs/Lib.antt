-- Laws that the proofs of this crate, and of the crates above it, cite.
pub mod Gathered
pub mod Members
pub mod Flattening
pub mod Merging
pub mod Leaves
pub mod Unions
pub mod Kept
pub mod Conclusions
pub mod Tables
