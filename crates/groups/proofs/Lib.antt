-- Laws that the proofs of this crate, and of the crates above it, cite.
pub mod UnionFind
pub mod Walks
pub mod Idle
