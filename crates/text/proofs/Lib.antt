-- Laws that the proofs of this crate, and of the crates above it, cite.
pub mod Power
pub mod Sides
pub mod Lines
pub mod Kept
pub mod Calls
