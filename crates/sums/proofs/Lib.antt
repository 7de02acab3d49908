-- Laws that the proofs of this crate, and of the crates above it, cite.
pub mod Written
pub mod Bound
pub mod Held
pub mod Roots
pub mod Gather
pub mod Convert
pub mod Calls
pub mod Run
pub mod Product
