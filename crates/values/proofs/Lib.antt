-- Laws that the proofs of this crate, and of the crates above it, cite.
pub mod Sixteen
pub mod Terms
pub mod Calls
pub mod Back
pub mod Strides
pub mod Used
