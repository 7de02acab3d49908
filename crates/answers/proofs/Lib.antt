-- Laws that the proofs of this crate, and of the crates above it, cite.
pub mod Calls
pub mod Units
pub mod Sums
pub mod Products
pub mod Grown
pub mod Keeping
pub mod Proper
