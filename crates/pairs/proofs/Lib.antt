-- Laws that the proofs of this crate, and of the crates above it, cite.
pub mod Bodies
pub mod Table
pub mod Page
pub mod Grown
pub mod Calls
pub mod Run
pub mod Factors
pub mod Fresh
