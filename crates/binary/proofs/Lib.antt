-- Laws that the proofs of this crate, and of the crates above it, cite.
pub mod Rule
pub mod Trials
pub mod Families
pub mod Binary
pub mod Settled
pub mod Operands
pub mod Numbers
pub mod Tallies
pub mod Turns
