-- Laws that the proofs of the crates above cite.
pub mod Walk
pub mod Grow
pub mod Prints
