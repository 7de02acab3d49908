-- Laws that the proofs of this crate, and of the crates above it, cite.
pub mod Table
pub mod Numbers
