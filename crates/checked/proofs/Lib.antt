-- Laws that the proofs of this crate cite.
pub mod Calls
pub mod Room
