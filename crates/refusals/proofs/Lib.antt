-- Laws that the proofs of every call cite.
pub mod Lowest
