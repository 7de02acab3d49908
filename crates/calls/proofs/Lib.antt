-- Laws that the proofs of this crate cite.
pub mod Bytes
pub mod Sums
pub mod Types
pub mod Bindings
pub mod Answers
pub mod Formulas
