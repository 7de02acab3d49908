-- Laws that the proofs of this crate, and of the crates above it, cite.
pub mod Signed
pub mod Form
pub mod Order
pub mod Tested
pub mod Si
pub mod Merge
pub mod Held
pub mod Calls
pub mod Used
pub mod Symbols
