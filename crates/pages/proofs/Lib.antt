-- Laws that the proofs of every page cite.
pub mod Quant
pub mod Ranges
pub mod Bytes
pub mod Blocks
pub mod Put
pub mod Words
pub mod Pad
pub mod Low
pub mod Options
