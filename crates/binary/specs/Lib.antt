pub mod Binary
pub mod Tally
