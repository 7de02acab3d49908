pub mod Sums
pub mod Gather
pub mod Calls
