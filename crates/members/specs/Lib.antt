pub mod Members
pub mod Trials
pub mod Leaves
