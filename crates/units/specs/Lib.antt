pub mod Unit
pub mod Product
pub mod Merge
pub mod Calls
