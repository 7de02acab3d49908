pub mod Matching
pub mod Memo
pub mod Same
