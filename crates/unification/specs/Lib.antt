pub mod Unification
pub mod Same
