pub mod Bindings
pub mod Generics
