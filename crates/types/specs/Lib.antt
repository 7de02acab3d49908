pub mod Store
pub mod Types
pub mod Recur
pub mod Making
pub mod Calls
pub mod Trees
pub mod Survey
pub mod Same
