pub mod Codes
pub mod Types
pub mod Answers
pub mod Formulas
