pub mod Routes
pub mod Rule
pub mod Run
