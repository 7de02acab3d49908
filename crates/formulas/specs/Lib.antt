pub mod Nodes
pub mod Below
pub mod Bodies
pub mod Marked
pub mod Supplied
pub mod State
pub mod Calls
