-- Laws of routes, and the route rule.
pub mod Totals
pub mod Checks
pub mod Down
pub mod Rule
pub mod Start
pub mod Tested
pub mod Instances
pub mod Run
pub mod Called
