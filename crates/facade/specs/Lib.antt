pub mod Outcomes
pub mod Questions
pub mod Tallies
