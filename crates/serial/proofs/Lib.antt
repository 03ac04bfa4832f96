pub mod Outcomes
pub mod Joined
