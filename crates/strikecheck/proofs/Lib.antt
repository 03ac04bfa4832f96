pub mod Conditions
pub mod Answers
pub mod Exactly
