pub mod Running
pub mod Answers
pub mod Exactly
