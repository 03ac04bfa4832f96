pub mod Fewer
pub mod Answers
pub mod Least
pub mod Noting
pub mod Passes
