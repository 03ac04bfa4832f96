pub mod Rows
pub mod Step
pub mod Follow
