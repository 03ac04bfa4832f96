pub mod Trials
pub mod Loops
