pub mod Trials
pub mod Parts
