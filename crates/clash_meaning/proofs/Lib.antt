pub mod Verdicts
pub mod Outcomes
pub mod Numbers
pub mod Dropped
pub mod Theorems
pub mod Exactly
pub mod Least
pub mod Room
