pub mod ReachedSteps
pub mod Livables
pub mod StruckSteps
