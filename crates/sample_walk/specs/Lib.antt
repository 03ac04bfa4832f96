pub mod Steered
pub mod Walk
