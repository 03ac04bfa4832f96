pub mod Woven
pub mod WaysOn
