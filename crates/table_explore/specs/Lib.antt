pub mod Explored
pub mod Adding
