pub mod Header
pub mod Place
pub mod Parts
pub mod Answer
pub mod Whole
