pub mod Samples
pub mod Trails
pub mod Writings
pub mod Papers
