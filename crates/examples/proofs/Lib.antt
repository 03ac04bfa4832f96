pub mod Placed
pub mod Logged
pub mod Classed
pub mod Fought
pub mod Led
pub mod Ordered
