pub mod Counts
pub mod Asks
