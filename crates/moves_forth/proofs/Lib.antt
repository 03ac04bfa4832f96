pub mod Filling
pub mod Lookups
