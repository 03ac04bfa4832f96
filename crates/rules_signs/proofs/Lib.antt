pub mod Marking
pub mod Comparing
pub mod Listing
pub mod Rowing
pub mod Signing
