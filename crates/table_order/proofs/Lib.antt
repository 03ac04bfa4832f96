pub mod Fronts
pub mod Keeping
pub mod Copying
pub mod Merging
pub mod Joining
