pub mod Ends
pub mod Turns
pub mod Joining
