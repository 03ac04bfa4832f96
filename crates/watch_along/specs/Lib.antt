pub mod Along
pub mod Ends
