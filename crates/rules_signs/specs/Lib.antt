pub mod Words
pub mod Live
pub mod Signs
pub mod Sizes
