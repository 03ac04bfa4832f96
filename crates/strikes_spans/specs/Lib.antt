pub mod Fresh
pub mod Marked
