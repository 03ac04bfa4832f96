pub mod Apart
pub mod Marking
pub mod Windows
