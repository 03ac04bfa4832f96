pub mod Phases
pub mod Searching
