pub mod Courses
pub mod Marked
pub mod Phases
pub mod Rows
