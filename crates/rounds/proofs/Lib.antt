pub mod Courses
pub mod Marks
pub mod Running
pub mod Rows
pub mod Lending
pub mod Saved
pub mod Moving
