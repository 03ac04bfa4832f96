pub mod Asking
pub mod Rows
pub mod Binding
pub mod Gathering
pub mod Counting
pub mod Facts
pub mod Saying
pub mod FreerLaws
