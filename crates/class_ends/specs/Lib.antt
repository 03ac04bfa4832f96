pub mod Class
pub mod Ends
