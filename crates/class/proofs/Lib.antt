pub mod Parts
pub mod Class
