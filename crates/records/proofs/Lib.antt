-- What the crates above cite.
pub mod Written
pub mod Writing
