-- What the crates above cite.
pub mod Chosen
pub mod Fewer
-- What the functions here stand on.
pub mod Places
pub mod Writes
pub mod Marks
pub mod Proposing
