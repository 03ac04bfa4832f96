pub mod Heads
pub mod Following
