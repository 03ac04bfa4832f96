pub mod Wiping
pub mod Rooms
