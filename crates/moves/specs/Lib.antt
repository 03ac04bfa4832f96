pub mod Layout
pub mod Moves
