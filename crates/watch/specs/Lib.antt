pub mod Witness
pub mod Turns
