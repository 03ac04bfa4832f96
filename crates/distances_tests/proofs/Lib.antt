pub mod Sifts
pub mod Layering
pub mod Turns
