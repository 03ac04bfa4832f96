pub mod Says
pub mod Listed
pub mod Wiping
pub mod Bits
pub mod States
