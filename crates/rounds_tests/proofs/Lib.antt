pub mod Pointing
