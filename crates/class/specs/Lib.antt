pub mod Desks
