pub mod Promise
pub mod Literals
pub mod Compile
