pub mod Book
pub mod Rows
pub mod Freer
pub mod Table
