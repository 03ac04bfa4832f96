pub mod Account
pub mod Carry
pub mod Book
