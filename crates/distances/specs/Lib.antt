pub mod Far
pub mod Values
