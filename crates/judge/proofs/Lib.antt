pub mod Sheets
pub mod Corollaries
pub mod Accepted
pub mod Neighbours
