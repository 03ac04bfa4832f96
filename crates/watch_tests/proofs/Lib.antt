pub mod Dividing
pub mod Ranking
pub mod Sifting
pub mod Testing
pub mod Cutting
