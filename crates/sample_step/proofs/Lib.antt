pub mod Books
pub mod Places
pub mod Distances
pub mod Scans
pub mod Nexts
pub mod Lent
