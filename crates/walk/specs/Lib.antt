pub mod Found
pub mod Branch
pub mod Node
