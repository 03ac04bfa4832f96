pub mod Layouts
pub mod Chains
pub mod Rows
