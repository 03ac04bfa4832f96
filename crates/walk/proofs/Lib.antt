pub mod Found
pub mod Settling
pub mod Reasons
pub mod Narrowing
pub mod Walking
pub mod Counting
pub mod Free
