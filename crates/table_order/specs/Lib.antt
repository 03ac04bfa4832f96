pub mod Arranged
pub mod Placing
pub mod Sorting
