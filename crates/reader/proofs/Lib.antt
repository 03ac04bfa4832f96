-- What the crate's proofs share, and the laws that crates above cite (Good). In the proof of a function `c` is what is known at a place of
-- its code, and `c5` the place five steps before.
pub mod Literals
pub mod Good
pub mod Bodies
pub mod Reading
pub mod Sections
pub mod Whole
