pub mod Same
pub mod Masks
pub mod Sorted
pub mod Summing
pub mod RowLaws
pub mod SectionLaws
pub mod BookLaws
