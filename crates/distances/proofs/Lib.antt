pub mod Totals
pub mod Spreads
pub mod Shut
pub mod Lining
pub mod Parts
