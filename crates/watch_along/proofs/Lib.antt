pub mod Redirecting
pub mod Seeking
pub mod Asking
pub mod Spreading
pub mod Rehanging
pub mod Ending
