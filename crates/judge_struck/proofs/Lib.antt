pub mod Findings
pub mod Strikes
