pub mod Places
pub mod Logs
pub mod Classes
pub mod Fights
pub mod Leads
pub mod Orders
