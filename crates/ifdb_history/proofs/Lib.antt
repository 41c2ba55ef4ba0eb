pub mod Sessions
pub mod Flat
pub mod Others
pub mod Own
pub mod Over
pub mod Entries
pub mod Logs
