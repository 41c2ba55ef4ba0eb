pub mod Faults
pub mod Made
pub mod Keyed
pub mod Sources
