pub mod Making
pub mod Giving
