pub mod Causes
pub mod Doors
pub mod Lines
pub mod Reader
pub mod Memory
