pub mod Kinds
pub mod Records
pub mod Reading
pub mod Found
pub mod Causes
