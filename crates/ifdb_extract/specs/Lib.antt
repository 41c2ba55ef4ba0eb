pub mod Texts
pub mod Extracts
pub mod Causes
pub mod Writing
pub mod Walks
pub mod Worth
