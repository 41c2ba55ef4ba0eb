pub mod Meaning
pub mod Sources
pub mod Lacks
pub mod Starred
pub mod Whole
