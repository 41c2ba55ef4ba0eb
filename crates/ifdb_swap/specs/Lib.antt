pub mod Swapped
pub mod Causes
pub mod Folders
pub mod Inspections
