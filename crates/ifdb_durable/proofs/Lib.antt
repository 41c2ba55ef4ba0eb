pub mod Begins
pub mod Steps
pub mod Writing
pub mod Appends
pub mod Worth
pub mod Away
pub mod TextRoom
