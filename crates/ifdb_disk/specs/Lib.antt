pub mod Images
pub mod Clock
pub mod Shelf
pub mod Memory
pub mod Present
