pub mod Tags
pub mod Ancestors
pub mod Label
