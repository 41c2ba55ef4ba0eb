pub mod Tally
pub mod Shop
