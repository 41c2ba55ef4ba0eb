pub mod Tallies
pub mod Standing
pub mod Sinks
pub mod Owned
pub mod Sort
