pub mod Narrow
pub mod PublicState
pub mod Sound
pub mod Labels
pub mod Selecting
pub mod Writing
