mod Greeting
mod Labels
mod Naming
pub mod Narrow
pub mod PublicStates
pub mod Selecting
pub mod Sound
mod ViewLemmas
pub mod Writing
