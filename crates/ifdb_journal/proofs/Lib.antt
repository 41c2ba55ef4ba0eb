mod Scan
mod Spell
mod Append
mod Start
pub mod Images
mod Take
mod Gather
