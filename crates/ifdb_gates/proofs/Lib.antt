pub mod Merging
pub mod Later
mod Looped
mod Crew
mod Sending
