pub mod Links
pub mod Crew
pub mod AtSite
pub mod Rooms
mod Hosts
