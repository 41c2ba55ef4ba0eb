pub mod Kept
pub mod Opened
pub mod Overs
pub mod Desks
pub mod Laws
