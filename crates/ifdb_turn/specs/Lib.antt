pub mod Histories
pub mod Places
pub mod Views
pub mod Rule
pub mod Kinds
pub mod Seats
pub mod Passes
pub mod Turns
