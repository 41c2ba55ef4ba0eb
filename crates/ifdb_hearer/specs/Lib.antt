pub mod Hearers
pub mod Laws
