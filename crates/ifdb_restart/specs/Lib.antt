pub mod Restarted
pub mod Laws
