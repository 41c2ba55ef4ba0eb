pub mod Authority
pub mod Grantors
pub mod Laws
pub mod Search
