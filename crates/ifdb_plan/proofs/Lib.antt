pub mod Testing
pub mod Equating
pub mod Keying
pub mod Ranging
