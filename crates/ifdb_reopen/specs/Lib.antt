pub mod Files
pub mod Causes
pub mod Laws
