pub mod Keyed
pub mod Keys
pub mod Files
pub mod Marks
pub mod Laws
