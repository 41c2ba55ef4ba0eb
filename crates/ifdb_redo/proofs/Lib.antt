pub mod Texts
pub mod Loop
pub mod RisingTags
pub mod Again
pub mod Putting
pub mod RisingWrites
pub mod Division
mod Table
pub mod Changed
