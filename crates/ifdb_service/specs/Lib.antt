pub mod Summary
pub mod Doors
pub mod Workers
pub mod Site
