pub mod Titles
pub mod Sizes
pub mod Restarts
pub mod Unopened
