pub mod Numbered
pub mod Resumed
pub mod Taken
pub mod Kept
pub mod Acknowledged
pub mod Ends
