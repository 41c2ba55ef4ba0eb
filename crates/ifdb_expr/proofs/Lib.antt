pub mod Views
pub mod Frames
pub mod Numbers
pub mod Deciding
