pub mod Replay
pub mod FirstWord
pub mod Rows
