pub mod Counting
pub mod FirstLine
pub mod ScriptLines
pub mod Flags
pub mod Stepping
pub mod Progress
pub mod RunLaws
