pub mod Scenes
pub mod Answers
pub mod Inserted
pub mod Matches
pub mod Rebinding
pub mod Tables
pub mod Keyed
