pub mod Index
pub mod Join
pub mod Sources
pub mod Given
pub mod Answers
pub mod Found
