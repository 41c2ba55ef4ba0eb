pub mod Rehearsal
pub mod Rehearsing
pub mod Run
pub mod Steps
