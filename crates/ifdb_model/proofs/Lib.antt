pub mod LogLaws
pub mod Runs
