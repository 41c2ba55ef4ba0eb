mod ReadCommits
mod FitStates
pub mod FitLogs
mod Texts
mod Restarting
