pub mod Visits
pub mod Work
