pub mod Accepted
pub mod Checking
pub mod Ended
pub mod Stages
pub mod Checked
pub mod Projection
pub mod Projected
pub mod Laws
