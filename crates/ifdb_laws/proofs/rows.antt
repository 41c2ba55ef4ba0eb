pub mod Rooted
pub mod Keys
pub mod Runs
pub mod Fresh
pub mod Apart
pub mod Fits
pub mod Fitting
