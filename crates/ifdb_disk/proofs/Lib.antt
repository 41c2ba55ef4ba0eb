mod Calls
mod Fill
pub mod Store
pub mod Moments
