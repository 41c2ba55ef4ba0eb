pub mod Fronts
pub mod Counting
pub mod Plans
pub mod Gates
pub mod Hosted
pub mod Serving
