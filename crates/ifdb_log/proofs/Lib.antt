pub mod Fronts
mod Results
pub mod Titles
pub mod Cuts
pub mod TextsRead
