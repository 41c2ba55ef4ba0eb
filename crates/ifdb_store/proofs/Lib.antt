pub mod WriteLemmas
pub mod Parts
pub mod PartLemmas
pub mod FindLemmas
pub mod Costs
pub mod KeptLemmas
pub mod Bounds
pub mod Joining
pub mod Nodes
pub mod Marks
pub mod Prints
pub mod Linking
pub mod Walking
mod Maps
mod Shaping
mod Splicing
pub mod InPlace
