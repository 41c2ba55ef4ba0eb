pub mod Tallying
pub mod Collecting
pub mod Keying
pub mod Grouping
pub mod SinkLaws
pub mod Rowing
pub mod Sorting
pub mod OrderLemmas
