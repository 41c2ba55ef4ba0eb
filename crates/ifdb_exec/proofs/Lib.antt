pub mod Joining
pub mod Indexing
pub mod Probing
pub mod Walking
pub mod Answering
mod Finding
