pub mod Shared
pub mod Expressions
pub mod Conditions
pub mod Queries
pub mod Requests
