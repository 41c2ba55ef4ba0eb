pub mod View
pub mod Query
pub mod Laws
pub mod ByReference
pub mod Decided
pub mod Tells
