pub mod NamedTags
pub mod Listed
pub mod SameKinds
pub mod ViewChecks
pub mod WrittenKeys
