mod AboveLemmas
pub mod Chains
pub mod GrantorLemmas
pub mod Grants
mod HoldsLemmas
mod SearchLemmas
mod Searched
