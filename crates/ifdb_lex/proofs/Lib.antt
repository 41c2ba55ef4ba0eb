pub mod FrontLemmas
pub mod FrontLaws
pub mod LineLemmas
pub mod LineLaws
pub mod LexLaws
