pub mod TagLaws
pub mod LabelLaws
pub mod AncestorLemmas
