pub mod KeyLemmas
pub mod LogLemmas
pub mod MeetLemmas
pub mod JudgeLemmas
