mod Ranges
mod Written
pub mod Behind
mod ReaderLemmas
mod FeedLemmas
