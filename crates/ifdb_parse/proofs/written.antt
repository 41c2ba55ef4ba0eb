pub mod Tally
pub mod Forms
pub mod Values
pub mod Statements
pub mod Tokens
pub mod Limits
pub mod Parsed
pub mod ReadsBack
