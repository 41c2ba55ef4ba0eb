pub mod Front
pub mod Line
pub mod Limits
pub mod Lex
