mod Digits
mod Escapes
mod Examples
pub mod Numbers
mod RowTexts
