pub mod Fault
pub mod Refused
pub mod Text
pub mod Script
pub mod Spoken
