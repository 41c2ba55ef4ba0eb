pub mod Listed
pub mod ViewBody
pub mod Written
pub mod Made
