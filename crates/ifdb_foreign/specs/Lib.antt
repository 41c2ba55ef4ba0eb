pub mod Parents
pub mod Left
