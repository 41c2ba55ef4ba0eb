pub mod Behind
pub mod Fronted
pub mod Causes
pub mod Title
pub mod Pieces
pub mod Reading
