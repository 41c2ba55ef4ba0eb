pub mod Parents
pub mod AfterWrites
pub mod ChildRows
pub mod KeptRows
