pub mod Columns
pub mod Meanings
pub mod ColumnKinds
pub mod Starred
pub mod OutputNames
pub mod Lacking
pub mod SelectChecks
