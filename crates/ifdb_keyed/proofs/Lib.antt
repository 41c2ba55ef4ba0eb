pub mod Hello
pub mod FirstMark
pub mod Requests
pub mod Keys
pub mod Fronts
pub mod KeyFiles
