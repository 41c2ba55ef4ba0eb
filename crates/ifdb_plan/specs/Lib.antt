pub mod Tests
pub mod Equations
pub mod Keys
pub mod Ranges
