pub mod Asked
pub mod Misuse
pub mod OwnAnswer
pub mod Telling
pub mod Usage
