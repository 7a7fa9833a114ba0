mod Any
mod Given
mod LineParts
mod Taken
mod Writing
mod Fronts
pub mod Pieces
pub mod Steps
