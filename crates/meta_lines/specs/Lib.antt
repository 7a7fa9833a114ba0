pub mod Lines
pub mod Words
pub mod Control
pub mod TypeList
pub mod Number
