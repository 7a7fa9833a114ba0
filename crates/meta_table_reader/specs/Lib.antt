pub mod Spans
pub mod Shown
pub mod Words
pub mod Some
pub mod EntryLines
pub mod OpcodeLists
pub mod ShownGroup
pub mod Readable
