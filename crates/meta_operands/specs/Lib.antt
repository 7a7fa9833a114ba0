pub mod Texts
pub mod EnumEntries
pub mod Kind
pub mod Operand
pub mod Format
pub mod FormatText
pub mod Structure
pub mod Laws
