pub mod Among
mod Answering
pub mod AllTypes
pub mod Decided
pub mod NamesDecided
pub mod Numbers
pub mod Names
pub mod TypeNumbers
pub mod Typed
mod Values
pub mod Functions
pub mod OneAnswer
mod Relating
pub mod Rows
mod ByNumber
mod Listed
mod Left
mod Lanes
mod LaneNames
mod EqualTypes
mod Docs
pub mod Characters
mod Camel
-- names that are shared
mod KeptNames
pub mod NamesSoFar
pub mod SharedNames
-- the first fault
pub mod FirstFault
pub mod Writing
