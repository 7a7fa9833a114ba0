-- the search for the first fault
mod Refusals
mod Rules
mod NamesSoFar
mod FormatSearch
mod FormatPlaces
mod Counted
mod ByName
pub mod FirstFault
pub mod DifferentNames
mod OneFault
mod FirstOfAll
-- what is built of the instructions
pub mod BuiltOperands
pub mod OneBuilt
-- the needed type sets
pub mod Interning
pub mod Needing
-- the groups
mod GroupsSoFar
