-- tables and how they are read
mod Opcodes
mod Declared
pub mod Decoded
mod Reading
mod Naming
mod Finding
pub mod Sameness
-- the entries of the tables
mod Describing
mod Variants
mod Overlapping
mod Flags
mod Held
mod Offsets
mod Entering
mod Masked
mod Made
pub mod Derivations
mod Inferring
-- tables of valid declarations are well-formed
pub mod ValidNames
mod ValidSets
mod ValidLists
mod ValidEntries
mod Valid
-- parts that are well-formed
pub mod MaskTests
mod PartsTested
-- and parts have one table at most
mod OneTable
-- and so have declarations
mod OneNeed
mod OneEntry
mod OneInstructionSet
mod GroupsSoFar
mod FoundIn
mod GroupsOfParts
mod OneWhole
mod OneDeclared
pub mod Meant
pub mod OneReply
