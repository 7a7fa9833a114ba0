-- where an item of a text ends
mod Ends
pub mod Lacking
mod Cancel
-- items, one after the other
pub mod ItemsRead
-- lines that are skipped
mod SetLines
mod SetBlocks
-- constraints, and the names of types
mod TypesRead
mod Controls
mod ConstraintLines
-- opcodes, one after the other
mod ByOpcode
mod NameBytes
mod Heads
-- the blocks of opcodes
mod Offsets
mod EntryComments
mod EntryBlocks
mod FormatLines
mod OpcodeTextParts
mod OpcodesTold
-- the tables of groups
mod Details
mod DescriptorBlocks
mod TemplateLines
mod GroupLines
mod Presets
mod ShownBytes
mod GroupsTold
mod Zipped
-- well-formed tables
mod ShownGroups
mod ShownTables
mod TablesTold
mod ReadIn
