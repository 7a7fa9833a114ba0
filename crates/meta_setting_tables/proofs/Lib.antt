pub mod Finding
mod Sameness
mod Renaming
mod Enumerating
mod EntriesRead
mod Applying
mod DescribedSoFar
mod Joining
mod Masking
mod WholeGroup
mod Telling
mod BuiltGroups
pub mod BuiltNames
mod Passing
mod EnumeratorsBuilt
mod WellFormedTables
pub mod Inside
mod Counted
mod FromParts
mod OneGroup
mod Twice
pub mod Enabled
mod NamesOn
mod EntryMeanings
