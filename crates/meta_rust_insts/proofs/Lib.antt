mod LastPart
mod Letters
pub mod MethodTemplates
-- formats of the table
mod InTable
mod EnumTemplates
