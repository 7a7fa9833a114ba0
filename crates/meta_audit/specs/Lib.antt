pub mod Matching
pub mod Comparison
pub mod Verdict
pub mod AuditLine
