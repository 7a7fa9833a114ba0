mod ListLemmas
pub mod StatementLemmas
pub mod EnvironmentLemmas
mod DefineLemmas
mod CheckerLemmas
pub mod OneAnswer
pub mod Allowed
pub mod Meaning
pub mod VerdictLemmas
pub mod WhyLemmas
pub mod OneExplained
mod Runs
