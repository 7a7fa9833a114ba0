pub mod Served
pub mod Changes
pub mod Held
pub mod Toml
pub mod Request
pub mod Replies
pub mod FlagAnswers
pub mod FlagsOutput
