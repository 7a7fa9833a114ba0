pub mod Described
pub mod Counted
pub mod Wording
pub mod SettingItems
pub mod GivenWords
