mod Kinded
mod Numbered
mod Tests
mod Parts
mod Added
mod SettingRows
mod Rooted
mod Growing
pub mod Made
pub mod Fitting
pub mod Named
