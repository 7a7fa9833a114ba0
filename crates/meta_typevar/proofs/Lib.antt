pub mod Finite
pub mod Marks
mod MaskLemmas
mod Size
mod Numbers
mod ImageLemmas
mod Singleton
mod Growing
mod Known
mod Fixing
pub mod Variables
mod Listed
mod Held
mod SetText
mod Typing
pub mod EqualSets
