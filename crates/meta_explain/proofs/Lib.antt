-- lists
pub mod Listing
mod Adding
-- the parts
pub mod Typed
mod Failing
mod Told
-- texts
mod Numbered
mod LeastSets
mod Least
mod ItemTexts
mod SetTexts
mod TextsTell
mod Replacing
-- searches
mod Choosing
mod Telling
mod Combining
-- controls one by one
mod Serving
