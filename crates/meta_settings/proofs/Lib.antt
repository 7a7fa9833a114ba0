-- what a search tells
-- faults
mod Rules
pub mod Valid
-- counts and lists
mod Counting
mod Firsts
mod Bits
pub mod Placing
mod Meaning
mod Turning
mod Once
mod TurnedSets
mod Places
