-- texts, piece by piece
mod Places
mod Lists
-- types by their numbers
mod TypeNames
-- constraints
mod GroupDigits
mod GroupLists
mod Comments
mod Bytes
