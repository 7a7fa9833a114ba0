-- a stem and a number below a count
mod Numbers
pub mod Truths
mod Breaks
mod Keywords
-- what is added for elements by their places
mod Placed
-- names that are known of a list
mod Growing
-- what isn't in a list
mod Absent
-- what is refused, of parts that are lent
mod Lent
