-- of types and numbers alone
mod Typed
-- what is of one form means the same
mod OneForm
-- each control is tried beside one number of the other
mod Crossing
-- one operand: what it can have alone is what passes its constraint
mod Alone
-- another entry means the same as the entry of the tables of declarations exactly if it matches
mod SameMeaning
-- tables that match accept what the declarations accept
mod Meaning
-- the verdicts
mod Deciding
mod Verdicts
mod OneVerdict
