pub mod OneType
pub mod Meaning
mod Underived
pub mod ControlLemmas
pub mod Derived
mod Placing
pub mod Listed
mod OperandsOf
pub mod OneControl
mod Searching
pub mod OneOwnFault
mod OwnFaults
mod KeptControl
mod Matching
mod Counting
pub mod OnlyMemory
-- valid declarations
pub mod ValidControls
-- of sets, masks and chains alone
mod PowerMasks
mod Members
pub mod Chains
pub mod Fixedness
-- one test an operand is one joint choice
pub mod Family
pub mod Candidates
mod Choice
mod OneChoice
pub mod ControlFamily
pub mod Constrained
pub mod Only
-- what the controlling types give, and instructions with one control
pub mod Inferring
mod WithoutSecond
-- the tables mean the instruction
pub mod ListedOperands
pub mod Passing
pub mod Allowing
pub mod Decoding
-- and give for the results what is inferred
pub mod Giving
pub mod Given
