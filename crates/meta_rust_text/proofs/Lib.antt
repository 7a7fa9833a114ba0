pub mod SettingTemplates
-- texts, piece by piece
mod Pieces
-- the variables of operands
pub mod OperandVariables
-- templates
pub mod ConstructorTemplates
-- texts in angle brackets
mod Angles
-- the variables of the operands of built instructions
pub mod BuiltOperands
-- templates
mod Templates
mod After
mod TypeTexts
mod Sizes
mod WithBefore
-- the type parameters of operands, counted
mod Numbered
