-- What the rules on controls say of the instructions of valid declarations.
use Rattle.std.proofs.Common.{ℕ, refl, inl}
use Rattle.meta_inst.specs.Builder.{Builder}
use Rattle.meta_inst.specs.Control.{HasBadSecond, DerivesBadly}
use Rattle.meta_inst.specs.InstructionFaults.{SecondRule, DerivationRule}
use Rattle.meta_inst.specs.InstructionSet.{InstructionSet, root_sets, instruction_in_set}
use Rattle.meta_inst.specs.Faults.{IsAt, IsValid, OfInstruction}

module _ (d : InstructionSet) (valid : IsValid d) (k : ℕ) (b : Builder) (at : IsAt d k b) where
  -- the second control that an instruction may name can be one
  pub good_second : HasBadSecond (root_sets d) (instruction_in_set d b) → ⊥
  good_second bad = valid (OfInstruction k SecondRule) _ (inl (record { builder = b; at = at; breaks = (refl, bad) }))

  -- no operand is badly derived
  pub well_derived : (place : ℕ) → DerivesBadly (root_sets d) (instruction_in_set d b) place → ⊥
  well_derived place bad = valid (OfInstruction k DerivationRule) _ (inl (record { builder = b; at = at; breaks = (place, refl, bad) }))
