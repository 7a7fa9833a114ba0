-- The names of instructions that have no fault are different.
use Rattle.std.proofs.Common.{inr, refl}
use Rattle.meta_types.specs.SharedNames.{AreDifferentNames}
use Rattle.meta_types.proofs.SharedNames.{distinct_differ}
use Rattle.meta_inst.specs.InstructionSet.{InstructionSet}
use Rattle.meta_inst.specs.InstructionFaults.{DuplicateRule}
use Rattle.meta_inst.specs.Faults.{OfInstruction, names_of, IsValid}

pub different_names : (d : InstructionSet) → IsValid d → AreDifferentNames (names_of d)
different_names d valid = distinct_differ (names_of d)
    (λ k j shared. valid (OfInstruction k DuplicateRule) _ (inr (record { second = refl; earlier = j; duplicate = shared; tells = refl })))
