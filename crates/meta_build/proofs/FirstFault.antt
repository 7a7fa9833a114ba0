-- The end of the search for the first fault of declarations.
use Rattle.std.proofs.Common.{◌<◌, ◌≤◌, ⊎_elim, List, length, refl, arith}
use Rattle.std.proofs.lemmas.Bool.{cases_lt}
use Rattle.meta_types.specs.declared.fault.DefinitionError.TheVariants.{TooManyTypeSets}
use Rattle.meta_types.proofs.FirstFault.{passed, next_place, next_part, none_left}
use Rattle.meta_typevar.specs.TypeSetParts.{TypeSetParts}
use Rattle.meta_inst.specs.InstructionSet.{InstructionSet}
use Rattle.meta_inst.specs.Faults.{AreNeededSets, FormatNameRule, OfOpcodes, OfFormat, OfTypeSets, IsFirstFault, IsValid}
use Rattle.meta_build.specs.Searched.{IsCleanBefore}
use Rattle.meta_build.proofs.Counted.{one_count}
use Rattle.meta_build.proofs.OneFault.{searchable}

module _ (d : InstructionSet) where
  -- the formats show none: on to the sets
  pub passed_formats : IsCleanBefore d (OfFormat (length d.instructions) FormatNameRule) → IsCleanBefore d OfTypeSets
  passed_formats = next_part (searchable d) 2

  -- the needed sets are too many, or they are few
  module _ (clean : IsCleanBefore d OfTypeSets) (sets : List TypeSetParts) (needed : AreNeededSets d sets) where
    pub first_of_type_sets : 4095 < length sets → IsFirstFault d (TooManyTypeSets (length sets))
    first_of_type_sets many = record { position = OfTypeSets; shows = (_, refl, (sets, needed, refl, many)); first = clean }

    pub valid : length sets ≤ 4095 → IsValid d
    valid few = none_left (searchable d)
        (next_part (searchable d) 3 (next_place (searchable d) 3 0 (passed (searchable d) OfTypeSets clean (λ e s.
        let counted = one_count d s.2.0 sets s.2.1 needed in
        let is = s.2.2 in
        let many = s.2.3 in
        omega arith))))

  -- valid declarations have few opcodes
  pub few_opcodes : IsValid d → length d.instructions ≤ 4095
  few_opcodes valid = ⊎_elim (λ l. absurd (valid OfOpcodes _ (refl, l))) (λ l. l) (cases_lt 4095 (length d.instructions))
