-- The entries of valid declarations.
use Rattle.std.proofs.Common.{◌≡◌, ◌≢◌, ◌<◌, ◌≤◌, ◌+◌, inl, inr, ℕ, zero, suc, List, [], ◌∷◌, All, length, take, slice_get, Option, None}
use Rattle.std.proofs.Common.{Some, refl, sym, ◌∙◌, subst, length-append, arith}
use Rattle.std.proofs.lemmas.Option.{same_Some, slice_get_within}
use Rattle.meta_lists.proofs.Everywhere.{everywhere}
use Rattle.meta_lists.proofs.Places.{get_there, get_beside}
use Rattle.meta_typevar.specs.Variable.{Variable, Sets}
use Rattle.meta_inst.specs.Builder.{Builder}
use Rattle.meta_inst.specs.Instruction.{Instruction, operands}
use Rattle.meta_inst.specs.Control.{IsControl, HasBadSecond}
use Rattle.meta_inst.specs.InstructionSet.{InstructionSet, root_sets, instruction_in_set}
use Rattle.meta_inst.specs.Faults.{IsAt}
use Rattle.meta_inst.specs.Tables.{TableContents, OpcodeNumbers, AreOpcodeNumbersOf, IsTypeSetOffset, DesignatedControls, no_type_set}
use Rattle.meta_unique.specs.Overlap.{added_at}
use Rattle.meta_gen.specs.ConstraintLists.{same_constraint, overlapped}
use Rattle.meta_gen.specs.WellFormedOpcodes.{IsSetOffset, IsWellFormedEntry}
use Rattle.meta_gen.specs.declared.constraint.Constraint.{Constraint}
use Rattle.meta_gen.proofs.Made.{HoldDeclared}

-- the offset of a control is in range, or says that there is no control
in_range : (sets : Sets) (control : Option Variable) (tables : TableContents) (offset : ℕ) → IsTypeSetOffset sets control tables offset
    → IsSetOffset (length tables.type_sets) offset
in_range sets None tables offset is = inr is
in_range sets (Some v) tables offset (below, held) = inl (slice_get_within tables.type_sets offset held.masks held.is_set)

-- where there is no control there is no second one
no_second : (sets : Sets) (i : Instruction) (tables : TableContents) (second : Option Variable) (offset : ℕ) → i.second ≡ second
    → IsControl sets i None → (HasBadSecond sets i → ⊥) → IsTypeSetOffset sets second tables offset → offset ≡ no_type_set
no_second sets i tables None offset is one good none = none
no_second sets i tables (Some s) offset is one good held = absurd (good (s, is, inr (inr one)))

beside : (sets : Sets) (i : Instruction) (tables : TableContents) (control : Option Variable) (offset second_offset : ℕ)
    → IsControl sets i control → (HasBadSecond sets i → ⊥) → IsTypeSetOffset sets control tables offset
    → IsTypeSetOffset sets i.second tables second_offset → offset ≡ no_type_set → second_offset ≡ no_type_set
beside sets i tables None offset second_offset is good set second none = no_second sets i tables i.second second_offset refl is good second
beside sets i tables (Some v) offset second_offset is good (below, held) second none = absurd (omega (arith, below, none))

-- where a control is designated there is one
controlled : (sets : Sets) (i : Instruction) (tables : TableContents) (control : Option Variable) (offset : ℕ)
    → IsTypeSetOffset sets control tables offset → DesignatedControls i control → offset ≢ no_type_set
controlled sets i tables None offset set (v, is, designated) none = absurd (cc)
controlled sets i tables (Some w) offset (below, held) (v, is, designated) none = omega (arith, below, none)

-- the constraints of all operands stand inside if that of the last does
last_inside : (place count most : ℕ) → (count ≡ 0 → place ≤ most) → ((k : ℕ) → k < count → place + k < most) → place + count ≤ most
last_inside place zero most none some = let l = none refl in omega arith
last_inside place (suc n) most none some = let l = some n (omega arith) in omega arith

-- an empty list stands at 0
empty_at : (table list : List Constraint) → length list ≡ 0 → added_at same_constraint table list ≡ 0
empty_at table [] e = refl
empty_at table (x ∷ xs) e = absurd (omega (arith, e))

module _ (d : InstructionSet) (tables : TableContents) (h : HoldDeclared d tables) where
  -- the constraints of an entry stand in the one list
  inside : (k : ℕ) (b : Builder) (e : OpcodeNumbers) (control : Option Variable) → IsAt d k b → slice_get tables.entries k ≡ Some e
      → AreOpcodeNumbersOf (root_sets d) (instruction_in_set d b) control tables e
      → e.constraint_offset + (length (instruction_in_set d b).results + length (instruction_in_set d b).values)
      ≤ length tables.operand_constraints
  inside k b e control at at_e is =
      last_inside e.constraint_offset (length (instruction_in_set d b).results + length (instruction_in_set d b).values)
      (length tables.operand_constraints)
      (λ none.
      let l = h.operand_constraints.are k b at in
      let offset = h.operand_constraints.offsets k l.list e l.at at_e in
      let zero_at = empty_at (overlapped (take k h.operand_constraints.lists)) l.list (l.is_list.count ∙ none) in
      omega (arith, offset, zero_at))
      (λ j below.
      let (w, op) = get_there (operands (instruction_in_set d b)) j
      (omega (arith, below, length-append (instruction_in_set d b).results (instruction_in_set d b).values)) in
      let c = is.constraints j w op in
      slice_get_within tables.operand_constraints (e.constraint_offset + j) c.number_constraint c.placed)

  entry_well : (k : ℕ) (e : OpcodeNumbers) → slice_get tables.entries k ≡ Some e
      → IsWellFormedEntry (length tables.type_sets) (length tables.operand_constraints) e
  entry_well k e at =
      let (b, b_at) = get_beside tables.entries d.instructions k e h.count at in
      let held = h.holds k b b_at in
      let is : AreOpcodeNumbersOf (root_sets d) (instruction_in_set d b) held.control tables e =
      subst (AreOpcodeNumbersOf (root_sets d) (instruction_in_set d b) held.control tables)
      (same_Some held.entry e (sym held.at ∙ at)) held.is_entry in
      let within = inside k b e held.control b_at at is in
      record {
        eight_bits = is.flags.eight_bits;
        type_set = in_range (root_sets d) held.control tables e.typeset_offset is.type_set;
        second_set = in_range (root_sets d) (instruction_in_set d b).second tables e.second_offset is.second_set;
        second_beside = beside (root_sets d) (instruction_in_set d b) tables held.control e.typeset_offset e.second_offset held.is_control
            held.good is.type_set is.second_set;
        designated = λ bit. controlled (root_sets d) (instruction_in_set d b) tables held.control e.typeset_offset is.type_set
            (is.flags.designated.0 bit);
        differs = λ bit. is.flags.designated.1 (is.flags.differs.0 bit).0;
        within = omega (arith, within, is.flags.results, is.flags.values);
      }

  pub entries_well : All (IsWellFormedEntry (length tables.type_sets) (length tables.operand_constraints)) tables.entries
  entries_well = everywhere tables.entries entry_well
