-- Tables whose opcode means an instruction allow for it exactly what the instruction accepts, whoever made them.
use Rattle.std.proofs.Common.{◌≡◌, ◌↔◌, ◌+◌, ℕ, zero, suc, List, Option, None, Some, refl, sym, ap, ◌∙◌, subst, arith}
use Rattle.std.proofs.lemmas.Option.{none-some, slice_get_within}
use Rattle.meta_lists.proofs.Places.{get_there}
use Rattle.meta_types.specs.TypeParts.{TypeParts, number_of, IsType}
use Rattle.meta_typevar.specs.Variable.{Variable, Sets}
use Rattle.meta_inst.specs.Which.{Which, First, Second, both}
use Rattle.meta_inst.specs.Instruction.{Instruction, IsOperand, controls_of}
use Rattle.meta_inst.specs.Control.{IsControl, HasBadSecond}
use Rattle.meta_inst.specs.Builder.{Builder}
use Rattle.meta_inst.specs.InstructionSet.{InstructionSet, root_sets, instruction_in_set}
use Rattle.meta_inst.specs.Faults.{IsAt, IsValid}
use Rattle.meta_inst.proofs.OneControl.{same_control}
use Rattle.meta_inst.proofs.ValidControls.{good_second, well_derived}
use Rattle.meta_inst.specs.Acceptance.{AcceptsNumbers, IsNumberOf}
use Rattle.meta_inst.specs.Constraint.{TypeConstraint, IsConstraint, PassesOwn, ControlFits}
use Rattle.meta_inst.specs.Tables.{TableContents, OpcodeNumbers, SetContains, PassesAt, ControlNumberFits, Allows, at_opcode}
use Rattle.meta_inst.proofs.Constrained.{has_constraint}
use Rattle.meta_inst.proofs.ListedOperands.{number_of_type, number_of_none}
use Rattle.meta_inst.proofs.Allowing.{TellsOperands, allows_exactly}
use Rattle.meta_gen.specs.TablesOf.{AcceptsOpcode}
use Rattle.meta_types.specs.TypeNumber.{type_with, IsTypeNumber}
use Rattle.meta_gen.specs.WellFormedOpcodes.{IsWellFormedOpcodes}
use Rattle.meta_gen.proofs.Derivations.{no_bad_place}
use Rattle.meta_audit.specs.Matching.{MeansSetOf, MatchesEntry, Matches}
use Rattle.meta_audit.specs.Verdict.{AreAsMany, AllMatch}
use Rattle.meta_audit.proofs.Typed.{absent_fits, some_fits, fitting, contained_typed, fitting_typed, passing_number}
use Rattle.meta_audit.proofs.Alone.{have_from_passes, passes_from_have}

module _ (sets : Sets) (tables : TableContents) (offset : ℕ) where
  -- a number that fits the offset of a control is that of a type that fits the control
  type_from : (v : Option Variable) (c : Option ℕ) → MeansSetOf sets v tables offset → ControlNumberFits tables offset c
      → (e : Option TypeParts) × IsNumberOf e c × ControlFits sets v e
  type_from None c is fits = (None, (absent_fits tables offset is c).0 fits, refl)
  type_from (Some v) c (there, contains) fits =
      let (n, c_is, has) = fitting tables offset there c fits in
      let r : IsTypeNumber n = contained_typed tables offset n has in
      let member = (contains (type_with n) r.is_type).0 (subst (SetContains tables offset) (sym r.numbered) has) in
      (Some (type_with n), (r.is_type, c_is ∙ ap Some (sym r.numbered)), (type_with n, refl, member))

  -- the number of a type that fits the control fits the offset
  number_from : (v : Option Variable) (e : Option TypeParts) (c : Option ℕ) → MeansSetOf sets v tables offset → IsNumberOf e c
      → ControlFits sets v e → ControlNumberFits tables offset c
  number_from None e c is numbered fits = (absent_fits tables offset is c).1 (number_of_none e c numbered fits)
  number_from (Some v) e c (there, contains) numbered (t, e_is, m) =
      subst (ControlNumberFits tables offset) (sym (number_of_type e c t numbered e_is))
      (some_fits tables offset there (number_of t) ((contains t m.is_type).1 m))

module _ (sets : Sets) (i : Instruction) (control : Option Variable) (tables : TableContents) (entry : OpcodeNumbers)
    (well : IsWellFormedOpcodes tables) (h : IsControl sets i control) (good : HasBadSecond sets i → ⊥) (some : (k : ℕ) (w : Variable)
    → IsOperand i k w → (x : TypeConstraint) × IsConstraint sets (controls_of i control) w x)
    (is : MatchesEntry sets i control tables entry) where
  -- types fit the two controls
  both_fit : (e g : Option TypeParts) → ControlFits sets control e → ControlFits sets i.second g → (a : Which)
      → ControlFits sets (controls_of i control a) (both e g a)
  both_fit e g e_fits g_fits First = e_fits
  both_fit e g e_fits g_fits Second = g_fits

  -- the entry gives the types of the operands, one by one
  tells : (c d : Option ℕ) → TellsOperands sets i control tables entry c d
  tells c d = record {
    results = is.results;
    values = is.values;
    control_from = λ fits. type_from sets tables entry.typeset_offset control c is.type_set fits;
    control_to = λ e numbered fits. number_from sets tables entry.typeset_offset control e c is.type_set numbered fits;
    second_from = λ fits. type_from sets tables entry.second_offset i.second d is.second_set fits;
    second_to = λ g numbered fits. number_from sets tables entry.second_offset i.second g d is.second_set numbered fits;
    typed = λ first second k n w at p. passing_number tables well c d (fitting_typed tables entry.typeset_offset c first)
        (fitting_typed tables entry.second_offset d second) (entry.constraint_offset + k) n p;
    passes = own;
  }
    where
      own : (k : ℕ) (w : Variable) (e g : Option TypeParts) (t : TypeParts) → IsOperand i k w → IsNumberOf e c → IsNumberOf g d
          → ControlFits sets control e → ControlFits sets i.second g → IsType t
          → (PassesAt tables (both c d) (entry.constraint_offset + k) (number_of t) ↔ PassesOwn sets (controls_of i control) (both e g) w t)
      own k w e g t at e_number g_number e_fits g_fits is_type =
          let first = number_from sets tables entry.typeset_offset control e c is.type_set e_number e_fits in
          let second = number_from sets tables entry.second_offset i.second g d is.second_set g_number g_fits in
          let told = is.passes k w e g c d t at e_number g_number first second is_type in
          let fit = both_fit e g e_fits g_fits in (
            λ p. let (x, is_x) = some k w at in (x, is_x, passes_from_have sets i control h good (both e g) fit w x t is_x (told.0 p)),
            λ (x, is_x, p). told.1 (have_from_passes sets i control h good (both e g) fit w x t is_x p),
          )

-- ---- all opcodes

-- each operand of a valid instruction has a constraint
constrained : (d : InstructionSet) → IsValid d → (k : ℕ) (b : Builder) → IsAt d k b → (control : Option Variable)
    → IsControl (root_sets d) (instruction_in_set d b) control
    → (j : ℕ) (w : Variable) → IsOperand (instruction_in_set d b) j w → (x : TypeConstraint)
    × IsConstraint (root_sets d) (controls_of (instruction_in_set d b) control) w x
constrained d valid k b at control is = has_constraint (root_sets d) (instruction_in_set d b) control is (good_second d valid k b at)
    (no_bad_place (root_sets d) (instruction_in_set d b) control is (well_derived d valid k b at))

-- the opcode that means a valid instruction allows exactly what the instruction accepts
means_exactly : (d : InstructionSet) (tables : TableContents) → IsValid d → IsWellFormedOpcodes tables → (k : ℕ) (b : Builder) → IsAt d k b
    → (m : Matches d tables k b) → (op : ℕ) → at_opcode tables.entries op ≡ Some m.entry → (c e : Option ℕ) (rs vs : List ℕ)
    → (Allows tables op c e rs vs ↔ AcceptsNumbers (root_sets d) (instruction_in_set d b) m.control c e rs vs)
means_exactly d tables valid well k b at m op at_op c e rs vs =
    let sets = root_sets d in
    let i = instruction_in_set d b in
    let good = good_second d valid k b at in
    let some = constrained d valid k b at m.control m.is_control in
    allows_exactly sets i m.control tables m.entry m.is_control good some c e
    (tells sets i m.control tables m.entry well m.is_control good some m.means c e) op at_op rs vs

module _ (d : InstructionSet) (tables : TableContents) (valid : IsValid d) (well : IsWellFormedOpcodes tables) (count : AreAsMany d tables)
    (all : AllMatch d tables) where
  -- what the tables allow for the opcode of an instruction
  allows_at : (k : ℕ) (b : Builder) (at : IsAt d k b) (c e : Option ℕ) (rs vs : List ℕ) → Allows tables (suc k) c e rs vs
      → AcceptsNumbers (root_sets d) (instruction_in_set d b) (all k b at).control c e rs vs
  allows_at k b at c e rs vs a =
      let m = all k b at in
      (means_exactly d tables valid well k b at m (suc k) m.at c e rs vs).0 a

  to : (op : ℕ) (c e : Option ℕ) (rs vs : List ℕ) → Allows tables op c e rs vs → AcceptsOpcode d op c e rs vs
  to zero c e rs vs a = absurd (none-some a.entry a.is_opcode)
  to (suc k) c e rs vs a =
      let inside = slice_get_within tables.entries k a.entry a.is_opcode in
      let (b, at) = get_there d.instructions k (omega (arith, inside, count)) in
      let m = all k b at in
      record {
        place = k;
        builder = b;
        at = at;
        number = omega arith;
        control = m.control;
        is_control = m.is_control;
        accepts = allows_at k b at c e rs vs a;
      }

  from : (op : ℕ) (c e : Option ℕ) (rs vs : List ℕ) → AcceptsOpcode d op c e rs vs → Allows tables op c e rs vs
  from op c e rs vs a =
      let k = a.place in
      let m = all k a.builder a.at in
      let one : a.control ≡ m.control =
      same_control (root_sets d) (instruction_in_set d a.builder) a.control m.control a.is_control m.is_control in
      let accepts = subst (λ v. AcceptsNumbers (root_sets d) (instruction_in_set d a.builder) v c e rs vs) one a.accepts in
      let number = a.number in
      let same : suc k ≡ op = omega (arith, number) in
      subst (λ n. Allows tables n c e rs vs) same
      ((means_exactly d tables valid well k a.builder a.at m (suc k) m.at c e rs vs).1 accepts)

  -- Tables whose opcodes mean the instructions allow exactly what the declarations accept.
  pub meant_accepts : (op : ℕ) (c e : Option ℕ) (rs vs : List ℕ) → (Allows tables op c e rs vs ↔ AcceptsOpcode d op c e rs vs)
  meant_accepts op c e rs vs = (to op c e rs vs, from op c e rs vs)
