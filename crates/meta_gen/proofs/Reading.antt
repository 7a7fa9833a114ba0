-- The decoding of an opcode in steps: the counts, the controls, the results and then the values.
use Rattle.std.proofs.Common.{◌≡◌, ◌↔◌, inl, inr, IsTrue, ℕ, ◌+◌, ◌≤◌, List, ◌++◌, length, map, Bool, false, Option, None, Some, slice_get}
use Rattle.std.proofs.Common.{sym, ◌∙◌, subst, arith}
use Rattle.std.proofs.lemmas.Option.{same_Some, slice_get_past}
use Rattle.std.proofs.lemmas.List.{length-map}
use Rattle.std.proofs.lemmas.Bool.{false≢true}
use Rattle.meta_lists.proofs.Places.{get_stays, get_right, get_cases}
use Rattle.meta_typevar.specs.Registry.{HoldTypeSets}
use Rattle.meta_inst.specs.InstructionSet.{InstructionSet}
use Rattle.meta_inst.specs.Which.{Which, both}
use Rattle.meta_typevar.specs.Masks.{ContainsNumber}
use Rattle.meta_typevar.specs.declared.masks.Masks.{Masks}
use Rattle.meta_inst.specs.Tables.{TableContents, OpcodeNumbers, NumberConstraint, NumberPasses, SetContains, PassesAt}
use Rattle.meta_inst.specs.Tables.{ControlNumberFits, Allows, at_opcode, result_count, value_count}
use Rattle.meta_gen.specs.TablesOf.{AreTablesOf, AcceptsOpcode}
use Rattle.meta_gen.specs.Constraint.{number_constraint_of}
use Rattle.meta_gen.specs.Contents.{AllPass}
use Rattle.meta_gen.specs.declared.constraint.Constraint.{Constraint}
use Rattle.meta_gen.proofs.Decoded.{tables_of_mean}

module _ (tables : TableContents) (op : ℕ) (c d : Option ℕ) (rs vs : List ℕ) (entry : OpcodeNumbers) (at : at_opcode tables.entries op
    ≡ Some entry) where
  -- an opcode has one entry
  same_entry : (a : Allows tables op c d rs vs) → a.entry ≡ entry
  same_entry a = same_Some a.entry entry (sym a.is_opcode ∙ at)

  -- nothing is allowed with another count of results
  pub refused_result_count : (length rs ≡ result_count entry.flags → ⊥) → Allows tables op c d rs vs → ⊥
  refused_result_count unfit a = unfit (subst (λ x. length rs ≡ result_count x.flags) (same_entry a) a.results)

  -- nothing is allowed with another count of values
  pub refused_value_count : (length vs ≡ value_count entry.flags → ⊥) → Allows tables op c d rs vs → ⊥
  refused_value_count unfit a = unfit (subst (λ x. length vs ≡ value_count x.flags) (same_entry a) a.values)

  -- nothing is allowed under a number that the control's set doesn't contain
  pub refused_control : (ControlNumberFits tables entry.typeset_offset c → ⊥) → Allows tables op c d rs vs → ⊥
  refused_control unfit a = unfit (subst (λ x. ControlNumberFits tables x.typeset_offset c) (same_entry a) a.control_fits)

  -- nor under one that the second control's doesn't
  pub refused_second : (ControlNumberFits tables entry.second_offset d → ⊥) → Allows tables op c d rs vs → ⊥
  refused_second unfit a = unfit (subst (λ x. ControlNumberFits tables x.second_offset d) (same_entry a) a.second_fits)

  -- no results are allowed of which one doesn't pass
  pub refused_results : (AllPass tables (both c d) entry.constraint_offset rs → ⊥) → Allows tables op c d rs vs → ⊥
  refused_results unfit a = unfit (λ k n e. subst (λ x. PassesAt tables (both c d) (x.constraint_offset + k) n) (same_entry a)
      (a.passes k n (get_stays rs vs k n e)))

  -- the values that are allowed pass after the results
  values_pass : Allows tables op c d rs vs → AllPass tables (both c d) (entry.constraint_offset + length rs) vs
  values_pass a k n e =
      let there : entry.constraint_offset + (length rs + k) ≡ entry.constraint_offset + length rs + k = omega arith in
      subst (λ m. PassesAt tables (both c d) m n) there
      (subst (λ x. PassesAt tables (both c d) (x.constraint_offset + (length rs + k)) n) (same_entry a)
      (a.passes (length rs + k) n (get_right rs vs k ∙ e)))

  -- results and values that pass, pass one after another
  both_pass : AllPass tables (both c d) entry.constraint_offset rs → AllPass tables (both c d) (entry.constraint_offset + length rs) vs
      → (k n : ℕ) → slice_get (rs ++ vs) k ≡ Some n → PassesAt tables (both c d) (entry.constraint_offset + k) n
  both_pass first second k n e =
      elim (get_cases rs vs k n e) [
        | inl h ↦ first k n h
        | inr h ↦
            subst (λ m. PassesAt tables (both c d) m n) (placed h.0 h.1) (second h.0 n h.2)
      ]
    where
      -- the place after the results
      placed : (j : ℕ) → k ≡ length rs + j → entry.constraint_offset + length rs + j ≡ entry.constraint_offset + k
      placed j h = omega arith

  -- where all else was found to fit, the values decide
  pub values_decide : (r : Bool) → length rs ≡ result_count entry.flags → length vs ≡ value_count entry.flags
      → ControlNumberFits tables entry.typeset_offset c → ControlNumberFits tables entry.second_offset d
      → AllPass tables (both c d) entry.constraint_offset rs
      → (IsTrue r ↔ AllPass tables (both c d) (entry.constraint_offset + length rs) vs) → (IsTrue r ↔ Allows tables op c d rs vs)
  values_decide r results values fits second_fits first h = (to, λ a. h.1 (values_pass a))
    where
      -- what passes is allowed
      to : IsTrue r → Allows tables op c d rs vs
      to t = record {
        entry = entry;
        is_opcode = at;
        results = results;
        values = values;
        control_fits = fits;
        second_fits = second_fits;
        passes = both_pass first (h.0 t);
      }

-- what is refused is no answer of true
pub refused : {A : Type 0} → (A → ⊥) → (IsTrue false ↔ A)
refused unfit = ((λ e. absurd (false≢true e)), (λ a. absurd (unfit a)))

-- an answer that tells what tables allow tells what the declarations accept
pub answer_means : (r : Bool) (tables : TableContents) (op : ℕ) (c d : Option ℕ) (rs vs : List ℕ) → (IsTrue r ↔ Allows tables op c d rs vs)
    → (declared : InstructionSet) → HoldTypeSets declared.vars → AreTablesOf declared tables
    → (IsTrue r ↔ AcceptsOpcode declared op c d rs vs)
answer_means r tables op c d rs vs h declared typed of =
    let mean = tables_of_mean declared tables op c d rs vs typed of in
    ((λ t. mean.0 (h.0 t)), (λ a. h.1 (mean.1 a)))

-- the constraint at a place decides whether a number passes there
pub passes_read : (tables : TableContents) (c : Which → Option ℕ) (place n : ℕ) (x : NumberConstraint) (r : Bool)
    → slice_get tables.operand_constraints place ≡ Some x → IsTrue r ↔ NumberPasses tables c x n → IsTrue r ↔ PassesAt tables c place n
passes_read tables c place n x r at told = (
  (λ t. record { constraint = x; is_constraint = at; passes = told.0 t }),
  (λ p. told.1 (subst (λ y. NumberPasses tables c y n) (same_Some p.constraint x (sym p.is_constraint ∙ at)) p.passes)),
)

-- where there is no constraint nothing passes
pub nothing_passes : (tables : TableContents) (c : Which → Option ℕ) (place n : ℕ) → slice_get tables.operand_constraints place ≡ None
    → PassesAt tables c place n → ⊥
nothing_passes tables c place n none p = let e : None ≡ Some p.constraint = sym none ∙ p.is_constraint in cc

-- where one doesn't pass not all do
pub one_refused : (tables : TableContents) (c : Which → Option ℕ) (offset : ℕ) (numbers : List ℕ) (k n : ℕ) → slice_get numbers k ≡ Some n
    → (PassesAt tables c (offset + k) n → ⊥) → AllPass tables c offset numbers → ⊥
one_refused tables c offset numbers k n at fails all = fails (all k n at)

-- after its end a list of constraints has no constraint
pub none_mapped : (xs : List Constraint) (place : ℕ) → length xs ≤ place → slice_get (map number_constraint_of xs) place ≡ None
none_mapped xs place past =
    slice_get_past (map number_constraint_of xs) place (subst (λ n. n ≤ place) (sym (length-map xs number_constraint_of)) past)

-- the masks at a place decide whether the type set there contains a number
pub contains_read : (tables : TableContents) (place n : ℕ) (masks : Masks) (r : Bool) → slice_get tables.type_sets place ≡ Some masks
    → IsTrue r ↔ ContainsNumber masks n → IsTrue r ↔ SetContains tables place n
contains_read tables place n masks r at told = (
  (λ t. record { masks = masks; is_set = at; contains = told.0 t }),
  (λ s. told.1 (subst (λ m. ContainsNumber m n) (same_Some s.masks masks (sym s.is_set ∙ at)) s.contains)),
)

-- where there is no type set none contains it
pub contains_none : (tables : TableContents) (place n : ℕ) (read : List Masks) → read ≡ tables.type_sets → length read ≤ place
    → IsTrue false ↔ SetContains tables place n
contains_none tables place n read is past = refused (λ s. let none : slice_get tables.type_sets place ≡ None =
    slice_get_past tables.type_sets place (subst (λ (xs : List Masks). length xs ≤ place) is past) in let e : None ≡ Some s.masks =
    sym none ∙ s.is_set in cc)
