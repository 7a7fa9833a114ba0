-- A control that is told by what is asked for, and the places where a control can stand.
use Rattle.std.proofs.Common.{◌≡◌, ◌<◌, ◌≤◌, ◌+◌, ℕ, List, slice_get, Option, None, Some, IfSome, sym, ◌∙◌, ap, subst, arith}
use Rattle.std.proofs.lemmas.Option.{same_Some}
use Rattle.meta_inst.specs.Which.{Which}
use Rattle.meta_inst.specs.Tables.{TableContents, OpcodeNumbers, SameNumber, NumberPasses, PassesAt, no_type_set}
use Rattle.meta_explain.specs.Parts.{numbers_of}
use Rattle.meta_explain.specs.Found.{control_place}
use Rattle.meta_explain.specs.Search.{AllCanPass, offset_of, IsFoundBy}
use Rattle.meta_explain.specs.declared.found.Found.{Found}
use Rattle.meta_explain.proofs.Typed.{in_range, fits_none, fits_some, control_typed}

-- where an operand has to be the control, what passes is the control
control_passes : (tables : TableContents) (c : Which → Option ℕ) (a : Which) (place n : ℕ)
    → slice_get tables.operand_constraints place ≡ Some (SameNumber a) → PassesAt tables c place n → c a ≡ Some n
control_passes tables c a place n at p =
    subst (λ x. NumberPasses tables c x n) (same_Some p.constraint (SameNumber a) (sym p.is_constraint ∙ at)) p.passes

-- so a number that is asked for there tells the control
pub told_by : (tables : TableContents) (a : Which) (offset : ℕ) (asked : List (Option ℕ)) (k : ℕ) (o : Option ℕ)
    → slice_get asked k ≡ Some o
    → slice_get tables.operand_constraints (offset + k) ≡ Some (SameNumber a)
    → IfSome o (λ n. (c : Which → Option ℕ) → AllCanPass tables c offset asked → c a ≡ Some n)
told_by tables a offset asked k None at is = tt
told_by tables a offset asked k (Some n) at is = λ c all. control_passes tables c a (offset + k) n is (all k (Some n) at)

module _ (tables : TableContents) (op : ℕ) (e : OpcodeNumbers) (results values : List (Option ℕ)) (a : Which) where
  -- where there is no control, it stands at the first place
  pub within_none : offset_of e a ≡ no_type_set → (x : Found) → IsFoundBy tables op e results values x
      → (0 ≤ control_place (numbers_of x.controls a)) × (control_place (numbers_of x.controls a) < 1)
  within_none none x f =
      let is : control_place (numbers_of x.controls a) ≡ 0 =
      ap control_place (fits_none tables (offset_of e a) (numbers_of x.controls a) none (f.fits a)) in
      (omega (arith, is), omega (arith, is))

  -- a control that is told stands at its place
  pub within_told : (n : ℕ) → ((x : Found) → IsFoundBy tables op e results values x → numbers_of x.controls a ≡ Some n) → (x : Found)
      → IsFoundBy tables op e results values x
      → (n + 1 ≤ control_place (numbers_of x.controls a)) × (control_place (numbers_of x.controls a) < n + 2)
  within_told n told x f =
      let is : control_place (numbers_of x.controls a) ≡ n + 1 = ap control_place (told x f) in
      (omega (arith, is), omega (arith, is))

  -- and else at the place of a type
  pub within_types : (offset_of e a ≡ no_type_set → ⊥) → (x : Found) → IsFoundBy tables op e results values x
      → (117 ≤ control_place (numbers_of x.controls a)) × (control_place (numbers_of x.controls a) < 382)
  within_types some x f =
      let (n, is, contains) = fits_some tables (offset_of e a) (numbers_of x.controls a) some (f.fits a) in
      let typed = control_typed tables (offset_of e a) (numbers_of x.controls a) n (f.fits a) is in
      let (low, high) = in_range n typed in
      let at : control_place (numbers_of x.controls a) ≡ n + 1 = ap control_place is in
      (omega (arith, at, low), omega (arith, at, high))
