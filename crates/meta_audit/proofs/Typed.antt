-- Which numbers can pass: those of types alone, from 112 to 383.
use Rattle.std.proofs.Common.{◌≡◌, ◌≢◌, ◌↔◌, ◌+◌, ◌<◌, ◌≤◌, ◌==◌, ◌⊎◌, ltb, ℕ, Bool, true, Option, None, Some, IfSome, MatchBool}
use Rattle.std.proofs.Common.{length, refl, sym, ◌∙◌, subst, inl, inr, arith}
use Rattle.std.proofs.lemmas.Bool.{MatchBool-at_true, MatchBool-at_false, eq-eqb, ne_eqb, ltb-true, cases_eq}
use Rattle.std.proofs.lemmas.Option.{same_Some, none-some}
use Rattle.meta_lists.proofs.Everywhere.{at_place}
use Rattle.meta_types.specs.TypeParts.{TypeParts, number_of}
use Rattle.meta_types.proofs.AllTypes.{at_all, at_all_types}
use Rattle.meta_types.proofs.TypeNumbers.{number_is_one}
use Rattle.meta_inst.specs.Which.{Which, First, Second, both}
use Rattle.meta_inst.specs.Tables.{TableContents, NumberConstraint, ConcreteNumber, FreeOf, SameNumber, ByNumber, SetContains}
use Rattle.meta_inst.specs.Tables.{ControlNumberFits, NumberPasses, PassesAt, no_type_set}
use Rattle.meta_types.specs.TypeNumber.{type_with, IsTypeNumber}
use Rattle.meta_gen.specs.WellFormedOpcodes.{IsWellFormedConstraint, IsWellFormedOpcodes}
use Rattle.meta_audit.specs.Comparison.{SameNumbers, SameControl}

-- ---- numbers of types

-- the number of a type is below 384
abbrev is_low : TypeParts → Bool
is_low t = ltb (number_of t) 384

all_low : at_all is_low ≡ true
all_low = refl

-- the number of a type is at least 112 and below 384
pub in_range : (n : ℕ) → IsTypeNumber n → (112 ≤ n) × (n < 384)
in_range n h =
    let low : number_of (type_with n) < 384 = ltb-true (number_of (type_with n)) 384 (at_all_types is_low all_low (type_with n) h.is_type)
    in
    let e = h.numbered in
    (omega (arith, e), omega (arith, e, low))

-- ---- what fits a control

module _ (tables : TableContents) (j : ℕ) where
  -- if there is no control, only `None` fits
  pub absent_fits : j ≡ no_type_set → (c : Option ℕ) → (ControlNumberFits tables j c ↔ c ≡ None)
  absent_fits e c = (
    λ fits. MatchBool-at_true _ _ (eq-eqb j no_type_set e) fits,
    λ is. subst (λ b. MatchBool b (c ≡ None) ((n : ℕ) × (c ≡ Some n) × SetContains tables j n)) (sym (eq-eqb j no_type_set e)) is,
  )

  -- if there is a control, each number that its set contains fits
  pub some_fits : j ≢ no_type_set → (n : ℕ) → SetContains tables j n → ControlNumberFits tables j (Some n)
  some_fits there n c = subst (λ b. MatchBool b (Some n ≡ None) ((m : ℕ) × (Some n ≡ Some m) × SetContains tables j m))
      (sym (ne_eqb j no_type_set there)) (n, refl, c)

  -- if there is a control, its set contains what fits
  pub fitting : j ≢ no_type_set → (c : Option ℕ) → ControlNumberFits tables j c → (n : ℕ) × (c ≡ Some n) × SetContains tables j n
  fitting there c fits = MatchBool-at_false {b = j == no_type_set} (c ≡ None) ((n : ℕ) × (c ≡ Some n)
      × SetContains tables j n) (ne_eqb j no_type_set there) fits

  -- `None` fits only if there is no control
  pub none_fits : ControlNumberFits tables j None → j ≡ no_type_set
  none_fits fits = by_case (cases_eq j no_type_set)
    where
      by_case : (j ≡ no_type_set) ⊎ (j ≡ no_type_set → ⊥) → j ≡ no_type_set
      by_case (inl e) = e
      by_case (inr there) = let h = fitting there None fits in absurd (none-some h.0 h.1)

  -- a number fits only if there is a control whose set contains it
  pub number_fits : (n : ℕ) → ControlNumberFits tables j (Some n) → SetContains tables j n
  number_fits n fits = by_case (cases_eq j no_type_set)
    where
      by_case : (j ≡ no_type_set) ⊎ (j ≡ no_type_set → ⊥) → SetContains tables j n
      by_case (inl e) = absurd (none-some n (sym ((absent_fits e (Some n)).0 fits)))
      by_case (inr there) = let h = fitting there (Some n) fits in subst (SetContains tables j) (sym (same_Some n h.0 h.1)) h.2

  -- a number that a set contains is that of a type
  pub contained_typed : (n : ℕ) → SetContains tables j n → IsTypeNumber n
  contained_typed n h = subst IsTypeNumber h.contains.numbered (number_is_one h.contains.type_of h.contains.contained.is_type)

  -- a number that fits is that of a type
  pub fitting_typed : (c : Option ℕ) → ControlNumberFits tables j c → IfSome c IsTypeNumber
  fitting_typed None fits = tt
  fitting_typed (Some n) fits = contained_typed n (number_fits n fits)

-- ---- what passes

module _ (tables : TableContents) (well : IsWellFormedOpcodes tables) (c d : Option ℕ) (c_typed : IfSome c IsTypeNumber)
    (d_typed : IfSome d IsTypeNumber) where
  -- the number of a control is that of a type
  control_typed : (a : Which) (m : ℕ) → both c d a ≡ Some m → IsTypeNumber m
  control_typed First m e = subst (λ o. IfSome o IsTypeNumber) e c_typed
  control_typed Second m e = subst (λ o. IfSome o IsTypeNumber) e d_typed

  -- a number that passes is that of a type
  pub passing_number : (p n : ℕ) → PassesAt tables (both c d) p n → IsTypeNumber n
  passing_number p n h = of_constraint h.constraint
      (at_place (IsWellFormedConstraint (length tables.type_sets)) tables.operand_constraints p h.constraint well.parts.constraints
      h.is_constraint) h.passes
    where
      of_constraint : (x : NumberConstraint) → IsWellFormedConstraint (length tables.type_sets) x → NumberPasses tables (both c d) x n
          → IsTypeNumber n
      of_constraint (ConcreteNumber m) good passes = subst IsTypeNumber (sym passes) good
      of_constraint (FreeOf j) good passes = contained_typed tables j n passes
      of_constraint (SameNumber a) good passes = control_typed a n passes
      of_constraint (ByNumber a f) good (u, is, steps) = subst IsTypeNumber steps.number_to (number_is_one steps.to steps.steps.to)

-- if the numbers from 112 to 383 pass alike at two places, all numbers do
pub same_numbers : (own other : TableContents) → IsWellFormedOpcodes own → IsWellFormedOpcodes other → (c d : Option ℕ)
    → IfSome c IsTypeNumber → IfSome d IsTypeNumber → (p q : ℕ)
    → ((n : ℕ) → 112 ≤ n → n < 384 → (PassesAt own (both c d) p n ↔ PassesAt other (both c d) q n)) → SameNumbers own other (both c d) p q
same_numbers own other own_well well c d c_typed d_typed p q same n = (
  λ h. let r = in_range n (passing_number own own_well c d c_typed d_typed p n h) in (same n r.0 r.1).0 h,
  λ h. let r = in_range n (passing_number other well c d c_typed d_typed q n h) in (same n r.0 r.1).1 h,
)

-- the same for what fits a control
pub same_control : (own other : TableContents) (j k : ℕ) → (ControlNumberFits own j None ↔ ControlNumberFits other k None)
    → ((n : ℕ) → 112 ≤ n → n < 384 → (ControlNumberFits own j (Some n) ↔ ControlNumberFits other k (Some n))) → SameControl own other j k
same_control own other j k absent same None = absent
same_control own other j k absent same (Some n) = (
  λ h. let r = in_range n (fitting_typed own j (Some n) h) in (same n r.0 r.1).0 h,
  λ h. let r = in_range n (fitting_typed other k (Some n) h) in (same n r.0 r.1).1 h,
)
