-- What passes a constraint is the number of a type, where the controls are.
use Rattle.std.proofs.Common.{◌≡◌, ◌<◌, ◌≤◌, ◌==◌, ◌&&◌, Bool, true, false, ltb, MatchBool, ℕ, length, Option, None, Some, refl, sym, ◌∙◌}
use Rattle.std.proofs.Common.{subst}
use Rattle.std.proofs.Common.{arith}
use Rattle.std.proofs.lemmas.Bool.{and_parts, ltb-true, eq-eqb, ne_eqb, MatchBool-at_true, MatchBool-at_false}
use Rattle.std.proofs.lemmas.Option.{same_Some}
use Rattle.meta_lists.proofs.Everywhere.{at_place}
use Rattle.meta_types.specs.TypeParts.{TypeParts, number_of}
use Rattle.meta_types.specs.TypeNumber.{type_with, IsTypeNumber}
use Rattle.meta_types.proofs.AllTypes.{at_all, at_all_types}
use Rattle.meta_types.proofs.TypeNumbers.{number_is_one}
use Rattle.meta_inst.specs.Which.{Which, First, Second}
use Rattle.meta_inst.specs.Tables.{TableContents, OpcodeNumbers, NumberConstraint, ConcreteNumber, FreeOf, SameNumber, ByNumber}
use Rattle.meta_inst.specs.Tables.{NumberPasses}
use Rattle.meta_inst.specs.Tables.{SetContains, ControlNumberFits, no_type_set}
use Rattle.meta_gen.specs.WellFormedOpcodes.{IsWellFormedOpcodes, IsWellFormedConstraint}
use Rattle.meta_explain.specs.Parts.{numbers_of}
use Rattle.meta_explain.specs.Search.{TypesAlonePass, offset_of}
use Rattle.meta_explain.specs.declared.control_types.ControlTypes.{ControlTypes}

-- ---- the numbers of types

abbrev is_in_range : TypeParts → Bool
is_in_range t = ltb 115 (number_of t) && ltb (number_of t) 381

all_in_range : at_all is_in_range ≡ true
all_in_range = refl

-- a number of a type is one of 116 to 380
pub in_range : (n : ℕ) → IsTypeNumber n → (116 ≤ n) × (n < 381)
in_range n is =
    let t = type_with n in
    let (low, high) = and_parts _ _ (at_all_types is_in_range all_in_range t is.is_type) in
    let above = ltb-true 115 (number_of t) low in
    let below = ltb-true (number_of t) 381 high in
    let e = is.numbered in
    (omega (arith, above, e), omega (arith, below, e))

-- ---- controls

pub set_typed : (tables : TableContents) (j n : ℕ) → SetContains tables j n → IsTypeNumber n
set_typed tables j n s = subst IsTypeNumber s.contains.numbered (number_is_one s.contains.type_of s.contains.contained.is_type)

-- there is no control where the offset says that there is none
pub fits_none : (tables : TableContents) (offset : ℕ) (c : Option ℕ) → offset ≡ no_type_set → ControlNumberFits tables offset c → c ≡ None
fits_none tables offset c e fits = MatchBool-at_true _ _ (eq-eqb offset no_type_set e) fits

pub none_fits : (tables : TableContents) (offset : ℕ) (c : Option ℕ) → offset ≡ no_type_set → c ≡ None → ControlNumberFits tables offset c
none_fits tables offset c e none = subst (λ b. MatchBool b (c ≡ None) ((n : ℕ) × (c ≡ Some n) × SetContains tables offset n))
    (sym (eq-eqb offset no_type_set e)) none

-- else there is one, of which the type set is asked
pub fits_some : (tables : TableContents) (offset : ℕ) (c : Option ℕ) → (offset ≡ no_type_set → ⊥) → ControlNumberFits tables offset c
    → (n : ℕ) × (c ≡ Some n) × SetContains tables offset n
fits_some tables offset c differs fits = MatchBool-at_false {b = offset == no_type_set} (c ≡ None)
    ((n : ℕ) × (c ≡ Some n) × SetContains tables offset n) (ne_eqb offset no_type_set differs) fits

pub some_fits : (tables : TableContents) (offset n : ℕ) → (offset ≡ no_type_set → ⊥) → SetContains tables offset n
    → ControlNumberFits tables offset (Some n)
some_fits tables offset n differs contains =
    subst (λ b. MatchBool b (Some n ≡ None) ((m : ℕ) × (Some n ≡ Some m) × SetContains tables offset m))
    (sym (ne_eqb offset no_type_set differs)) (n, refl, contains)

-- what fits a control is the number of a type
pub control_typed : (tables : TableContents) (offset : ℕ) (c : Option ℕ) (n : ℕ) → ControlNumberFits tables offset c → c ≡ Some n
    → IsTypeNumber n
control_typed tables offset c n fits e = by_test (offset == no_type_set) fits
  where
    by_test : (b : Bool) → MatchBool b (c ≡ None) ((m : ℕ) × (c ≡ Some m) × SetContains tables offset m) → IsTypeNumber n
    by_test true none = let both : None ≡ Some n = sym none ∙ e in absurd (cc)
    by_test false (m, is, contains) =
        set_typed tables offset n (subst (SetContains tables offset) (same_Some m n (sym is ∙ e)) contains)

-- ---- operands

pub types_alone : (tables : TableContents) (c : Which → Option ℕ) → IsWellFormedOpcodes tables
    → ((a : Which) (n : ℕ) → c a ≡ Some n → IsTypeNumber n) → TypesAlonePass tables c
types_alone tables c well typed place n p =
    by_constraint p.constraint (at_place (IsWellFormedConstraint (length tables.type_sets)) tables.operand_constraints place p.constraint
    well.parts.constraints p.is_constraint) p.passes
  where
    by_constraint : (x : NumberConstraint) → IsWellFormedConstraint (length tables.type_sets) x → NumberPasses tables c x n → IsTypeNumber n
    by_constraint (ConcreteNumber m) is e = subst IsTypeNumber (sym e) is
    by_constraint (FreeOf j) is s = set_typed tables j n s
    by_constraint (SameNumber a) is e = typed a n e
    by_constraint (ByNumber a f) is (u, e, steps) = subst IsTypeNumber steps.number_to (number_is_one steps.to steps.steps.to)

-- under controls that fit types alone pass
pub fitting_types : (tables : TableContents) (e : OpcodeNumbers) (c : ControlTypes) → IsWellFormedOpcodes tables
    → ControlNumberFits tables e.typeset_offset c.ctrl → ControlNumberFits tables e.second_offset c.second
    → TypesAlonePass tables (numbers_of c)
fitting_types tables e c well first second = types_alone tables (numbers_of c) well typed
  where
    typed : (a : Which) (n : ℕ) → numbers_of c a ≡ Some n → IsTypeNumber n
    typed First n is = control_typed tables e.typeset_offset c.ctrl n first is
    typed Second n is = control_typed tables e.second_offset c.second n second is

-- both controls fit where each does
pub fits_both : (tables : TableContents) (e : OpcodeNumbers) (c : ControlTypes) → ControlNumberFits tables e.typeset_offset c.ctrl
    → ControlNumberFits tables e.second_offset c.second → (a : Which) → ControlNumberFits tables (offset_of e a) (numbers_of c a)
fits_both tables e c first second First = first
fits_both tables e c first second Second = second
