-- Constraints of one form mean the same.
use Rattle.std.proofs.Common.{◌≡◌, ◌≢◌, ◌↔◌, ◌⊎◌, ◌<◌, ◌≤◌, ℕ, Option, None, Some, refl, sym, ◌∙◌, subst, inl, inr}
use Rattle.std.proofs.Common.{arith}
use Rattle.std.proofs.lemmas.Option.{same_Some, slice_get_within}
use Rattle.meta_typevar.specs.Masks.{ContainsNumber}
use Rattle.meta_inst.specs.Which.{Which}
use Rattle.meta_inst.specs.Tables.{TableContents, NumberConstraint, ConcreteNumber, FreeOf, SameNumber, ByNumber, SetContains}
use Rattle.meta_inst.specs.Tables.{ControlNumberFits, NumberPasses, no_type_set}
use Rattle.meta_gen.specs.WellFormedOpcodes.{IsWellFormedOpcodes}
use Rattle.meta_audit.specs.Comparison.{SameNumbers, SameControl, SameMasks, NamesNoSet, AreOneForm, HaveOneForm}
use Rattle.meta_audit.proofs.Typed.{absent_fits, some_fits, none_fits, number_fits}

-- type sets with the same masks contain the same numbers
contained : (own other : TableContents) (j k n : ℕ) → SameMasks own other j k → SetContains own j n → SetContains other k n
contained own other j k n m c = record {
  masks = m.masks;
  is_set = m.other_at;
  contains = subst (λ x. ContainsNumber x n) (same_Some c.masks m.masks (sym c.is_set ∙ m.at)) c.contains;
}

-- two type sets with the same masks have them in either order
turned : (own other : TableContents) (j k : ℕ) → SameMasks own other j k → SameMasks other own k j
turned own other j k m = record { masks = m.masks; at = m.other_at; other_at = m.at }

-- ---- constraints

-- a constraint that names no type set passes the same numbers in all tables
passes_anywhere : (own other : TableContents) (c : Which → Option ℕ) (n : ℕ) (x : NumberConstraint) → NamesNoSet x → NumberPasses own c x n
    → NumberPasses other c x n
passes_anywhere own other c n (ConcreteNumber m) none p = p
passes_anywhere own other c n (FreeOf j) none p = absurd (none j refl)
passes_anywhere own other c n (SameNumber a) none p = p
passes_anywhere own other c n (ByNumber a f) none p = p

-- what passes one of two constraints of one form passes the other
passes_to : (own other : TableContents) (c : Which → Option ℕ) (n : ℕ) (x y : NumberConstraint) → AreOneForm own other x y
    → NumberPasses own c x n → NumberPasses other c y n
passes_to own other c n x y (inl (none, same)) p = subst (λ z. NumberPasses other c z n) same (passes_anywhere own other c n x none p)
passes_to own other c n x y (inr f) p =
    subst (λ z. NumberPasses other c z n) (sym f.other_names)
    (contained own other f.set f.other_set n f.masks (subst (λ z. NumberPasses own c z n) f.names p))

passes_from : (own other : TableContents) (c : Which → Option ℕ) (n : ℕ) (x y : NumberConstraint) → AreOneForm own other x y
    → NumberPasses other c y n → NumberPasses own c x n
passes_from own other c n x y (inl (none, same)) p =
    passes_anywhere other own c n x none (subst (λ z. NumberPasses other c z n) (sym same) p)
passes_from own other c n x y (inr f) p =
    subst (λ z. NumberPasses own c z n) (sym f.names) (contained other own f.other_set f.set n (turned own other f.set f.other_set f.masks)
    (subst (λ z. NumberPasses other c z n) f.other_names p))

-- Where constraints of one form stand, the same numbers pass.
pub one_form_passes : (own other : TableContents) (p q : ℕ) → HaveOneForm own other p q → (c : Which → Option ℕ)
    → SameNumbers own other c p q
one_form_passes own other p q h c n = (
  λ x. record {
    constraint = h.other_constraint;
    is_constraint = h.other_at;
    passes =
        passes_to own other c n h.constraint h.other_constraint h.one_form
        (subst (λ y. NumberPasses own c y n) (same_Some x.constraint h.constraint (sym x.is_constraint ∙ h.at)) x.passes);
  },
  λ x. record {
    constraint = h.constraint;
    is_constraint = h.at;
    passes =
        passes_from own other c n h.constraint h.other_constraint h.one_form
        (subst (λ y. NumberPasses other c y n) (same_Some x.constraint h.other_constraint (sym x.is_constraint ∙ h.other_at)) x.passes);
  },
)

-- ---- controls

-- a place of a type set says that there is a control
named : (tables other : TableContents) (j k : ℕ) → IsWellFormedOpcodes tables → SameMasks tables other j k → j ≢ no_type_set
named tables other j k well m e =
    let inside = slice_get_within tables.type_sets j m.masks m.at in
    let few = well.parts.few_type_sets in
    omega (arith, inside, few, e)

-- what fits one of two controls whose type sets have the same masks fits the other
fits_to : (own other : TableContents) (j k : ℕ) → IsWellFormedOpcodes own → IsWellFormedOpcodes other → SameMasks own other j k
    → (c : Option ℕ) → ControlNumberFits own j c → ControlNumberFits other k c
fits_to own other j k own_well well m None fits = absurd (named own other j k own_well m (none_fits own j fits))
fits_to own other j k own_well well m (Some n) fits =
    some_fits other k (named other own k j well (turned own other j k m)) n (contained own other j k n m (number_fits own j n fits))

-- The same fits controls whose type sets have the same masks.
pub same_masks_fit : (own other : TableContents) (j k : ℕ) → IsWellFormedOpcodes own → IsWellFormedOpcodes other → SameMasks own other j k
    → SameControl own other j k
same_masks_fit own other j k own_well well m c =
    (fits_to own other j k own_well well m c, fits_to other own k j well own_well (turned own other j k m) c)

-- The same fits two offsets if neither has a control.
pub none_there : (own other : TableContents) (j k : ℕ) → ControlNumberFits own j None → ControlNumberFits other k None
    → SameControl own other j k
none_there own other j k none other_none c =
    let mine = absent_fits own j (none_fits own j none) c in
    let theirs = absent_fits other k (none_fits other k other_none) c in
    ((λ f. theirs.1 (mine.0 f)), (λ f. mine.1 (theirs.0 f)))
