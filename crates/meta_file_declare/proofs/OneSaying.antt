-- Items say one thing, and nothing where one of them is wrong.
use Rattle.std.proofs.Common.{◌≡◌, ◌<◌, inl, inr, ℕ, List, Option, Some, None, length, refl, sym, ap, ◌∙◌, arith}
use Rattle.std.proofs.lemmas.Bool.{cases_lt}
use Rattle.std.specs.List.{slice_get}
use Rattle.std.specs.Option.{option_and_then}
use Rattle.std.proofs.lemmas.Option.{slice_get_within}
use Rattle.meta_build.specs.AllDeclared.{Declared}
use Rattle.meta_file_syntax.specs.declared.items.Item.{Item}
use Rattle.meta_file_declare.specs.AllItems.{wrong_in, IsFirstWrong, Declares}
use Rattle.meta_file_types.specs.declared.refused.Reason.{Reason}

-- a wrong item stands among the items
within_by : (items : List Item) (place : ℕ) (f : Item → Option Reason) (o : Option Item) (reason : Reason) → slice_get items place ≡ o
    → option_and_then f o ≡ Some reason → place < length items
within_by items place f None reason e h = cc
within_by items place f (Some i) reason e h = slice_get_within items place i e

wrong_within : (items : List Item) (place : ℕ) (reason : Reason) → wrong_in items place ≡ Some reason → place < length items
wrong_within items place reason h = within_by items place _ (slice_get items place) reason refl h

-- what declares something has no wrong item
pub declares_right : (items : List Item) (d : Declared) (place : ℕ) (reason : Reason) → Declares items d → IsFirstWrong items place reason
    → ⊥
declares_right items d place reason h w =
    let never : None ≡ Some reason = sym (h.right place (wrong_within items place reason w.wrong)) ∙ w.wrong in
    cc

-- an item before the first wrong one isn't wrong
not_before : (items : List Item) (p q : ℕ) (r s : Reason) → IsFirstWrong items p r → IsFirstWrong items q s → p < q → ⊥
not_before items p q r s h g less = let never : None ≡ Some r = sym (g.before p less) ∙ h.wrong in cc

-- one item is the first that is wrong
one_place : (items : List Item) (p q : ℕ) (r s : Reason) → IsFirstWrong items p r → IsFirstWrong items q s → p ≡ q
one_place items p q r s h g = elim (cases_lt p q) [
  | inl less ↦ absurd (not_before items p q r s h g less)
  | inr more ↦ elim (cases_lt q p) [
    | inl less ↦ absurd (not_before items q p s r g h less)
    | inr less ↦ omega arith
  ]
]

pub one_wrong : (items : List Item) (p q : ℕ) (r s : Reason) → IsFirstWrong items p r → IsFirstWrong items q s → (p ≡ q) × (r ≡ s)
one_wrong items p q r s h g =
    let same : p ≡ q = one_place items p q r s h g in
    let one : Some r ≡ Some s = sym h.wrong ∙ ap (wrong_in items) same ∙ g.wrong in
    (same, cc)
