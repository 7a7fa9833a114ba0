-- Lists of constraints that overlap.
use Rattle.std.proofs.Common.{◌≡◌, ◌≤◌, ◌+◌, ℕ, eqb, true, List, [], ◌∷◌, ◌++◌, length, take, drop, slice_get, Some, refl, sym, ap}
use Rattle.std.proofs.Common.{◌∙◌, subst, length-append}
use Rattle.std.specs.Bool.{Decides}
use Rattle.std.specs.List.{starts_with}
use Rattle.std.specs.Cmp.Lexicographic.{pointwise, pointwise_decides}
use Rattle.std.proofs.Math.Seq.{take-append_seam, drop-append_seam, take-length}
use Rattle.std.proofs.lemmas.List.Sums.{fold-append}
use Rattle.std.proofs.lemmas.Bool.{eqb-true, eq-eqb}
use Rattle.std.proofs.lemmas.Option.{slice_get_within}
use Rattle.meta_lists.proofs.Places.{get_take, get_drop}
use Rattle.meta_unique.specs.Overlap.{AreAlike, added, stands_at, IsShortest}
use Rattle.meta_gen.specs.Entries.{StaysIn}
use Rattle.meta_gen.specs.ConstraintLists.{same_constraint, three_same, overlapped}
use Rattle.meta_gen.specs.declared.constraint.Constraint.{Constraint}
use Rattle.meta_gen.specs.contracts.constraint.Constraint.{enum}
use Rattle.meta_gen.proofs.Variants.{by_decides}

-- the fields of two values of a variant that has one number, and of one that has none
number : (x y : ℕ × Unit {0}) → Decides (eqb x.0 y.0) (x ≡ y)
number x y = (λ e. ap (λ (n : ℕ). (n, tt {0})) (eqb-true x.0 y.0 e), λ e. eq-eqb x.0 y.0 (ap (λ (z : ℕ × Unit {0}). z.0) e))

none : (x y : Unit {0}) → Decides true (x ≡ y)
none x y = (λ e. refl, λ e. refl)

-- whether two compare equal decides whether they are one
pub decides : (a b : Constraint) → Decides (same_constraint a b) (a ≡ b)
decides = by_decides enum _ (
  number,
  (
    number,
    (
      none,
      (
        none,
        (
          none,
          (
            none,
            (
              none,
              (
                none,
                (
                  none,
                  (
                    none,
                    (
                      none,
                      (none, (none, (none, (none, (none, (none, (none, (none, (none, (none, (none, tt {0}))))))))))),
                    ),
                  ),
                ),
              ),
            ),
          ),
        ),
      ),
    ),
  ),
)

-- equal lists are one
alike : (xs ys : List Constraint) → pointwise same_constraint xs ys ≡ true → xs ≡ ys
alike xs ys = (pointwise_decides decides xs ys).0

unlike : (xs ys : List Constraint) → xs ≡ ys → pointwise same_constraint xs ys ≡ true
unlike xs ys = (pointwise_decides decides xs ys).1

-- what is added to is that list
pub made_is : (old list new : List Constraint) → AreAlike same_constraint (added same_constraint old list) new
    → new ≡ added same_constraint old list
made_is old list new e = sym (alike (added same_constraint old list) new e)

-- what the longer list keeps in front stays
pub kept_stays : (old new : List Constraint) → take (length old) new ≡ old → StaysIn old new
kept_stays old new kept k x at =
    let inside = slice_get_within old k x at in
    sym (get_take new (length old) k inside) ∙ ap (λ xs. slice_get xs k) kept ∙ at

-- an element of a list that stands in the table stands there
pub stands_read : (table list : List Constraint) (place : ℕ) → stands_at same_constraint table list place ≡ true → (k : ℕ) (x : Constraint)
    → slice_get list k ≡ Some x → slice_get table (place + k) ≡ Some x
stands_read table list place e k x at =
    let inside = slice_get_within list k x at in
    let same : list ≡ take (length list) (drop place table) = alike list (take (length list) (drop place table)) e in
    sym (sym at ∙ ap (λ xs. slice_get xs k) same ∙ get_take (drop place table) (length list) k inside ∙ get_drop table place k)

-- the table grows by the list at most
pub grows : (old list new : List Constraint) → IsShortest same_constraint old list new → length new ≤ length old + length list
grows old list new h =
    let front : starts_with same_constraint (old ++ list) old ≡ true =
    unlike old (take (length old) (old ++ list)) (sym (take-append_seam old list)) in
    let after : stands_at same_constraint (old ++ list) list (length old) ≡ true =
    unlike list (take (length list) (drop (length old) (old ++ list))) (sym (ap (take (length list)) (drop-append_seam old list)
    ∙ take-length list)) in
    subst (λ n. length new ≤ n) (length-append old list) (h (old ++ list) (length old) front after)

-- one list more
pub one_list_more : (lists : List (List Constraint)) (list : List Constraint)
    → overlapped (lists ++ list ∷ []) ≡ added same_constraint (overlapped lists) list
one_list_more lists list = fold-append (added same_constraint) three_same lists (list ∷ [])
