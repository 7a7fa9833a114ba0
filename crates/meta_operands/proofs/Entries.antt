-- Building the values of an enum in order.
use Rattle.std.proofs.Common.{◌≡◌, ℕ, List, [], ◌∷◌, ◌++◌, refl, sym, ap, subst, ◌∙◌, append_assoc}
use Rattle.std.specs.declared.cmp.Ordering.TheVariants.{Less, Greater}
use Rattle.std.specs.Ordering.{ordering_reverse, match_ordering}
use Rattle.std.specs.Cmp.Lexicographic.{nat_list_cmp_total}
use Rattle.std.specs.List.{AllByRecursion}
use Rattle.std.specs.Map.{keys_of}
use Rattle.std.proofs.lemmas.Map.Keys.{sorted_head, sorted_tail}
use Rattle.meta_operands.specs.EnumEntries.{EnumEntries, AreInOrder, by_bytes, with_value}

-- a name that is below all of these is below the one that stands among them
below_this : (least : List ℕ) (es rest : EnumEntries) (name value : List ℕ)
    → AllByRecursion (λ y. by_bytes least y ≡ Less) (keys_of (es ++ (name, value) ∷ rest)) → by_bytes least name ≡ Less
below_this least [] rest name value h = h.0
below_this least (e ∷ es) rest name value h = below_this least es rest name value h.1

-- the last name goes to the end
with_last : (es rest : EnumEntries) (name value : List ℕ) → AreInOrder (es ++ (name, value) ∷ rest)
    → with_value es name value ≡ es ++ (name, value) ∷ []
with_last [] rest name value h = refl
with_last (e ∷ es) rest name value h =
    let below : by_bytes e.0 name ≡ Less = below_this e.0 es rest name value
    (sorted_head by_bytes e.0 (keys_of (es ++ (name, value) ∷ rest)) h) in
    let above : by_bytes name e.0 ≡ Greater = nat_list_cmp_total.antisymm name e.0 ∙ ap ordering_reverse below in
    let last : with_value es name value ≡ es ++ (name, value) ∷ [] =
    with_last es rest name value (sorted_tail by_bytes e.0 (keys_of (es ++ (name, value) ∷ rest)) h) in
    ap (λ o. match_ordering o ((name, value) ∷ e ∷ es) ((e.0, value) ∷ es) (e ∷ with_value es name value)) above ∙ ap (λ t. e ∷ t) last

-- one more of the values in order: a copy of the first of those that are left is put to the others
pub one_more : (all es left rest new : EnumEntries) (name value copy_of_name copy_of_value : List ℕ) → AreInOrder all
    → es ++ left ≡ all → left ≡ (name, value) ∷ rest → copy_of_name ≡ name → copy_of_value ≡ value
    → new ≡ with_value es copy_of_name copy_of_value → new ++ rest ≡ all
one_more all es left rest new name value copy_of_name copy_of_value ordered before first same_name same_value added =
    let whole : es ++ (name, value) ∷ rest ≡ all = ap (λ l. es ++ l) (sym first) ∙ before in
    let put : new ≡ with_value es name value = added ∙ ap (λ n. with_value es n copy_of_value) same_name
    ∙ ap (λ v. with_value es name v) same_value in
    ap (λ n. n ++ rest) (put ∙ with_last es rest name value (subst AreInOrder (sym whole) ordered))
    ∙ append_assoc es ((name, value) ∷ []) rest ∙ whole
