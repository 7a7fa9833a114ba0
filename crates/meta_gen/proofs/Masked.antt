-- The masks of the sets, one after another.
use Rattle.std.proofs.Common.{◌≡◌, ◌+◌, ⊎_elim, List, [], ◌∷◌, ◌++◌, length, length-append, Bor, refl, sym, ap, ◌∙◌, subst, arith}
use Rattle.std.proofs.lemmas.List.{append-nil}
use Rattle.meta_lists.proofs.Pushed.{get_pushed_below, stays, last, one_longer}
use Rattle.meta_typevar.specs.TypeSetParts.{TypeSetParts}
use Rattle.meta_typevar.specs.Masks.{AreMasksOf}
use Rattle.meta_typevar.specs.declared.masks.Masks.{Masks}
use Rattle.meta_unique.specs.Interning.{pointed_to}
use Rattle.meta_build.specs.Needed.{StandForSets}

-- no masks stand for no sets
pub none_stand : StandForSets [] []
none_stand = record { count = refl; each = λ k s at. absurd (cc) }

-- one more set and its masks
pub one_stands : (masks more : List Masks) (sets : List TypeSetParts) (m : Masks) (s : TypeSetParts)
    → more ≡ masks ++ m ∷ [] → AreMasksOf s m → StandForSets masks sets → StandForSets more (sets ++ s ∷ [])
one_stands masks more sets m s pushed are h = record {
  count = one_longer masks more m pushed ∙ ap (λ n. n + 1) h.count ∙ sym (length-append sets (s ∷ []));
  each = λ k t at. ⊎_elim
      (λ o. let (x, there, are_x) = h.each k t o.1 in (x, stays masks more m pushed k x there, are_x))
      (λ e. (m, last masks more m pushed k (e.0 ∙ sym h.count), subst (λ (q : TypeSetParts). AreMasksOf q m) e.1 are))
      (get_pushed_below sets s k t at);
}

-- what is left moves to the front
pub moved : (front : List TypeSetParts) (s : TypeSetParts) (rest : List TypeSetParts) → front ++ (s ∷ rest) ≡ (front ++ s ∷ []) ++ rest
moved [] s rest = refl
moved (x ∷ xs) s rest = ap (λ ys. x ∷ ys) (moved xs s rest)

-- where nothing is left all sets have their masks
pub all_stand : (masks : List Masks) (front sets : List TypeSetParts) (rest : List (Bor TypeSetParts))
    → StandForSets masks front → sets ≡ front ++ pointed_to rest → length rest ≡ 0 → StandForSets masks sets
all_stand masks front sets [] h whole none = subst (StandForSets masks) (sym (whole ∙ append-nil front)) h
all_stand masks front sets (x ∷ xs) h whole none = absurd (omega (arith, none))
