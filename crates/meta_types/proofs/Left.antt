-- What an iterator has still to give.
use Rattle.std.proofs.Common.{◌≡◌, List, [], ◌∷◌, Contains, subst, ⊎_elim}
use Rattle.meta_lists.proofs.Contained.{contains_cases, contains_none}

-- what isn't the item that came is still to come
pub still_left : {X : Type 0} → (left rest : List X) (came x : X) → left ≡ came ∷ rest → Contains left x → (came ≡ x → ⊥) → Contains rest x
still_left left rest came x e c other =
    ⊎_elim (λ is. absurd (other is)) (λ still. still) (contains_cases came x rest (subst (λ xs. Contains xs x) e c))

-- nothing is left of nothing
pub none_left : {X : Type 0} → (left : List X) (x : X) → left ≡ [] → Contains left x → ⊥
none_left left x e c = contains_none x (subst (λ xs. Contains xs x) e c)
