-- What a function makes of a list.
use Rattle.std.proofs.Common.{◌≡◌, ℕ, zero, suc, List, [], ◌∷◌, map, slice_get, option_map, Some, refl, sym, ap, ◌∙◌}
use Rattle.std.proofs.lemmas.Option.{slice_get-map}

pub get_map : {X Y : Type 0} (f : X → Y) (xs : List X) (k : ℕ) (x : X) → slice_get xs k ≡ Some x → slice_get (map f xs) k ≡ Some (f x)
get_map f xs k x e = slice_get-map f xs k ∙ ap (option_map f) e

-- an element of a mapped list comes from the element at the same place
pub get_mapped : {X Y : Type 0} (f : X → Y) (xs : List X) (k : ℕ) (y : Y) → slice_get (map f xs) k ≡ Some y
    → (x : X) × (slice_get xs k ≡ Some x) × (f x ≡ y)
get_mapped f [] k y e = absurd (cc)
get_mapped f (x ∷ xs) zero y e = (x, refl, cc)
get_mapped f (x ∷ xs) (suc k) y e = get_mapped f xs k y e

-- a mapped list that is mapped back is the list itself
map_back : {X Y : Type 0} (f : X → Y) (g : Y → X) → ((x : X) → g (f x) ≡ x) → (xs : List X) → map g (map f xs) ≡ xs
map_back f g back [] = refl
map_back f g back (x ∷ xs) = λ i. back x i ∷ map_back f g back xs i

pub same_mapped : {X Y : Type 0} (f : X → Y) (g : Y → X) → ((x : X) → g (f x) ≡ x) → (xs ys : List X) → map f xs ≡ map f ys → xs ≡ ys
same_mapped f g back xs ys e = sym (map_back f g back xs) ∙ ap (map g) e ∙ map_back f g back ys
