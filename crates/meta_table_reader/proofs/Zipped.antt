-- Lists that are related place by place.
use Rattle.std.proofs.Common.{◌≡◌, ℕ, zero, suc, ◌<◌, List, [], ◌∷◌, ◌++◌, length, get_or, slice_get, Some, refl, ap, subst, arith}
use Rattle.std.proofs.lemmas.Option.{get_or_from_slice_get, slice_get_within}
use Rattle.std.specs.List.{AllZip}

-- one more on both
pub zip_push : {A B : Type 0} (R : A → B → Type 0) (xs : List A) (ys : List B) (x : A) (y : B) → AllZip R xs ys → R x y
    → AllZip R (xs ++ x ∷ []) (ys ++ y ∷ [])
zip_push R [] [] x y all more = (more, tt)
zip_push R [] (b ∷ ys) x y all more = absurd all
zip_push R (a ∷ xs) [] x y all more = absurd all
zip_push R (a ∷ xs) (b ∷ ys) x y (here, all) more = (here, zip_push R xs ys x y all more)

-- they are equally long
pub zip_count : {A B : Type 0} (R : A → B → Type 0) (xs : List A) (ys : List B) → AllZip R xs ys → length ys ≡ length xs
zip_count R [] [] all = refl
zip_count R [] (y ∷ ys) all = absurd all
zip_count R (x ∷ xs) [] all = absurd all
zip_count R (x ∷ xs) (y ∷ ys) (here, all) = ap suc (zip_count R xs ys all)

-- at each place
zip_at : {A B : Type 0} (R : A → B → Type 0) (xs : List A) (ys : List B) → AllZip R xs ys → (k : ℕ) (d : A) (e : B) → k < length xs
    → R (get_or xs k d) (get_or ys k e)
zip_at R [] ys all k d e within = absurd (omega (arith, within))
zip_at R (x ∷ xs) [] all k d e within = absurd all
zip_at R (x ∷ xs) (y ∷ ys) (here, all) zero d e within = here
zip_at R (x ∷ xs) (y ∷ ys) (here, all) (suc k) d e within = zip_at R xs ys all k d e (omega (arith, within))

pub zip_each : {A B : Type 0} (R : A → B → Type 0) (xs : List A) (ys : List B) → AllZip R xs ys → (k : ℕ) (x : A) (y : B)
    → slice_get xs k ≡ Some x → slice_get ys k ≡ Some y → R x y
zip_each R xs ys all k x y there other =
    let both = zip_at R xs ys all k x y (slice_get_within xs k x there) in
    subst (λ a. R a y) (get_or_from_slice_get xs k x x there) (subst (R (get_or xs k x)) (get_or_from_slice_get ys k y y other) both)
