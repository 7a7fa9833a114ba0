-- Lists that are added for elements by their places, and what is left to add.
use Rattle.std.proofs.Common.{◌≡◌, ℕ, ◌+◌, ◌<◌, ◌≤◌, suc, List, [], ◌++◌, length, drop, get_or, sym, ap, ◌∙◌}
use Rattle.std.proofs.Common.{append_assoc, append-nil, add-one, zero-add, drop-cons, arith}
use Rattle.std.specs.List.{flat_map, enumerate_from}
use Rattle.std.proofs.lemmas.List.{drop_all}
use Rattle.std.proofs.lemmas.List.FromFn.{length-enumerate_from, get_or-enumerate_from}

-- a piece of what is left is added
moved : {Y : Type 0} (out piece rest new left whole : List Y) → new ≡ out ++ piece → left ≡ piece ++ rest → out ++ left ≡ whole
    → new ++ rest ≡ whole
moved out piece rest new left whole added parts so_far =
    ap (λ o. o ++ rest) added ∙ append_assoc out piece rest ∙ ap (λ t. out ++ t) (sym parts) ∙ so_far

-- nothing is left
ended : {Y : Type 0} (out left whole : List Y) → left ≡ [] → out ++ left ≡ whole → out ≡ whole
ended out left whole none so_far = sym (append-nil out) ∙ ap (λ t. out ++ t) (sym none) ∙ so_far

placed_left : {X Y : Type 0} (f : ℕ × X → List Y) (xs : List X) (i : ℕ) (x : X) → i < length xs → x ≡ get_or xs i x
    → flat_map f (drop i (enumerate_from 0 xs)) ≡ f (i, x) ++ flat_map f (drop (i + 1) (enumerate_from 0 xs))
placed_left {X} f xs i x inside at =
    let here : get_or (enumerate_from 0 xs) i (i, x) ≡ (i, x) = get_or-enumerate_from 0 xs i (i, x) inside
    ∙ (λ j. (zero-add i j, sym at j)) in
    let long : i < length (enumerate_from 0 xs) = omega (arith, inside, length-enumerate_from 0 xs) in
    ap (flat_map f) (drop-cons (enumerate_from 0 xs) i (i, x) long)
    ∙ ap (λ (p : ℕ × X). f p ++ flat_map f (drop (suc i) (enumerate_from 0 xs))) here
    ∙ ap (λ k. f (i, x) ++ flat_map f (drop k (enumerate_from 0 xs))) (sym (add-one i))

pub next_placed : {X Y : Type 0} (f : ℕ × X → List Y) (xs : List X) (i : ℕ) (x : X) (out new whole : List Y)
    → i < length xs → x ≡ get_or xs i x → new ≡ out ++ f (i, x)
    → out ++ flat_map f (drop i (enumerate_from 0 xs)) ≡ whole → new ++ flat_map f (drop (i + 1) (enumerate_from 0 xs)) ≡ whole
next_placed f xs i x out new whole inside at added so_far = moved out (f (i, x)) _ new _ whole added (placed_left f xs i x inside at) so_far

pub no_placed : {X Y : Type 0} (f : ℕ × X → List Y) (xs : List X) (i : ℕ) (out whole : List Y) → length xs ≤ i
    → out ++ flat_map f (drop i (enumerate_from 0 xs)) ≡ whole → out ≡ whole
no_placed f xs i out whole past so_far =
    let long : length (enumerate_from 0 xs) ≤ i = omega (arith, past, length-enumerate_from 0 xs) in
    ended out _ whole (ap (flat_map f) (drop_all i (enumerate_from 0 xs) long)) so_far
