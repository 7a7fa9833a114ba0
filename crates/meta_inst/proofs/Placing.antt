-- The places of the operands that pass a test, operand by operand.
use Rattle.std.proofs.Common.{◌≡◌, ◌<◌, ◌+◌, rules, ℕ, Bool, true, false, List, [], ◌∷◌, ◌++◌, length, get_or, take, None, Some, refl, sym}
use Rattle.std.proofs.Common.{ap, ◌∙◌, arith, if◌then◌else◌}
use Rattle.std.specs.List.{filter_map, enumerate_from, cons_option}
use Rattle.std.proofs.lemmas.List.{take_more, length-take}
use Rattle.std.proofs.lemmas.List.Elements.{filter_map-append}
use Rattle.meta_operands.specs.declared.operand.Operand.{Operand}
use Rattle.meta_inst.specs.Content.{place_where, places_where}

-- after a list, counting goes on
enumerate_from-append : {X : Type 0} (n : ℕ) (xs ys : List X)
    → enumerate_from n (xs ++ ys) ≡ enumerate_from n xs ++ enumerate_from (n + length xs) ys
enumerate_from-append n [] ys = ap (λ k. enumerate_from k ys) (omega arith)
enumerate_from-append n (x ∷ xs) ys = ap (λ rest. (n, x) ∷ rest) (enumerate_from-append (n + 1) xs ys
    ∙ ap (λ k. enumerate_from (n + 1) xs ++ enumerate_from k ys) (omega arith))

-- one place, where the test holds
-- places with one more, where the test holds
abbrev with_place : List ℕ → ℕ → Bool → List ℕ
with_place places place holds = if holds then (places ++ place ∷ []) else places

one_place : (places : List ℕ) (i : ℕ) (b : Bool) → places ++ cons_option (if b then Some i else None) [] ≡ with_place places i b
one_place places i true = refl
one_place places i false = search rules

-- one more operand
pub more_places : (test : Operand → Bool) (xs : List Operand) (i : ℕ) (x : Operand) (places new : List ℕ) (b : Bool)
    → i < length xs → x ≡ get_or xs i x → places ≡ places_where test (take i xs) → b ≡ test x
    → new ≡ with_place places i b → new ≡ places_where test (take (i + 1) xs)
more_places test xs i x places new b l is so_far tested e =
    let long : 0 + length (take i xs) ≡ i = omega (arith, length-take i xs) in
    let grown : take (i + 1) xs ≡ take i xs ++ x ∷ [] = take_more xs i x l ∙ ap (λ y. take i xs ++ y ∷ []) (sym is) in
    let split : places_where test (take (i + 1) xs) ≡ places_where test (take i xs)
    ++ filter_map (place_where test) (enumerate_from (0 + length (take i xs)) (x ∷ [])) =
    ap (places_where test) grown ∙ ap (filter_map (place_where test)) (enumerate_from-append 0 (take i xs) (x ∷ []))
    ∙ filter_map-append (place_where test) (enumerate_from 0 (take i xs)) (enumerate_from (0 + length (take i xs)) (x ∷ [])) in
    e ∙ (λ j. with_place (so_far j) i (tested j)) ∙ sym (one_place (places_where test (take i xs)) i (test x))
    ∙ ap (λ k. places_where test (take i xs) ++ cons_option (if test x then Some k else None) []) (sym long) ∙ sym split
