-- The camel case of a text, character by character.
use Rattle.std.proofs.Common.{◌≡◌, ℕ, ◌<◌, ◌≤◌, ◌≢◌, Bool, true, false, List, [], ◌∷◌, ◌++◌, ap, ◌∙◌, sym, refl, arith, ⊎_elim}
use Rattle.std.proofs.Common.{append_assoc, length}
use Rattle.std.proofs.lemmas.List.{append-nil, nil_from_length}
use Rattle.std.proofs.lemmas.Str.{encode_ascii}
use Rattle.std.proofs.lemmas.Bool.Decides.{nat_tests}
use Rattle.std.proofs.lemmas.Bool.{cases_lt}
use lib.Utf8.{encode}
use Rattle.meta_types.specs.CamelCase.{capital_at, camel_from}
use Rattle.meta_types.proofs.Characters.{ArePast, AreSomePast, past_ascii}

-- a byte past ASCII stays as it is
high : (b : ℕ) (up : Bool) (rest : List ℕ) → 128 ≤ b → camel_from up (b ∷ rest) ≡ b ∷ camel_from false rest
high b true rest h = grind (arith, nat_tests)
high b false rest h = grind (arith, nat_tests)

-- so do bytes past ASCII that follow one another
stay : (bs : List ℕ) (rest : List ℕ) → ArePast bs → camel_from false (bs ++ rest) ≡ bs ++ camel_from false rest
stay [] rest h = refl
stay (b ∷ bs) rest (h, hs) = high b false (bs ++ rest) h ∙ ap (◌∷◌ b) (stay bs rest hs)

some_stay : (bs : List ℕ) (up : Bool) (rest : List ℕ) → AreSomePast bs → camel_from up (bs ++ rest) ≡ bs ++ camel_from false rest
some_stay [] up rest h = absurd h
some_stay (b ∷ bs) up rest (h, hs) = high b up (bs ++ rest) h ∙ ap (◌∷◌ b) (stay bs rest hs)

-- and a character past ASCII
camel_from-high : (c : ℕ) (up : Bool) (rest : List ℕ) → 128 ≤ c → camel_from up (encode c ++ rest) ≡ encode c ++ camel_from false rest
camel_from-high c up rest h = some_stay (encode c) up rest (past_ascii c h)

capital_ascii : (up : Bool) (c : ℕ) → c < 128 → capital_at up c < 128
capital_ascii true c h = grind (arith, nat_tests)
capital_ascii false c h = h

capital_high : (up : Bool) (c : ℕ) → 128 ≤ c → capital_at up c ≡ c
capital_high true c h = grind (arith, nat_tests)
capital_high false c h = refl

-- any other character stays, or becomes a capital
pub camel_from-char : (c : ℕ) (up : Bool) (rest : List ℕ) → c ≢ 95
    → camel_from up (encode c ++ rest) ≡ encode (capital_at up c) ++ camel_from false rest
camel_from-char c up rest h = ⊎_elim (ascii c up rest h) (past c up rest) (cases_lt c 128)
  where
    plain : (b : ℕ) (up : Bool) (rest : List ℕ) → b ≢ 95 → camel_from up (b ∷ rest) ≡ capital_at up b ∷ camel_from false rest
    plain b true rest n = grind (arith, nat_tests)
    plain b false rest n = grind (arith, nat_tests)

    ascii : (c : ℕ) (up : Bool) (rest : List ℕ) → c ≢ 95 → c < 128
        → camel_from up (encode c ++ rest) ≡ encode (capital_at up c) ++ camel_from false rest
    ascii c up rest n l = rw (encode_ascii c l, encode_ascii (capital_at up c) (capital_ascii up c l)) (plain c up rest n)

    past : (c : ℕ) (up : Bool) (rest : List ℕ) → 128 ≤ c → camel_from up (encode c ++ rest)
        ≡ encode (capital_at up c) ++ camel_from false rest
    past c up rest l = rw (capital_high up c l) (camel_from-high c up rest l)

-- one more character is written
pub camel_more : (out more it rest all : List ℕ) (up : Bool) (c ch : ℕ) → more ≡ out ++ encode ch → ch ≡ capital_at up c
    → it ≡ encode c ++ rest → c ≢ 95 → out ++ camel_from up it ≡ all → more ++ camel_from false rest ≡ all
camel_more out more it rest all up c ch pushed is next n before =
    rw (pushed, is, append_assoc) (ap (λ z. out ++ z) (sym (camel_from-char c up rest n) ∙ ap (camel_from up) (sym next)) ∙ before)

-- a `_` is dropped
pub camel_dropped : (out it rest all : List ℕ) (up : Bool) (c : ℕ) → it ≡ encode c ++ rest → c ≡ 95 → out ++ camel_from up it ≡ all
    → out ++ camel_from true rest ≡ all
camel_dropped out it rest all up c next e before =
    let same : camel_from up it ≡ camel_from true rest =
    ap (camel_from up) (next ∙ ap (λ k. encode k ++ rest) e ∙ ap (λ w. w ++ rest) (encode_ascii 95 (omega arith))) in
    ap (λ z. out ++ z) (sym same) ∙ before

-- nothing is left
pub camel_end : (out it all : List ℕ) (up : Bool) → length it ≡ 0 → out ++ camel_from up it ≡ all → out ≡ all
camel_end out it all up e before = sym (append-nil out) ∙ ap (λ z. out ++ camel_from up z) (sym (nil_from_length it e)) ∙ before
