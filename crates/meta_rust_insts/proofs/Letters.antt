-- The snake case of a text, character by character.
use Rattle.std.proofs.Common.{◌≡◌, ℕ, ◌<◌, ◌≤◌, ◌||◌, Bool, true, false, List, [], ◌∷◌, ◌++◌, length, ap}
use Rattle.std.proofs.Common.{◌∙◌, sym, refl, arith, ⊎_elim, append_assoc}
use Rattle.std.proofs.lemmas.List.{append-nil, nil_from_length}
use Rattle.std.proofs.lemmas.Str.{encode_ascii}
use Rattle.std.proofs.lemmas.Str.Ascii.{lowercase_ascii}
use Rattle.std.proofs.lemmas.Bool.Decides.{nat_tests}
use Rattle.std.proofs.lemmas.Bool.{cases_lt}
use Rattle.std.specs.Char.{is_ascii_uppercase, to_ascii_lowercase}
use lib.Utf8.{encode}
use Rattle.meta_types.proofs.Characters.{ArePast, all_past, past_ascii}
use Rattle.meta_rust_insts.specs.EntityWord.{mark_before, snake_from}

-- a byte past ASCII stays as it is
high : (b : ℕ) (later : Bool) (rest : List ℕ) → 128 ≤ b → snake_from later (b ∷ rest) ≡ b ∷ snake_from later rest
high b true rest h = grind (arith, nat_tests)
high b false rest h = grind (arith, nat_tests)

-- bytes past ASCII stay as they are
stay : (bs : List ℕ) (later : Bool) (rest : List ℕ) → ArePast bs → snake_from later (bs ++ rest) ≡ bs ++ snake_from later rest
stay [] later rest h = refl
stay (b ∷ bs) later rest (h, hs) = high b later (bs ++ rest) h ∙ ap (◌∷◌ b) (stay bs later rest hs)

-- a character past ASCII stays as it is
snake_from-high : (c : ℕ) (later : Bool) (rest : List ℕ) → 128 ≤ c → snake_from later (encode c ++ rest) ≡ encode c ++ snake_from later rest
snake_from-high c later rest h = stay (encode c) later rest (all_past (encode c) (past_ascii c h))

-- no mark stands before a character past ASCII, which is no capital; and such a character is its own small letter
none_before : (later : Bool) (c : ℕ) → 128 ≤ c → mark_before later c ≡ []
none_before true c h = grind (arith, nat_tests)
none_before false c h = refl

none_after : (later : Bool) (c : ℕ) (rest : List ℕ) → 128 ≤ c → snake_from later rest ≡ snake_from (later || is_ascii_uppercase c) rest
none_after true c rest h = refl
none_after false c rest h = grind (arith, nat_tests)

small_high : (c : ℕ) → 128 ≤ c → to_ascii_lowercase c ≡ c
small_high c h = grind (arith, nat_tests)

-- one more character
snake_from-char : (later : Bool) (c : ℕ) (rest : List ℕ) → snake_from later (encode c ++ rest)
    ≡ mark_before later c ++ (encode (to_ascii_lowercase c) ++ snake_from (later || is_ascii_uppercase c) rest)
snake_from-char later c rest = ⊎_elim ascii past (cases_lt c 128)
  where
    ascii : c < 128 → snake_from later (encode c ++ rest)
        ≡ mark_before later c ++ (encode (to_ascii_lowercase c) ++ snake_from (later || is_ascii_uppercase c) rest)
    ascii l = rw (encode_ascii c l, encode_ascii (to_ascii_lowercase c) (lowercase_ascii c l)) refl

    past : 128 ≤ c → snake_from later (encode c ++ rest)
        ≡ mark_before later c ++ (encode (to_ascii_lowercase c) ++ snake_from (later || is_ascii_uppercase c) rest)
    past l = rw (none_before later c l, small_high c l)
        (snake_from-high c later rest l ∙ ap (λ z. encode c ++ z) (none_after later c rest l))

-- a character that is written as a small letter after its mark
pub snake_more : (old new mark : List ℕ) (later : Bool) (c letter : ℕ) (rest : List ℕ)
    → new ≡ old ++ (mark ++ encode letter) → mark ≡ mark_before later c → letter ≡ to_ascii_lowercase c
    → new ++ snake_from (later || is_ascii_uppercase c) rest ≡ old ++ snake_from later (encode c ++ rest)
snake_more old new mark later c letter rest written before small =
    rw (written, before, small, append_assoc, append_assoc) (ap (λ z. old ++ z) (sym (snake_from-char later c rest)))

-- after one more character, what is written and the snake case of what is left are still the same text
pub snake_step : (old new name left rest letter : List ℕ) (later further capital : Bool) → old ++ snake_from later left ≡ name
    → left ≡ letter ++ rest
    → ((r : List ℕ) → new ++ snake_from (later || capital) r ≡ old ++ snake_from later (letter ++ r))
    → further ≡ (later || capital) → new ++ snake_from further rest ≡ name
snake_step old new name left rest letter later further capital here steps written is =
    ap (λ b. new ++ snake_from b rest) is ∙ (written rest ∙ (ap (λ r. old ++ snake_from later r) (sym steps) ∙ here))

-- if nothing is left, all is written
pub snake_end : (old name left : List ℕ) (later : Bool) → old ++ snake_from later left ≡ name → length left ≡ 0 → old ≡ name
snake_end old name left later here none = sym (append-nil old)
    ∙ (ap (λ r. old ++ snake_from later r) (sym (nil_from_length left none)) ∙ here)
