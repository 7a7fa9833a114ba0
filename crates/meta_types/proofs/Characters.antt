-- The bytes of a character past ASCII: there are some, and all are past ASCII.
use Rattle.std.proofs.Common.{◌≡◌, ℕ, ◌/◌, ◌+◌, ◌≤◌, Bool, true, false, cond, ltb, List, [], ◌∷◌, arith}
use Rattle.std.specs.Prelude.{⊤}
use Rattle.std.proofs.lemmas.Bool.Decides.{nat_tests}
use lib.Utf8.{encode, next}

-- bytes past ASCII
abbrev pub ArePast : List ℕ → Type 0
ArePast [] = ⊤
ArePast (b ∷ bs) = (128 ≤ b) × ArePast bs

-- one of them at least
abbrev pub AreSomePast : List ℕ → Type 0
AreSomePast [] = ⊥
AreSomePast (b ∷ bs) = (128 ≤ b) × ArePast bs

pub all_past : (bs : List ℕ) → AreSomePast bs → ArePast bs
all_past [] h = absurd h
all_past (b ∷ bs) h = h

-- of two lists of bytes
either : (b : Bool) (xs ys : List ℕ) → AreSomePast xs → AreSomePast ys → AreSomePast (cond b xs ys)
either true xs ys p q = p
either false xs ys p q = q

-- the bytes of a character past ASCII are so, whether they are two, three or four
pub past_ascii : (c : ℕ) → 128 ≤ c → AreSomePast (encode c)
unfolding encode
past_ascii c h =
    let more : ltb c 128 ≡ false = grind (arith, nat_tests) in
    rw more
    (either (ltb c 2048) ((192 + c / 64) ∷ next c ∷ []) _ (omega arith, (omega arith, tt))
    (either (ltb c 65536) ((224 + c / 4096) ∷ next (c / 64) ∷ next c ∷ [])
    ((240 + c / 262144) ∷ next (c / 4096) ∷ next (c / 64) ∷ next c ∷ [])
    (omega arith, (omega arith, (omega arith, tt))) (omega arith, (omega arith, (omega arith, (omega arith, tt))))))
