-- Texts of opcodes, one after the other.
use Rattle.std.proofs.Common.{◌≡◌, ℕ, zero, suc, ◌+◌, ◌-◌, ◌<◌, ◌≤◌, List, [], ◌++◌, length, ⊎_elim, sym, ap, ◌∙◌, subst, append_assoc}
use Rattle.std.proofs.Common.{append-nil, add-one, arith}
use Rattle.std.proofs.lemmas.Bool.{cases_lt}
use Rattle.std.proofs.lemmas.List.{length-append}
use Rattle.meta_table_text.specs.OpcodeText.{each_opcode}

-- what f gives of the next n opcodes after opcode k
abbrev pub opcodes_after : (ℕ → List ℕ) → ℕ → ℕ → List ℕ
opcodes_after f k zero = []
opcodes_after f k (suc n) = f (suc k) ++ opcodes_after f (suc k) n

-- first come those up to opcode k, and then those after it
pub parted_at : (f : ℕ → List ℕ) (k n : ℕ) → each_opcode f (k + n) ≡ each_opcode f k ++ opcodes_after f k n
parted_at f k zero = let same : k + 0 ≡ k = omega arith in ap (each_opcode f) same ∙ sym (append-nil (each_opcode f k))
parted_at f k (suc n) =
    let next : k + suc n ≡ suc k + n = omega arith in
    ap (each_opcode f) next ∙ parted_at f (suc k) n ∙ append_assoc (each_opcode f k) (f (suc k)) (opcodes_after f (suc k) n)

-- all are those after opcode 0
pub from_first : (f : ℕ → List ℕ) (n : ℕ) → each_opcode f n ≡ opcodes_after f 0 n
from_first f n = let same : 0 + n ≡ n = omega arith in sym (ap (each_opcode f) same) ∙ parted_at f 0 n

module _ (f : ℕ → List ℕ) (rest : List ℕ) where
  -- the next opcode's stands first
  pub next_first : (i n : ℕ) (left : List ℕ) → i < n → left ≡ opcodes_after f i (n - i) ++ rest
      → left ≡ f (suc i) ++ (opcodes_after f (i + 1) (n - (i + 1)) ++ rest)
  next_first i n left within e =
      let step : n - i ≡ suc (n - (i + 1)) = omega (arith, within) in
      e ∙ ap (λ k. opcodes_after f i k ++ rest) step ∙ append_assoc (f (suc i)) (opcodes_after f (suc i) (n - (i + 1))) rest
      ∙ ap (λ k. f (suc i) ++ (opcodes_after f k (n - (i + 1)) ++ rest)) (sym (add-one i))

  -- nothing is left after the last
  pub no_more : (i n : ℕ) (left : List ℕ) → n ≤ i → left ≡ opcodes_after f i (n - i) ++ rest → left ≡ rest
  no_more i n left past e = let none : n - i ≡ 0 = omega (arith, past) in e ∙ ap (λ k. opcodes_after f i k ++ rest) none

  -- there are no more opcodes than bytes
  pub few_opcodes : (k n : ℕ) → ((i : ℕ) → i < k + n → 1 ≤ length (f (suc i))) → n ≤ length (opcodes_after f k n ++ rest)
  few_opcodes k zero some = omega arith
  few_opcodes k (suc n) some =
      let more = few_opcodes (suc k) n (λ i within. some i (omega (arith, within))) in
      let here = some k (omega arith) in
      let both = length-append (f (suc k)) (opcodes_after f (suc k) n ++ rest) in
      let regrouped = ap length (append_assoc (f (suc k)) (opcodes_after f (suc k) n) rest) in
      omega (arith, more, here, both, regrouped)

-- two texts of opcodes that are the same tell the same, opcode by opcode
pub cancel_after : (f g : ℕ → List ℕ) (Q : ℕ → Type 0) (k n : ℕ)
    → ((i : ℕ) → k ≤ i → i < k + n → (r s : List ℕ) → f (suc i) ++ r ≡ g (suc i) ++ s → Q i × (r ≡ s))
    → (r s : List ℕ) → opcodes_after f k n ++ r ≡ opcodes_after g k n ++ s → ((i : ℕ) → k ≤ i → i < k + n → Q i) × (r ≡ s)
cancel_after f g Q k zero told r s e = (λ i low high. absurd (omega (arith, low, high)), e)
cancel_after f g Q k (suc n) told r s e =
    let (here, left) = told k (omega arith) (omega arith) (opcodes_after f (suc k) n ++ r) (opcodes_after g (suc k) n ++ s)
    (sym (append_assoc (f (suc k)) (opcodes_after f (suc k) n) r) ∙ e ∙ append_assoc (g (suc k)) (opcodes_after g (suc k) n) s) in
    let (more, rest) = cancel_after f g Q (suc k) n (λ i low high. told i (omega (arith, low)) (omega (arith, high))) r s left in (
      λ i low high. ⊎_elim (λ above. more i (omega (arith, above)) (omega (arith, high)))
          (λ up_to. let same : k ≡ i = omega (arith, low, up_to) in subst Q same here) (cases_lt k i),
      rest,
    )

pub cancel_each : (f g : ℕ → List ℕ) (Q : ℕ → Type 0) (n : ℕ)
    → ((i : ℕ) → i < n → (r s : List ℕ) → f (suc i) ++ r ≡ g (suc i) ++ s → Q i × (r ≡ s))
    → (r s : List ℕ) → each_opcode f n ++ r ≡ each_opcode g n ++ s → ((i : ℕ) → i < n → Q i) × (r ≡ s)
cancel_each f g Q n told r s e =
    let (all, rest) = cancel_after f g Q 0 n (λ i low high. told i (omega (arith, high))) r s
    (ap (λ w. w ++ r) (sym (from_first f n)) ∙ e ∙ ap (λ w. w ++ s) (from_first g n)) in
    (λ i within. all i (omega arith) (omega (arith, within)), rest)
