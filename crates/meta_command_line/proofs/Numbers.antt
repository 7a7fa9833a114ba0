-- What is known of a number that is read.
use Rattle.std.proofs.Common.{◌≡◌, ◌∙◌, ◌<◌, ◌≤◌, ◌^◌, ℕ, true, false, List, sym, subst, arith}
use Rattle.std.specs.Fmt.{decimal}
use Rattle.std.proofs.lemmas.Fmt.{decimal_injective}
use Rattle.meta_command_line.specs.Misuse.{IsNumberIn}
use Rattle.meta_command_line.specs.declared.manual.Range.{Range}

pub no_truth : false ≡ true → ⊥
no_truth e = absurd (cc)

-- the number that a word writes is the one that lies in the range
pub written_least : (range : Range) (word : List ℕ) (n : ℕ) → range.most < 2 ^ 64 → n ≤ range.most → word ≡ decimal n
    → IsNumberIn range word → range.least ≤ n
written_least range word n few small is h =
    let most : h.number ≤ range.most = h.most in
    let same : h.number ≡ n = decimal_injective h.number n (omega arith) (omega arith) (sym h.written ∙ is) in
    subst (λ m. range.least ≤ m) same h.least
