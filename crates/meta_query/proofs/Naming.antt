-- Names of instructions: each is a name, and no two are shared.
use Rattle.std.proofs.Common.{◌≡◌, ◌<◌, ◌≤◌, ◌+◌, ◌^◌, ◌%◌, ℕ, inl, inr, ⊎_elim, true, false, List, [], ◌∷◌, ◌++◌, codes, refl, sym, ap}
use Rattle.std.proofs.Common.{◌∙◌, arith}
use Rattle.std.specs.List.{All}
use Rattle.std.specs.Fmt.{decimal}
use Rattle.std.proofs.lemmas.Fmt.{decimal_by_steps, decimal_injective}
use Rattle.std.proofs.lemmas.List.{append_cancel_left}
use Rattle.std.proofs.lemmas.List.Elements.{All-nil, All-cons, All-head, All-tail, All-append, All-weaker}
use Rattle.std.proofs.lemmas.Bool.Decides.{nat_tests}
use Rattle.meta_types.specs.Name.{IsNameByte, IsName}
use Rattle.meta_types.specs.CamelCase.{camel_from, camel_case_of}
use Rattle.meta_types.specs.SharedNames.{SharesName}
use Rattle.meta_query.specs.Seeds.{name_of_number}

-- a decimal digit
abbrev IsDigit : ℕ → Type 0
IsDigit c = (48 ≤ c) × (c ≤ 57)

last_digit : (n : ℕ) → IsDigit (48 + n % 10)
last_digit n = (omega arith, omega arith)

digits : (n : ℕ) → n < 2 ^ 64 → All IsDigit (decimal n)
digits = decimal_by_steps (λ n ds. All IsDigit ds)
    (λ n l. All-cons IsDigit (48 + n) [] (omega arith, omega arith) (All-nil IsDigit))
    (λ n ds l all. All-append IsDigit ds ((48 + n % 10) ∷ []) all (All-cons IsDigit (48 + n % 10) [] (last_digit n) (All-nil IsDigit)))

-- a digit stays in camel case
digit_first : (c : ℕ) (rest : List ℕ) → 48 ≤ c → c ≤ 57 → camel_from true (c ∷ rest) ≡ c ∷ camel_from false rest
digit_first c rest low high = grind (arith, nat_tests)

digit_after : (c : ℕ) (rest : List ℕ) → 48 ≤ c → c ≤ 57 → camel_from false (c ∷ rest) ≡ c ∷ camel_from false rest
digit_after c rest low high = grind (arith, nat_tests)

digits_after : (ds : List ℕ) → All IsDigit ds → camel_from false ds ≡ ds
digits_after [] all = refl
digits_after (c ∷ ds) all = digit_after c ds (All-head IsDigit c ds all).0 (All-head IsDigit c ds all).1
    ∙ ap (λ rest. c ∷ rest) (digits_after ds (All-tail IsDigit c ds all))

digits_first : (ds : List ℕ) → All IsDigit ds → camel_from true ds ≡ ds
digits_first [] all = refl
digits_first (c ∷ ds) all = digit_first c ds (All-head IsDigit c ds all).0 (All-head IsDigit c ds all).1
    ∙ ap (λ rest. c ∷ rest) (digits_after ds (All-tail IsDigit c ds all))

-- `op_7` is `Op7`
camel_name : (n : ℕ) → n < 2 ^ 64 → camel_case_of (name_of_number n) ≡ codes "Op" ++ decimal n
camel_name n l = ap (λ rest. codes "Op" ++ rest) (digits_first (decimal n) (digits n l))

-- no two names are shared
pub names_apart : (m n : ℕ) → m < 2 ^ 64 → n < 2 ^ 64 → SharesName (name_of_number m) (name_of_number n) → m ≡ n
names_apart m n k l shares = decimal_injective m n k l (⊎_elim
    (λ same. append_cancel_left (codes "op_") (decimal m) (decimal n) same)
    (λ same. append_cancel_left (codes "Op") (decimal m) (decimal n) (sym (camel_name m k) ∙ same ∙ camel_name n l))
    shares)

name_byte : (c : ℕ) → IsDigit c → IsNameByte c
name_byte c d = inr (inl d)

-- each is a name
pub is_name : (n : ℕ) → n < 2 ^ 64 → IsName (name_of_number n)
is_name n l = (
  inr (omega arith, omega arith),
  All-cons IsNameByte 112 (codes "_" ++ decimal n) (inl (inr (omega arith, omega arith)))
      (All-cons IsNameByte 95 (decimal n) (inr (inr refl))
      (All-weaker IsDigit IsNameByte name_byte (decimal n) (digits n l))),
)
