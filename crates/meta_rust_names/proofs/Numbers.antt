-- Whether a text is a stem and a number below a count.
use Rattle.std.proofs.Common.{◌≡◌, ◌≢◌, ◌||◌, ℕ, zero, suc, ◌+◌, ◌<◌, ◌≤◌, ◌^◌, Bool, true, false, List, [], ◌∷◌, ◌++◌, ⊎_elim}
use Rattle.std.proofs.Common.{refl, sym, ap, ◌∙◌, arith, zero-add}
use Rattle.std.specs.Prelude.{nat_lt}
use Rattle.std.specs.Bool.{Decides}
use Rattle.std.specs.Cmp.Lexicographic.{bytes_decides}
use Rattle.std.specs.Fmt.{decimal}
use Rattle.std.specs.List.{list_any, range_with_len}
use Rattle.std.proofs.Math.Path.{fun_ext}
use Rattle.std.proofs.lemmas.Bool.{ltb-true, lt-ltb, false≢true, or_cases}
use Rattle.std.proofs.lemmas.Bool.Decides.{same_from_decides}
use Rattle.std.proofs.lemmas.List.{append_cancel_left}
use Rattle.std.proofs.lemmas.List.FromFn.{length-range_with_len, get_or-range_with_len}
use Rattle.std.proofs.lemmas.List.Folds.{list_any_at}
use Rattle.meta_lines.proofs.NumberLemmas.{one_value}
use Rattle.meta_operands.specs.Texts.{same_text}

-- a number from the first on, before the other, passes the test
record Passes (p : ℕ → Bool) (first past : ℕ) : Type 0 where
  number : ℕ
  low : first ≤ number
  high : number < past
  passes : p number ≡ true

found : (p : ℕ → Bool) (a n : ℕ) → list_any p (range_with_len a n) ≡ true → Passes p a (a + n)
found p a zero e = absurd (false≢true e)
found p a (suc n) e =
    ⊎_elim (λ here. record { number = a; low = omega arith; high = omega arith; passes = here })
    (λ later.
    let other = found p (a + 1) n later in
    record {
      number = other.number;
      low = let low = other.low in omega (arith, low);
      high = let high = other.high in omega (arith, high);
      passes = other.passes;
    })
    (or_cases (p a) (list_any p (range_with_len (a + 1) n)) e)

any_number : (p : ℕ → Bool) (count : ℕ) → Decides (list_any p (range_with_len 0 count)) (Passes p 0 count)
any_number p count = (
  (λ e.
      let it = found p 0 count e in
      let high = it.high in
      record { number = it.number; low = it.low; high = omega (arith, high); passes = it.passes }),
  (λ it.
      let high = it.high in
      list_any_at p (range_with_len 0 count) it.number 0 (omega (arith, high, length-range_with_len 0 count))
      (ap p (get_or-range_with_len 0 count it.number 0 it.high ∙ zero-add it.number) ∙ it.passes)),
)

-- where no number passes
no_number : (p : ℕ → Bool) (count : ℕ) → ((n : ℕ) → n < count → p n ≡ true → ⊥) → false ≡ list_any p (range_with_len 0 count)
no_number p count none =
    same_from_decides false (list_any p (range_with_len 0 count))
    ((λ e. absurd (false≢true e)), (λ it. absurd (none it.number it.high it.passes))) (any_number p count)

-- ---- digits

-- what a number tells that has these digits
pub number_told : (number count : ℕ) (digits : List ℕ) → number < 2 ^ 64 → count < 2 ^ 64 → digits ≡ decimal number
    → nat_lt number count ≡ list_any (λ n. same_text (decimal n) digits) (range_with_len 0 count)
number_told number count digits small few is =
    let p : ℕ → Bool = λ n. same_text (decimal n) digits in
    same_from_decides (nat_lt number count) (list_any p (range_with_len 0 count)) (
      (λ t. record {
        number = number;
        low = omega arith;
        high = ltb-true number count t;
        passes = (bytes_decides (decimal number) digits).1 (sym is);
      }),
      (λ it.
          let high = it.high in
          let same = one_value number it.number digits small (omega (arith, high, few)) is
          (sym ((bytes_decides (decimal it.number) digits).0 it.passes)) in
          lt-ltb number count (omega (arith, same, high))),
    )
    (any_number p count)

-- digits of no number
pub no_digits : (count : ℕ) (digits : List ℕ) → count < 2 ^ 32 → ((n : ℕ) → n < 2 ^ 32 → digits ≢ decimal n)
    → false ≡ list_any (λ n. same_text (decimal n) digits) (range_with_len 0 count)
no_digits count digits few none =
    no_number (λ n. same_text (decimal n) digits) count
    (λ n below t. none n (omega (arith, below, few)) (sym ((bytes_decides (decimal n) digits).0 t)))

-- ---- what stands after a front

same_after : (front text rest whole : List ℕ) → whole ≡ front ++ rest → same_text text rest ≡ same_text (front ++ text) whole
same_after front text rest whole is =
    same_from_decides (same_text text rest) (same_text (front ++ text) whole) (bytes_decides text rest) (
      (λ t. append_cancel_left front text rest ((bytes_decides (front ++ text) whole).0 t ∙ is)),
      (λ e. (bytes_decides (front ++ text) whole).1 (ap (λ x. front ++ x) e ∙ sym is)),
    )

pub after_front : (front rest whole : List ℕ) (text : ℕ → List ℕ) (count : ℕ) → whole ≡ front ++ rest
    → list_any (λ n. same_text (text n) rest) (range_with_len 0 count)
    ≡ list_any (λ n. same_text (front ++ text n) whole) (range_with_len 0 count)
after_front front rest whole text count is =
    ap (λ (p : ℕ → Bool). list_any p (range_with_len 0 count)) (fun_ext (λ n. same_after front (text n) rest whole is))

-- where it doesn't begin so
pub no_front : (front whole : List ℕ) (text : ℕ → List ℕ) (count : ℕ) → ((rest : List ℕ) → whole ≢ front ++ rest)
    → false ≡ list_any (λ n. same_text (front ++ text n) whole) (range_with_len 0 count)
no_front front whole text count none =
    no_number (λ n. same_text (front ++ text n) whole) count
    (λ n below t. none (text n) (sym ((bytes_decides (front ++ text n) whole).0 t)))

-- ---- two tests

swapped : (a b c d : Bool) → ((a || b) || (c || d)) ≡ ((a || c) || (b || d))
swapped true b c d = refl
swapped false true true d = refl
swapped false true false d = refl
swapped false false c d = refl

pub one_of_two : {A : Type 0} (p q : A → Bool) (xs : List A) → list_any (λ x. p x || q x) xs ≡ (list_any p xs || list_any q xs)
one_of_two p q [] = refl
one_of_two p q (x ∷ xs) =
    ap (λ b. (p x || q x) || b) (one_of_two p q xs) ∙ swapped (p x) (q x) (list_any p xs) (list_any q xs)
