-- What isn't in a list adds nothing.
use Rattle.std.proofs.Common.{◌≡◌, ◌↔◌, ℕ, ◌<◌, ◌≤◌, Bool, false, List, [], ◌++◌, length, slice_get, Option, None}
use Rattle.std.proofs.Common.{sym, ap, ◌∙◌, append-nil, arith}
use Rattle.std.specs.Prelude.{IsTrue}
use Rattle.std.proofs.lemmas.Option.{slice_get_past}

-- the test that a number is that of an element fails
past : (is_of : Bool) (i n : ℕ) → (IsTrue is_of ↔ (i < n)) → is_of ≡ false → n ≤ i
past is_of i n meaning fails = grind arith

pub absent_adds_nothing : {X Y : Type 0} (f : Option X → List Y) (xs : List X) (i : ℕ) (out : List Y) (is_of : Bool) → f None ≡ []
    → (IsTrue is_of ↔ (i < length xs)) → is_of ≡ false → out ≡ out ++ f (slice_get xs i)
absent_adds_nothing f xs i out is_of none meaning fails =
    sym (ap (λ x. out ++ f x) (slice_get_past xs i (past is_of i (length xs) meaning fails)) ∙ ap (λ l. out ++ l) none ∙ append-nil out)
