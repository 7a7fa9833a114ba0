use Rattle.std.proofs.Common.{◌≡◌, ◌↔◌, ◌∙◌, ◌<◌, ◌≤◌, ap, sym, subst, ℕ, List, length, Bool, false, eqb, Option, Some, Result, Ok, Err}
use Rattle.std.proofs.Common.{IfOk, IfSome, IsTrue, Bor, option_map, arith}
use Rattle.std.specs.declared.alloc.AllocError.{AllocError}
use Rattle.std.proofs.lemmas.Bool.Decides.{nat_tests}
use Rattle.meta_types.specs.SharedNames.{AreDistinct}
use Rattle.meta_settings.specs.GroupFaults.{IsGoodEnum}
use Rattle.meta_settings.proofs.fault.has_good_values.Goals as goal

-- an enum with values, and not too many, is good exactly where these are distinct
good_where : (values : List (List ℕ)) (o : Option (List (List ℕ))) (r : Result Bool AllocError) → Some values ≡ o → 0 < length values
    → length values ≤ 256 → IfOk r (λ b. IsTrue b ↔ AreDistinct values) → IfOk r (λ b. IsTrue b ↔ IfSome o IsGoodEnum)
good_where values o (Err e) is some few h = tt
good_where values o (Ok b) is some few h =
    subst (λ z. IsTrue b ↔ IfSome z IsGoodEnum) is
    (λ t. record { some = some; few = few; distinct = h.0 t }, λ good. h.1 good.distinct)

some_where : (n : ℕ) → false ≡ eqb n 0 → 0 < n
some_where n e = grind (arith, nat_tests)

pub returns : goal.returns
returns c =
    let is = ap Some c.as_slice-values.ensures ∙ ap (option_map (λ (v : Bor (List (List ℕ))). v.now)) (sym c.in-Some.is) in
    good_where c.as_slice-values.result.now _ c.are_distinct.result is (some_where _ c.if-is_empty.ensures)
    c.if-values-gt-MAX_VALUES.false c.are_distinct.ensures
