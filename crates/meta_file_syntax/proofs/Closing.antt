-- Adding `)` for each function, as a loop does.
use Rattle.std.proofs.Common.{◌≡◌, ◌∙◌, ℕ, zero, suc, ◌+◌, ◌<◌, List, [], ◌∷◌, ◌++◌, length, drop, refl, sym, ap, append_assoc, arith}
use Rattle.meta_file_syntax.specs.declared.token.Token.{Token}
use Rattle.meta_file_syntax.specs.declared.token.Token.TheVariants.{Sign}
use Rattle.meta_types.specs.declared.derived_func.DerivedFunc.{DerivedFunc}
use Rattle.meta_file_syntax.specs.Spelling.{closed}

closed_step : (fs : List DerivedFunc) (i : ℕ) → i < length fs → closed (drop i fs) ≡ Sign 41 ∷ closed (drop (suc i) fs)
closed_step [] i lt = absurd (omega arith)
closed_step (f ∷ fs) zero lt = refl
closed_step (f ∷ fs) (suc i) lt = closed_step fs i (omega arith)

pub one_more : (start now next : List Token) (fs : List DerivedFunc) (i : ℕ) → i < length fs → next ≡ now ++ Sign 41 ∷ []
    → now ++ closed (drop i fs) ≡ start → next ++ closed (drop (i + 1) fs) ≡ start
one_more start now next fs i lt e so_far =
    let k : i + 1 ≡ suc i = omega arith in
    ap (λ (m : ℕ). next ++ closed (drop m fs)) k ∙ ap (λ (r : List Token). r ++ closed (drop (suc i) fs)) e
    ∙ append_assoc now (Sign 41 ∷ []) (closed (drop (suc i) fs))
    ∙ ap (λ (r : List Token). now ++ r) (sym (closed_step fs i lt)) ∙ so_far
