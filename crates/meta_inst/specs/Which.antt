-- The two controls that an instruction may have: the control and the second control.
use Rattle.std.specs.Prelude.{◌≡◌, ℕ, Option, refl}
use Rattle.std.specs.Coded.{Coded, code_by, coded×, coded_option, coded_ℕ}
use Rattle.std.proofs.Math.Path.{fun_ext}

pub data Which : Type 0 where
  First : Which
  Second : Which

-- one thing for each: x for the control and y for the second control
abbrev pub both : {X : Type 0} → X → X → Which → X
both x y First = x
both x y Second = y

-- two numbers, one for each or none, are told by what each is, so they are stored as a pair
pub both_again : (f : Which → Option ℕ) (a : Which) → both (f First) (f Second) a ≡ f a
both_again f First = refl
both_again f Second = refl

-- two controls are told by the first and the second
abbrev pub controls_code : Coded (Which → Option ℕ)
controls_code = code_by (Option ℕ × Option ℕ) (coded× (coded_option coded_ℕ) (coded_option coded_ℕ))
    (λ f. (f First, f Second)) (λ p. both p.0 p.1) (λ f. fun_ext (both_again f))
