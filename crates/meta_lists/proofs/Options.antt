-- What an option has.
use Rattle.std.proofs.Common.{◌≡◌, Bool, true, false, Option, None, Some, IfSome, IfNone, option_map, refl, ap}
use Rattle.std.specs.Bool.{Decides}
use Rattle.std.specs.Option.{is_some, option_eq}
use Rattle.std.proofs.lemmas.Bool.{false≢true}
use Rattle.std.proofs.lemmas.Option.{same_Some}

-- the value of a mapped option comes from a value of the option
pub mapped : {X Y : Type 0} (f : X → Y) (o : Option X) (y : Y) → option_map f o ≡ Some y → (x : X) × (o ≡ Some x) × (f x ≡ y)
mapped f None y e = absurd (cc)
mapped f (Some x) y e = (x, refl, same_Some (f x) y e)

-- an option with a value has one of which P holds, if P holds of its value
pub told_some : {X : Type 0} (o : Option X) (P : X → Type 0) → true ≡ is_some o → IfSome o P → (x : X) × P x
told_some None P e h = absurd (cc)
told_some (Some x) P e h = (x, h)

pub told_none : {X : Type 0} (o : Option X) (P : Type 0) → false ≡ is_some o → IfNone o P → P
told_none None P e h = h
told_none (Some x) P e h = absurd (false≢true e)

-- a test that decides whether two values are equal decides it for two options of such values
pub option_decides : {X : Type 0} {eq : X → X → Bool} → ((x y : X) → Decides (eq x y) (x ≡ y)) → (a b : Option X)
    → Decides (option_eq eq a b) (a ≡ b)
option_decides decides None None = (λ e. refl, λ e. refl)
option_decides decides None (Some y) = (λ e. absurd (cc), λ e. absurd (cc))
option_decides decides (Some x) None = (λ e. absurd (cc), λ e. absurd (cc))
option_decides decides (Some x) (Some y) = (λ e. ap Some ((decides x y).0 e), λ e. (decides x y).1 (same_Some x y e))
