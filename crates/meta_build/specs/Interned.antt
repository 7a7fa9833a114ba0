-- How the list of type sets grows by the sets that are needed.
--     Adds s before after          s is added, where no equal set stands there
--     AddsSome P before after      the one set of which P speaks is added, if there is one
--     AddsEach F n before after    so are those of which F speaks at 0, 1 and so on, n of them
use Rattle.std.specs.Prelude.{◌≡◌, ◌⊎◌, ◌≤◌, ℕ, zero, suc, List, [], ◌∷◌, ◌++◌, slice_get, Option, Some}
use Rattle.meta_typevar.specs.Compared.{are_equal}
use Rattle.meta_typevar.specs.TypeSetParts.{TypeSetParts, HasOne}
use Rattle.meta_typevar.specs.Variable.{Sets}
use Rattle.meta_typevar.specs.Registry.{sets_of, variable_at}
use Rattle.meta_typevar.specs.declared.content.TypeVarContent.{TypeVarContent}
use Rattle.meta_inst.specs.Which.{Which}
use Rattle.meta_inst.specs.Controls.{IsOneOf}
use Rattle.meta_inst.specs.Instruction.{Instruction}
use Rattle.meta_unique.specs.Interning.{IsIndexOf, IsNew}
use Rattle.meta_build.specs.Needed.{NeedsAtPlace}

-- an equal set stands there and the list stays as it is, or none does and s is added at the end
abbrev pub Adds : TypeSetParts → List TypeSetParts → List TypeSetParts → Type 0
Adds s before after = ((i : ℕ) × IsIndexOf are_equal before s i × (after ≡ before))
    ⊎ (IsNew are_equal before s × (after ≡ before ++ s ∷ []))

-- P speaks of no set and the list stays as it is, or P speaks of one set and that is added
abbrev pub AddsSome : (TypeSetParts → Type 0) → List TypeSetParts → List TypeSetParts → Type 0
AddsSome P before after = (((s : TypeSetParts) → P s → ⊥) × (after ≡ before))
    ⊎ ((s : TypeSetParts) × P s × ((t : TypeSetParts) → P t → t ≡ s) × Adds s before after)

-- the sets of which F speaks at each number below n are added in order
abbrev pub AddsEach : (ℕ → TypeSetParts → Type 0) → ℕ → List TypeSetParts → List TypeSetParts → Type 0
AddsEach F zero before after = after ≡ before
AddsEach F (suc n) before after = (between : List TypeSetParts) × AddsEach F n before between × AddsSome (F n) between after

-- s is the set of the root of the variable with the number n
abbrev pub IsSetOf : List TypeVarContent → ℕ → TypeSetParts → Type 0
IsSetOf vars n s = s ≡ sets_of vars (variable_at vars n).root

-- s is the set of the control a
pub record IsControlSetOf (vars : List TypeVarContent) (controls : Which → Option ℕ) (a : Which) (s : TypeSetParts) : Type 0 where
  pub variable : ℕ
  pub controls_is : controls a ≡ Some variable
  pub set : IsSetOf vars variable s

-- s is the set of the variable with the number n, which is underived and none of the controls, and s hasn't exactly one type
pub record IsFreeSetOf (vars : List TypeVarContent) (controls : Which → Option ℕ) (n : ℕ) (s : TypeSetParts) : Type 0 where
  pub other : IsOneOf controls n → ⊥
  pub underived : (variable_at vars n).chain ≡ []
  pub set : IsSetOf vars n s
  pub several : HasOne s → ⊥

-- s is such a set of the variable at this place
pub record IsFreeSetAt (vars : List TypeVarContent) (controls : Which → Option ℕ) (numbers : List ℕ) (place : ℕ)
    (s : TypeSetParts) : Type 0 where
  pub variable : ℕ
  pub at : slice_get numbers place ≡ Some variable
  pub free : IsFreeSetOf vars controls variable s

-- all sets that the instruction needs are added, in the order of the places where it needs them
pub record AddsNeeded (sets : Sets) (i : Instruction) (before after : List TypeSetParts) : Type 0 where
  pub end : ℕ
  pub each : AddsEach (NeedsAtPlace sets i) end before after
  pub no_more : (place : ℕ) (s : TypeSetParts) → end ≤ place → NeedsAtPlace sets i place s → ⊥
