-- All declarations show one first fault at most, and none where they are valid.
use Rattle.std.proofs.Common.{◌≡◌, ◌<◌, ◌≤◌, ◌⊎◌, inl, inr, ℕ, List, slice_get, sym, ap, ◌∙◌, subst, arith}
use Rattle.std.proofs.lemmas.Bool.{cases_lt}
use Rattle.std.proofs.lemmas.Option.{same_Some}
use Rattle.meta_types.specs.declared.fault.DefinitionError.{DefinitionError}
use Rattle.meta_settings.specs.GroupDeclaration.{GroupDeclaration}
use Rattle.meta_settings.specs.GroupFaults.{IsFirstGroupFault, IsValidGroup}
use Rattle.meta_build.specs.AllDeclared.{Declared, AreValid, IsFirstOfGroups, HasFirstFault}
use Rattle.meta_build.proofs.OneFault.{one_fault, none_where_valid}

-- what is said of one group
abbrev pub OneGroupFault : Type 0
OneGroupFault = (d : GroupDeclaration) (g : ℕ) (e f : DefinitionError) → IsFirstGroupFault d g e → IsFirstGroupFault d g f → e ≡ f

abbrev pub NoneOfValidGroup : Type 0
NoneOfValidGroup = (d : GroupDeclaration) (g : ℕ) (e : DefinitionError) → IsValidGroup d → IsFirstGroupFault d g e → ⊥

module _ (one : OneGroupFault) (none : NoneOfValidGroup) where
  not_later : (groups : List GroupDeclaration) (e f : DefinitionError) (h : IsFirstOfGroups groups e) (g : IsFirstOfGroups groups f)
      → h.place < g.place → ⊥
  not_later groups e f h g l = none h.group h.place e (g.earlier h.place h.group l h.at) h.first

  one_of_groups : (groups : List GroupDeclaration) (e f : DefinitionError) → IsFirstOfGroups groups e → IsFirstOfGroups groups f → e ≡ f
  one_of_groups groups e f h g = places (cases_lt h.place g.place) (cases_lt g.place h.place)
    where
      here : h.place ≡ g.place → e ≡ f
      here same =
          let group : h.group ≡ g.group = same_Some h.group g.group (sym h.at ∙ ap (slice_get groups) same ∙ g.at) in
          one g.group g.place e f (subst (λ (d : GroupDeclaration). IsFirstGroupFault d g.place e) group
          (subst (λ n. IsFirstGroupFault h.group n e) same h.first)) g.first

      places : (h.place < g.place) ⊎ (g.place ≤ h.place) → (g.place < h.place) ⊎ (h.place ≤ g.place) → e ≡ f
      places (inl l) r = absurd (not_later groups e f h g l)
      places (inr m) (inl l) = absurd (not_later groups f e g h l)
      places (inr m) (inr n) = here (omega (arith, m, n))

  pub one_of_all : (d : Declared) (e f : DefinitionError) → HasFirstFault d e → HasFirstFault d f → e ≡ f
  one_of_all d e f (inl h) (inl g) = one_fault d.set e f h g
  one_of_all d e f (inl h) (inr g) = absurd (none_where_valid d.set e g.0 h)
  one_of_all d e f (inr h) (inl g) = absurd (none_where_valid d.set f h.0 g)
  one_of_all d e f (inr h) (inr g) = one_of_groups d.groups e f h.1 g.1

  pub none_of_all : (d : Declared) (e : DefinitionError) → AreValid d → HasFirstFault d e → ⊥
  none_of_all d e valid (inl h) = none_where_valid d.set e valid.set h
  none_of_all d e valid (inr h) = let first = h.1
      in none first.group first.place e (valid.groups first.place first.group first.at) first.first
