-- Whether a variable is badly derived, by what is kept of it.
use Rattle.std.proofs.Common.{◌≡◌, ◌<◌, ◌≤◌, ℕ, List, [], length, ◌↔◌, IsTrue, Bool, false, not, Option, None, Some, IfSome, IfNone, refl}
use Rattle.std.proofs.Common.{sym, ap, ◌∙◌, subst}
use Rattle.std.specs.Prelude.{is_some, slice_get}
use Rattle.std.proofs.lemmas.Bool.{false≢true}
use Rattle.std.proofs.lemmas.Option.{slice_get_within, same_Some}
use Rattle.std.proofs.lemmas.List.{same_from_push}
use Rattle.meta_lists.proofs.Pushed.{not_empty}
use Rattle.meta_types.specs.Function.{Function}
use Rattle.meta_types.specs.DerivedFunc.{function_of}
use Rattle.meta_types.specs.ValueTypes.{type_parts_of}
use Rattle.meta_types.specs.declared.value_type.ValueType.{ValueType}
use Rattle.meta_typevar.specs.Chain.{IsFixed}
use Rattle.meta_typevar.specs.Variable.{Variable, IsDerivedBy, IsOpen}
use Rattle.meta_typevar.specs.Registry.{sets_of, variable_at, IsKept, IsRootOrDerived, IsRegistry}
use Rattle.meta_typevar.specs.declared.content.TypeVarContent.{TypeVarContent}
use Rattle.meta_typevar.specs.declared.content.TypeVarParent.{TypeVarParent}
use Rattle.meta_typevar.proofs.Variables.{child_variable, underived_told, one_variable}
use Rattle.meta_inst.specs.Which.{Which, both}
use Rattle.meta_inst.specs.Controls.{IsOneOf, AreControlsOf, controls_at}
use Rattle.meta_inst.specs.Control.{IsBadlyDerived, HasBadDerivation, IsFirstBadDerivation}
use Rattle.meta_inst.specs.FoundControl.{control_number, control_in, IsBadAt, IsFirstBadAt}
use Rattle.meta_inst.specs.Operands.{OperandList, instruction_of_operands, AreOf, SecondIsOf, second_in}
use Rattle.meta_inst.specs.declared.operands.Controlling.{Controlling}
use Rattle.meta_inst.proofs.ControlLemmas.{control_is, control_numbered}
use Rattle.meta_inst.proofs.Underived.{none_is}
use Rattle.meta_inst.proofs.Meaning.{operand_at, operand_from}

-- the parent is of the registry
parent_of : (vars : List TypeVarContent) (n : ℕ) (d : TypeVarContent) (p : TypeVarParent) (b : Option TypeVarParent) → b ≡ Some p
    → IsRootOrDerived vars n d b → p.type_var < length vars
parent_of vars n d p None e h = absurd (cc)
parent_of vars n d p (Some q) e h =
    let l = slice_get_within vars q.type_var h.parent_content h.kept in
    subst (λ (x : TypeVarParent). x.type_var < length vars) (same_Some q p e) l

module _ (vars : List TypeVarContent) (r : IsRegistry vars) (n : ℕ) (d : TypeVarContent) (k : IsKept vars n d) (p : TypeVarParent)
    (e : d.base ≡ Some p) where
  -- a variable is one step from its parent
  pub one_step : IsDerivedBy (variable_at vars p.type_var) (variable_at vars n) (function_of p.derived_func)
  one_step =
      let is = child_variable vars p.type_var n p.derived_func r (record { content = d; kept = k; derived = e }) in
      record { root = ap (λ (v : Variable). v.root) is; chain = ap (λ (v : Variable). v.chain) is }

  -- and from no other
  pub one_parent : (m : ℕ) (f : Function) → m < length vars → IsDerivedBy (variable_at vars m) (variable_at vars n) f → m ≡ p.type_var
  one_parent m f l h =
      let chains = same_from_push (variable_at vars m).chain (variable_at vars p.type_var).chain f (function_of p.derived_func)
      (sym h.chain ∙ one_step.chain) in
      let roots = sym h.root ∙ one_step.root in
      one_variable vars r m p.type_var l (parent_of vars n d p d.base e (r.variables n d k).placed)
      (λ i. record { root = roots i; chain = chains.0 i })

  pub not_root : (variable_at vars n).chain ≡ [] → ⊥
  not_root none = not_empty (variable_at vars p.type_var).chain (function_of p.derived_func) (sym one_step.chain ∙ none)

module _ (vars : List TypeVarContent) (r : IsRegistry vars)
    (controls : Which → Option ℕ) (n : ℕ) (d : TypeVarContent) (k : IsKept vars n d) where
  abbrev Bad : Type 0
  Bad = IsBadlyDerived (sets_of vars) (controls_at vars controls) (variable_at vars n)

  -- a root isn't badly derived
  pub root_not_bad : d.base ≡ None → IsTrue false ↔ Bad
  root_not_bad e = ((λ t. absurd (false≢true t)), (λ h. absurd (h.derived ((underived_told vars n d r k).0 e))))

  module _ (p : TypeVarParent) (e : d.base ≡ Some p) where
    -- nor is what is derived from a control
    pub step_not_bad : IsOneOf controls p.type_var → IsTrue false ↔ Bad
    step_not_bad (a, by) = (
      (λ t. absurd (false≢true t)),
      (λ h. absurd (h.no_step a (variable_at vars p.type_var) (function_of p.derived_func) (control_is vars controls a p.type_var by)
          (one_step vars r n d k p e))),
    )

    no_step : (IsOneOf controls p.type_var → ⊥) → AreControlsOf vars controls → (a : Which) (v : Variable) (f : Function)
        → controls_at vars controls a ≡ Some v → IsDerivedBy v (variable_at vars n) f → ⊥
    no_step other of a v f is h =
        let (m, by, same) = control_numbered vars controls a v is in
        other (
          a,
          by ∙ ap Some (one_parent vars r n d k p e m f (of a m by)
              (subst (λ (x : Variable). IsDerivedBy x (variable_at vars n) f) (sym same) h)),
        )

    -- and what is derived from another is, where no type is fixed for it
    pub other_bad : (IsOneOf controls p.type_var → ⊥) → AreControlsOf vars controls → (o : Option ValueType)
        → IfSome o (λ t. IsFixed (sets_of vars (variable_at vars n).root) (variable_at vars n).chain (type_parts_of t))
        → IfNone o (IsOpen (sets_of vars) (variable_at vars n)) → (b : Bool) → is_some o ≡ not b → IsTrue b ↔ Bad
    other_bad other of None found free b is = (
      λ t. record { derived = not_root vars r n d k p e; not_fixed = free; no_step = no_step other of },
      λ h. (none_is {X = ValueType} None b is).1 refl,
    )
    other_bad other of (Some t) found free b is = (
      λ yes. let none : Some t ≡ None = (none_is {X = ValueType} (Some t) b is).0 yes
          in absurd (cc),
      λ h. absurd (h.not_fixed (type_parts_of t) found),
    )

-- what a test of one variable says of the place where it stands
pub not_bad_at : (vars : List TypeVarContent) (controls : Which → Option ℕ) (numbers : List ℕ) (place n : ℕ)
    → slice_get numbers place ≡ Some n → (IsBadlyDerived (sets_of vars) (controls_at vars controls) (variable_at vars n) → ⊥)
    → IsBadAt vars controls numbers place → ⊥
not_bad_at vars controls numbers place n at none h =
    none (subst (λ m. IsBadlyDerived (sets_of vars) (controls_at vars controls) (variable_at vars m))
    (same_Some h.number n (sym h.at ∙ at)) h.bad)

module _ (vars : List TypeVarContent) (o : OperandList) (within : o.result_count ≤ length o.variables) (registry : IsRegistry vars)
    (are : AreOf vars o.variables) (second_of : SecondIsOf vars o.second) (c : Controlling) where
  bad_to : (k : ℕ) → IsBadAt vars (both (control_number c) o.second) o.variables k
      → HasBadDerivation (sets_of vars) (instruction_of_operands vars o) (control_in vars c) k
  bad_to k h = record {
    variable = variable_at vars h.number;
    operand = operand_at vars o within registry are second_of k h.number h.at;
    bad = h.bad;
  }

  bad_from : (k : ℕ) → HasBadDerivation (sets_of vars) (instruction_of_operands vars o) (control_in vars c) k
      → IsBadAt vars (both (control_number c) o.second) o.variables k
  bad_from k h =
      let (n, at, is) = operand_from vars o within registry are second_of k h.variable h.operand in
      record {
        number = n;
        at = at;
        bad = subst (λ (w : Variable). IsBadlyDerived (sets_of vars) (both (control_in vars c) (second_in vars o.second)) w) is h.bad;
      }

  -- what was found among the variables is found of the instruction
  pub first_bad : (k : ℕ) → IsFirstBadAt vars (both (control_number c) o.second) o.variables k
      → IsFirstBadDerivation (sets_of vars) (instruction_of_operands vars o) (control_in vars c) k
  first_bad k h = record { bad = bad_to k h.bad; first = λ j l b. h.first j l (bad_from j b) }

  pub none_bad : ((k : ℕ) → IsBadAt vars (both (control_number c) o.second) o.variables k → ⊥) → (k : ℕ)
      → HasBadDerivation (sets_of vars) (instruction_of_operands vars o) (control_in vars c) k → ⊥
  none_bad none k h = none k (bad_from k h)

  pub first_bad_some : (a : Option ℕ) → IfSome a (IsFirstBadAt vars (both (control_number c) o.second) o.variables)
      → IfSome a (IsFirstBadDerivation (sets_of vars) (instruction_of_operands vars o) (control_in vars c))
  first_bad_some None h = h
  first_bad_some (Some k) h = first_bad k h

  pub none_bad_none : (a : Option ℕ) → IfNone a ((k : ℕ) → IsBadAt vars (both (control_number c) o.second) o.variables k → ⊥)
      → IfNone a ((k : ℕ) → HasBadDerivation (sets_of vars) (instruction_of_operands vars o) (control_in vars c) k → ⊥)
  none_bad_none None h = none_bad h
  none_bad_none (Some k) h = h
