-- The constraint of one operand, and lists of them.
use Rattle.std.proofs.Common.{◌≡◌, ◌<◌, ◌+◌, ℕ, List, [], ◌∷◌, ◌++◌, length, slice_get, Option, None, Some, refl, sym, ap, ◌∙◌, subst}
use Rattle.std.proofs.Common.{below_more}
use Rattle.std.proofs.lemmas.Option.{same_Some}
use Rattle.meta_lists.proofs.Pushed.{stays, last}
use Rattle.meta_types.specs.TypeParts.{number_of}
use Rattle.meta_types.specs.Function.{Function}
use Rattle.meta_types.specs.DerivedFunc.{function_of}
use Rattle.meta_types.specs.ValueTypes.{type_parts_of}
use Rattle.meta_types.specs.declared.value_type.ValueType.{ValueType}
use Rattle.meta_typevar.specs.Chain.{IsFixed}
use Rattle.meta_typevar.specs.Variable.{Variable, IsDerivedBy, IsOpen}
use Rattle.meta_typevar.specs.Registry.{sets_of, variable_at, IsKept, IsRegistry}
use Rattle.meta_typevar.specs.TypeSetParts.{TypeSetParts}
use Rattle.meta_typevar.specs.declared.content.TypeVarContent.{TypeVarContent}
use Rattle.meta_typevar.specs.declared.content.TypeVarParent.{TypeVarParent}
use Rattle.meta_typevar.proofs.Variables.{underived_told}
use Rattle.meta_inst.specs.Which.{Which}
use Rattle.meta_inst.specs.Controls.{IsOneOf, AreControlsOf, controls_at}
use Rattle.meta_inst.proofs.ControlLemmas.{control_is, control_numbered, control_from}
use Rattle.meta_inst.proofs.Derived.{one_step, one_parent, not_root}
use Rattle.meta_inst.specs.Constraint.{TypeConstraint, IsConstraint, ConcreteType, FreeType, SameType, ByType}
use Rattle.meta_inst.specs.Tables.{ConcreteNumber, SameNumber, ByNumber}
use Rattle.meta_inst.proofs.Fixedness.{fixed_from_one}
use Rattle.meta_gen.specs.declared.constraint.Constraint.{Constraint}
use Rattle.meta_gen.specs.declared.constraint.Constraint.TheVariants.{Concrete, Free}
use Rattle.meta_gen.specs.Constraint.{number_constraint_of}
use Rattle.meta_gen.specs.Entries.{StaysIn, IsFreeNumber, HasConstraint, Describes, IsDescribedAt}

module _ (vars : List TypeVarContent) (controls : Which → Option ℕ) (type_sets : List TypeSetParts) (n : ℕ) where
  pub concrete : (t : ValueType) (number : ℕ)
      → IsFixed (sets_of vars (variable_at vars n).root) (variable_at vars n).chain (type_parts_of t)
      → number ≡ number_of (type_parts_of t) → Describes vars controls type_sets n (Concrete number)
  concrete t number fixed e = record {
    constraint = ConcreteType (type_parts_of t);
    is_constraint = fixed;
    stands = λ tables has. ap ConcreteNumber e;
  }

  pub same : IsOpen (sets_of vars) (variable_at vars n) → (a : Which) → controls a ≡ Some n → (y : Constraint)
      → number_constraint_of y ≡ SameNumber a → Describes vars controls type_sets n y
  same not_fixed a e y told = record {
    constraint = SameType a;
    is_constraint = record { not_fixed = not_fixed; controls_is = control_is vars controls a n e };
    stands = λ tables has. told;
  }

  -- what is said of a variable that isn't a control
  module _ (registry : IsRegistry vars) (of : AreControlsOf vars controls) (below : n < length vars)
      (not_fixed : IsOpen (sets_of vars) (variable_at vars n)) (other : IsOneOf controls n → ⊥) where
    -- nor is it as a variable
    no_control : (a : Which) → controls_at vars controls a ≡ Some (variable_at vars n) → ⊥
    no_control a e = other (a, control_from vars controls registry of a n below e)

    pub free : (place : ℕ) → (variable_at vars n).chain ≡ [] → slice_get type_sets place ≡ Some (sets_of vars (variable_at vars n).root)
        → Describes vars controls type_sets n (Free place)
    free place underived set = record {
      constraint = FreeType (sets_of vars (variable_at vars n).root);
      is_constraint = record { not_fixed = not_fixed; underived = underived; other = no_control; set = refl };
      stands = λ tables has. let (m, there, are) = has.each place (sets_of vars (variable_at vars n).root) set
          in (place, refl, record { masks = m; is_set = there; are_masks = are });
    }

    pub free_number : (variable_at vars n).chain ≡ [] → IsFreeNumber vars controls n
    free_number underived = record {
      other = other;
      underived = underived;
      several = λ one. not_fixed one.one (subst (λ (fs : List Function). IsFixed (sets_of vars (variable_at vars n).root) fs one.one)
          (sym underived) (fixed_from_one (sets_of vars (variable_at vars n).root) one));
    }

    module _ (d : TypeVarContent) (p : TypeVarParent) (kept : IsKept vars n d) (e : d.base ≡ Some p) where
      -- the parent of a derived variable that has a constraint is a control
      parent_by : (x : TypeConstraint) → IsConstraint (sets_of vars) (controls_at vars controls) (variable_at vars n) x
          → IsOneOf controls p.type_var
      parent_by (ConcreteType t) h = absurd (not_fixed t h)
      parent_by (FreeType s) h = absurd (not_root vars registry n d kept p e h.underived)
      parent_by (SameType a) h = absurd (no_control a h.controls_is)
      parent_by (ByType a g) h =
          let (m, is, same) = control_numbered vars controls a h.variable h.controls_is in
          let derived = subst (λ (x : Variable). IsDerivedBy x (variable_at vars n) g) (sym same) h.derived in
          (a, is ∙ ap Some (one_parent vars registry n d kept p e m g (of a m is) derived))

      pub parent_controls : HasConstraint vars controls n → IsOneOf controls p.type_var
      parent_controls has = parent_by has.0 has.1

      -- and its constraint is its last function
      pub by_parent : (a : Which) → controls a ≡ Some p.type_var → (y : Constraint)
          → number_constraint_of y ≡ ByNumber a (function_of p.derived_func) → Describes vars controls type_sets n y
      by_parent a is y told = record {
        constraint = ByType a (function_of p.derived_func);
        is_constraint = record {
          not_fixed = not_fixed;
          variable = variable_at vars p.type_var;
          controls_is = control_is vars controls a p.type_var is;
          derived = one_step vars registry n d kept p e;
        };
        stands = λ tables has. told;
      }

    -- and what has no parent is underived
    pub underived_by : (d : TypeVarContent) → IsKept vars n d → d.base ≡ None → (variable_at vars n).chain ≡ []
    underived_by d kept e = (underived_told vars n d registry kept).0 e

-- what described a variable describes it in a longer list
pub described_later : (vars : List TypeVarContent)
    (controls : Which → Option ℕ) (type_sets : List TypeSetParts) (old new : List Constraint) (place n : ℕ) → StaysIn old new
    → IsDescribedAt vars controls type_sets old place n → IsDescribedAt vars controls type_sets new place n
described_later vars controls type_sets old new place n stay h =
    record { constraint = h.constraint; at = stay place h.constraint h.at; describes = h.describes }

module _ (vars : List TypeVarContent) (controls : Which → Option ℕ) (type_sets : List TypeSetParts) (old new : List Constraint)
    (x : Constraint) (added : new ≡ old ++ x ∷ []) where
  -- one more constraint, of the variable at the next place
  pub one_more : (numbers : List ℕ) (place n : ℕ) → length old ≡ place → slice_get numbers place ≡ Some n
      → Describes vars controls type_sets n x
      → ((k m : ℕ) → k < place → slice_get numbers k ≡ Some m → IsDescribedAt vars controls type_sets old k m)
      → (k m : ℕ) → k < place + 1 → slice_get numbers k ≡ Some m → IsDescribedAt vars controls type_sets new k m
  one_more numbers place n count at describes before k m l at_k =
      below_more (λ k. (m : ℕ) → slice_get numbers k ≡ Some m → IsDescribedAt vars controls type_sets new k m) place
      (λ k l m at. described_later vars controls type_sets old new k m (stays old new x added) (before k m l at))
      (λ m at_m. let e : n ≡ m = same_Some n m (sym at ∙ at_m) in
      record {
        constraint = x;
        at = last old new x added place (sym count);
        describes = subst (λ i. Describes vars controls type_sets i x) e describes;
      })
      k l m at_k
