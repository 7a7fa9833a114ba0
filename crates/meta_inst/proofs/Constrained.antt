-- Each operand that isn't badly derived has a constraint.
use Rattle.std.proofs.Common.{◌≡◌, ℕ, ◌⊎◌, ◌↔◌, List, [], ◌∷◌, ◌++◌, Option, Some, refl, sym, ap, ◌∙◌, subst, inl, inr}
use Rattle.std.proofs.lemmas.Option.{same_Some}
use Rattle.meta_types.specs.TypeParts.{TypeParts}
use Rattle.meta_types.specs.Function.{Function}
use Rattle.meta_typevar.specs.Chain.{IsFixed}
use Rattle.meta_typevar.specs.Variable.{Variable, Sets, IsDerivedBy, IsOpen}
use Rattle.meta_inst.specs.Which.{Which}
use Rattle.meta_inst.specs.Instruction.{Instruction, IsOperand, controls_of}
use Rattle.meta_inst.specs.Control.{IsControl, HasBadSecond, IsBadlyDerived, HasBadDerivation}
use Rattle.meta_inst.specs.Acceptance.{Accepts}
use Rattle.meta_inst.specs.Constraint.{TypeConstraint, ConcreteType, FreeType, SameType, ByType, IsConstraint, Admits}
use Rattle.meta_inst.proofs.Candidates.{same_variable}
use Rattle.meta_inst.proofs.Family.{IsControlled}
use Rattle.meta_inst.proofs.Fixedness.{fixed_or_nowhere}
use Rattle.meta_inst.proofs.ControlFamily.{under_or_not, ruling_of, accepts_from_admits, admits_from_accepts}

-- the operand has a constraint
abbrev HasSomeConstraint : Sets → (Which → Option Variable) → Variable → Type 0
HasSomeConstraint sets controls w = (x : TypeConstraint) × IsConstraint sets controls w x

module _ (sets : Sets) (w : Variable) (controls : Which → Option Variable) (under : (a : Which) (v : Variable) → controls a ≡ Some v
    → v.chain ≡ []) (open_ : IsOpen sets w) (good : IsBadlyDerived sets controls w → ⊥) where
  -- an open underived operand is a control or takes any type of its root's set
  underived : w.chain ≡ [] → IsControlled controls w ⊎ (IsControlled controls w → ⊥) → HasSomeConstraint sets controls w
  underived d (inl (a, p)) = (
    SameType a,
    record {
      not_fixed = open_;
      controls_is = p.controls_is
          ∙ ap Some (same_variable p.variable w (sym p.root) (under a p.variable p.controls_is ∙ sym d));
    },
  )
  underived d (inr none) = (
    FreeType (sets w.root),
    record {
      not_fixed = open_;
      underived = d;
      other = λ a e. none (a, record { variable = w; controls_is = e; root = refl });
      set = refl;
    },
  )

  -- a derived operand is one step from a control, or badly derived
  derived : (f : Function) (fs : List Function) → w.chain ≡ f ∷ fs → IsControlled controls w ⊎ (IsControlled controls w → ⊥)
      → HasSomeConstraint sets controls w
  derived f [] d (inl (a, p)) = (
    ByType a f,
    record {
      not_fixed = open_;
      variable = p.variable;
      controls_is = p.controls_is;
      derived = record { root = p.root; chain = d ∙ ap (λ (gs : List Function). gs ++ (f ∷ [])) (sym (under a p.variable p.controls_is)) };
    },
  )
  derived f (g ∷ fs) d (inl (a, p)) =
      absurd (good (record { derived = λ e. let h : f ∷ g ∷ fs ≡ [] = sym d ∙ e in cc; not_fixed = open_; no_step = longer }))
    where
      -- two steps are more than one
      longer : (b : Which) (v : Variable) (h : Function) → controls b ≡ Some v → IsDerivedBy v w h → ⊥
      longer b v h e step =
          let both_ways : f ∷ g ∷ fs ≡ h ∷ [] = sym d ∙ (step.chain ∙ ap (λ (gs : List Function). gs ++ (h ∷ [])) (under b v e)) in
          cc
  derived f fs d (inr none) =
      absurd (good (record {
        derived = λ e. let h : f ∷ fs ≡ [] = sym d ∙ e in cc;
        not_fixed = open_;
        no_step = λ b v h e step. none (b, record { variable = v; controls_is = e; root = step.root });
      }))

  -- an open operand, by its chain
  by_chain : (fs : List Function) → w.chain ≡ fs → HasSomeConstraint sets controls w
  by_chain [] d = underived d (under_or_not controls w)
  by_chain (f ∷ fs) d = derived f fs d (under_or_not controls w)

-- An operand that isn't badly derived has a constraint.
pub has_constraint : (sets : Sets) (i : Instruction) (control : Option Variable) → IsControl sets i control → (HasBadSecond sets i → ⊥)
    → ((k : ℕ) → HasBadDerivation sets i control k → ⊥)
    → (k : ℕ) (w : Variable) → IsOperand i k w → (x : TypeConstraint) × IsConstraint sets (controls_of i control) w x
has_constraint sets i control h second good k w at = by_case (fixed_or_nowhere (sets w.root) w.chain)
  where
    -- one type is fixed for it, or none
    by_case : ((t : TypeParts) × IsFixed (sets w.root) w.chain t) ⊎ IsOpen sets w → HasSomeConstraint sets (controls_of i control) w
    by_case (inl (t, fixed)) = (ConcreteType t, fixed)
    by_case (inr open_) = by_chain sets w (controls_of i control) (ruling_of sets i control h second).underived open_
        (λ bad. good k (record { variable = w; operand = at; bad = bad })) w.chain refl

-- the operand has no constraint, if it is badly derived
no_constraint : (sets : Sets) (controls : Which → Option Variable) (w : Variable) (x : TypeConstraint) → IsBadlyDerived sets controls w
    → ((a : Which) (v : Variable) → controls a ≡ Some v → v.chain ≡ []) → IsConstraint sets controls w x → ⊥
no_constraint sets controls w (ConcreteType t) bad under h = bad.not_fixed t h
no_constraint sets controls w (FreeType s) bad under h = bad.derived h.underived
no_constraint sets controls w (SameType a) bad under h = bad.derived (under a w h.controls_is)
no_constraint sets controls w (ByType a f) bad under h = bad.no_step a h.variable f h.controls_is h.derived

-- An operand that has a constraint isn't badly derived.
pub constraint_not_bad : (sets : Sets) (i : Instruction) (control : Option Variable) (k : ℕ) (w : Variable) (x : TypeConstraint)
    → IsControl sets i control → (HasBadSecond sets i → ⊥) → IsOperand i k w → IsConstraint sets (controls_of i control) w x
    → HasBadDerivation sets i control k → ⊥
constraint_not_bad sets i control k w x h second at is bad =
    let same : bad.variable ≡ w = same_Some bad.variable w (sym bad.operand ∙ at) in
    no_constraint sets (controls_of i control) bad.variable x bad.bad (ruling_of sets i control h second).underived
    (subst (λ (y : Variable). IsConstraint sets (controls_of i control) y x) (sym same) is)

-- One test an operand is one joint choice.
pub one_test : (sets : Sets) (i : Instruction) (control : Option Variable) (c d : Option TypeParts) (rs vs : List TypeParts)
    → IsControl sets i control → (HasBadSecond sets i → ⊥) → ((k : ℕ) → HasBadDerivation sets i control k → ⊥)
    → (Admits sets i control c d rs vs ↔ Accepts sets i control c d rs vs)
one_test sets i control c d rs vs h second good = (
  (λ a. accepts_from_admits sets i control c d rs vs h second a),
  (λ a. admits_from_accepts sets i control c d rs vs h second (has_constraint sets i control h second good) a),
)
