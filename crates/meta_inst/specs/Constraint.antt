-- The constraint of one operand, and what passes it.
use Rattle.std.specs.Prelude.{◌≡◌, ◌≢◌, ℕ, List, [], ◌++◌, length, slice_get, Option, None, Some}
use Rattle.meta_types.specs.TypeParts.{TypeParts}
use Rattle.meta_types.specs.Function.{Function, StepsTypes}
use Rattle.meta_typevar.specs.TypeSetParts.{TypeSetParts, IsMember}
use Rattle.meta_typevar.specs.Chain.{IsFixed}
use Rattle.meta_typevar.specs.Variable.{Variable, Sets, IsDerivedBy, IsOpen}
use Rattle.meta_inst.specs.Which.{Which, both}
use Rattle.meta_inst.specs.Instruction.{Instruction, IsOperand, controls_of}

-- one type, any type of a set, the type of a control, or what a function or relation leads to from the type of a control
pub data TypeConstraint : Type 0 where
  ConcreteType : TypeParts → TypeConstraint
  FreeType : TypeSetParts → TypeConstraint
  SameType : Which → TypeConstraint
  ByType : Which → Function → TypeConstraint

-- w isn't fixed, is underived and no control, and s is the set of its root
pub record IsFree (sets : Sets) (controls : Which → Option Variable) (w : Variable) (s : TypeSetParts) : Type 0 where
  pub not_fixed : IsOpen sets w
  pub underived : w.chain ≡ []
  pub other : (a : Which) → controls a ≢ Some w
  pub set : s ≡ sets w.root

-- w isn't fixed, and it is control a
pub record IsSame (sets : Sets) (controls : Which → Option Variable) (w : Variable) (a : Which) : Type 0 where
  pub not_fixed : IsOpen sets w
  pub controls_is : controls a ≡ Some w

-- w isn't fixed, and f alone leads to it from control a
pub record IsBy (sets : Sets) (controls : Which → Option Variable) (w : Variable) (a : Which) (f : Function) : Type 0 where
  pub not_fixed : IsOpen sets w
  pub variable : Variable
  pub controls_is : controls a ≡ Some variable
  pub derived : IsDerivedBy variable w f

-- The constraint of the operand w: its fixed type where it has one; and else the set of its root, where it is underived
-- and no control; which control it is; or the control from which a function leads to it, and that function.
abbrev pub IsConstraint : Sets → (Which → Option Variable) → Variable → TypeConstraint → Type 0
IsConstraint sets controls w (ConcreteType t) = IsFixed (sets w.root) w.chain t
IsConstraint sets controls w (FreeType s) = IsFree sets controls w s
IsConstraint sets controls w (SameType a) = IsSame sets controls w a
IsConstraint sets controls w (ByType a f) = IsBy sets controls w a f

-- under these controlling types the type t passes the constraint
abbrev pub Passes : (Which → Option TypeParts) → TypeConstraint → TypeParts → Type 0
Passes c (ConcreteType n) t = t ≡ n
Passes c (FreeType s) t = IsMember s t
Passes c (SameType a) t = c a ≡ Some t
Passes c (ByType a f) t = (u : TypeParts) × (c a ≡ Some u) × StepsTypes f u t

-- There is no type for a control that doesn't exist; else the type is in the control's type set.
abbrev pub ControlFits : Sets → Option Variable → Option TypeParts → Type 0
ControlFits sets None c = c ≡ None
ControlFits sets (Some v) c = (t : TypeParts) × (c ≡ Some t) × IsMember (sets v.root) t

-- the type t passes the constraint of the operand w
abbrev pub PassesOwn : Sets → (Which → Option Variable) → (Which → Option TypeParts) → Variable → TypeParts → Type 0
PassesOwn sets controls c w t = (x : TypeConstraint) × IsConstraint sets controls w x × Passes c x t

-- One test an operand: the lists are as long as declared, the two controlling types fit, and the type of each operand passes
-- that operand's constraint.
pub record Admits (sets : Sets) (i : Instruction) (control : Option Variable) (c d : Option TypeParts) (rs vs : List TypeParts) :
    Type 0 where
  pub results : length rs ≡ length i.results
  pub values : length vs ≡ length i.values
  pub control_fits : ControlFits sets control c
  pub second_fits : ControlFits sets i.second d
  pub passes : (k : ℕ) (w : Variable) (t : TypeParts) → IsOperand i k w → slice_get (rs ++ vs) k ≡ Some t
      → PassesOwn sets (controls_of i control) (both c d) w t
