-- A number passes a table's constraint exactly where its type passes the constraint over types.
use Rattle.std.proofs.Common.{◌≡◌, ℕ, ◌==◌, Option, None, Some, MatchBool, refl, sym, ap, ◌∙◌, subst, subst₂, arith}
use Rattle.std.proofs.lemmas.Bool.{MatchBool-at_true, MatchBool-at_false, eq-eqb, ne_eqb}
use Rattle.std.proofs.lemmas.Option.{same_Some}
use Rattle.meta_types.specs.TypeParts.{TypeParts, IsType, number_of}
use Rattle.meta_types.specs.Function.{StepsTypes}
use Rattle.meta_typevar.specs.TypeSetParts.{TypeSetParts, IsMember, IsTypeSet}
use Rattle.meta_typevar.specs.Masks.{AreMasksOf}
use Rattle.meta_typevar.specs.Variable.{Variable, Sets}
use Rattle.meta_inst.specs.Which.{Which}
use Rattle.meta_inst.specs.Acceptance.{IsNumberOf}
use Rattle.meta_inst.specs.Constraint.{TypeConstraint, ConcreteType, FreeType, SameType, ByType, IsConstraint, Passes, ControlFits}
use Rattle.meta_inst.specs.Tables.{TableContents, NumberConstraint, SetContains, HoldsSet, StandsFor, NumberPasses, ControlNumberFits}
use Rattle.meta_inst.specs.Tables.{IsTypeSetOffset, no_type_set}
use Rattle.meta_types.proofs.Numbers.{one_number}
use Rattle.meta_inst.proofs.Members.{numbers_of_members}
use Rattle.meta_inst.proofs.Chains.{agrees_type}
use Rattle.meta_types.specs.TypeNumber.{IsTypeNumber}
use Rattle.meta_types.proofs.TypeNumbers.{number_is_one}
use Rattle.meta_inst.proofs.ListedOperands.{type_of_number, number_of_type, number_of_none}

-- what a constraint names are a type or a set of types
abbrev pub IsSound : TypeConstraint → Type 0
IsSound (ConcreteType t) = IsType t
IsSound (FreeType s) = IsTypeSet s
IsSound (SameType a) = Unit {0}
IsSound (ByType a f) = Unit {0}

-- an operand's constraint names a type or a set of types, where its root has a set of types
pub constraint_sound : (sets : Sets) (controls : Which → Option Variable) (w : Variable) (x : TypeConstraint) → IsTypeSet (sets w.root)
    → IsConstraint sets controls w x → IsSound x
constraint_sound sets controls w (ConcreteType t) is h = agrees_type w.chain h.member t h.inhabited.is_type (h.reached h.member h.inhabited)
constraint_sound sets controls w (FreeType s) is h = subst IsTypeSet (sym h.set) is
constraint_sound sets controls w (SameType a) is h = tt
constraint_sound sets controls w (ByType a f) is h = tt

module _ (tables : TableContents) (j : ℕ) (s : TypeSetParts) (is : IsTypeSet s) (holds : HoldsSet tables j s) where
  -- a number that type set j contains is that of a member
  pub member_of_set : (n : ℕ) → SetContains tables j n → (t : TypeParts) × IsMember s t × (number_of t ≡ n)
  member_of_set n c =
      let same : holds.masks ≡ c.masks = same_Some holds.masks c.masks (sym holds.is_set ∙ c.is_set) in
      (numbers_of_members s c.masks n is (subst (λ m. AreMasksOf s m) same holds.are_masks)).0 c.contains

  -- a type whose number type set j contains is a member
  pub member_in_set : (t : TypeParts) → IsType t → SetContains tables j (number_of t) → IsMember s t
  member_in_set t is_t c = let (u, m, e) = member_of_set (number_of t) c in subst (λ y. IsMember s y) (one_number u t m.is_type is_t e) m

  -- type set j contains the number of each member
  pub set_of_member : (t : TypeParts) → IsMember s t → SetContains tables j (number_of t)
  set_of_member t m = record {
    masks = holds.masks;
    is_set = holds.is_set;
    contains = (numbers_of_members s holds.masks (number_of t) is holds.are_masks).1 (t, m, refl);
  }

module _ (tables : TableContents) (e : Which → Option TypeParts) (c : Which → Option ℕ) (numbered : (a : Which)
    → IsNumberOf (e a) (c a)) where
  -- a number that passes what stands for a constraint is that of a type
  pub passing_typed : (x : TypeConstraint) (y : NumberConstraint) (n : ℕ) → IsSound x → StandsFor tables x y → NumberPasses tables c y n
      → IsTypeNumber n
  passing_typed (ConcreteType t) y n sound stands p =
      subst IsTypeNumber (sym (subst (λ z. NumberPasses tables c z n) stands p)) (number_is_one t sound)
  passing_typed (FreeType s) y n sound (j, stands, holds) p =
      let (t, m, is) = member_of_set tables j s sound holds n (subst (λ z. NumberPasses tables c z n) stands p) in
      subst IsTypeNumber is (number_is_one t m.is_type)
  passing_typed (SameType a) y n sound stands p =
      let (t, _, is, number) = type_of_number (e a) (c a) n (numbered a) (subst (λ z. NumberPasses tables c z n) stands p) in
      subst IsTypeNumber number (number_is_one t is)
  passing_typed (ByType a f) y n sound stands p =
      let (u, _, steps) = subst (λ z. NumberPasses tables c z n) stands p in
      subst IsTypeNumber steps.number_to (number_is_one steps.to steps.steps.to)

  -- where the number of a type passes what stands for a constraint, the type passes it
  pub type_passes : (x : TypeConstraint) (y : NumberConstraint) (t : TypeParts) → IsSound x → IsType t → StandsFor tables x y
      → NumberPasses tables c y (number_of t) → Passes e x t
  type_passes (ConcreteType m) y t sound is stands p = one_number t m is sound (subst (λ z. NumberPasses tables c z (number_of t)) stands p)
  type_passes (FreeType s) y t sound is (j, stands, holds) p =
      member_in_set tables j s sound holds t is (subst (λ z. NumberPasses tables c z (number_of t)) stands p)
  type_passes (SameType a) y t sound is stands p =
      let (u, e_is, is_u, number) =
      type_of_number (e a) (c a) (number_of t) (numbered a) (subst (λ z. NumberPasses tables c z (number_of t)) stands p) in
      e_is ∙ ap Some (one_number u t is_u is number)
  type_passes (ByType a f) y t sound is stands p =
      let (n, c_is, steps) = subst (λ z. NumberPasses tables c z (number_of t)) stands p in
      let (u, e_is, is_u, number) = type_of_number (e a) (c a) n (numbered a) c_is in
      let from : steps.from ≡ u = one_number steps.from u steps.steps.from is_u (steps.number_from ∙ sym number) in
      let to : steps.to ≡ t = one_number steps.to t steps.steps.to is steps.number_to in
      (u, e_is, subst₂ (λ (v w : TypeParts). StepsTypes f v w) from to steps.steps)

  -- where a type passes a constraint, its number passes what stands for that
  pub number_passes : (x : TypeConstraint) (y : NumberConstraint) (t : TypeParts) → IsSound x → StandsFor tables x y → Passes e x t
      → NumberPasses tables c y (number_of t)
  number_passes (ConcreteType m) y t sound stands p = subst (λ z. NumberPasses tables c z (number_of t)) (sym stands) (ap number_of p)
  number_passes (FreeType s) y t sound (j, stands, holds) p =
      subst (λ z. NumberPasses tables c z (number_of t)) (sym stands) (set_of_member tables j s sound holds t p)
  number_passes (SameType a) y t sound stands p =
      subst (λ z. NumberPasses tables c z (number_of t)) (sym stands) (number_of_type (e a) (c a) t (numbered a) p)
  number_passes (ByType a f) y t sound stands (u, e_is, steps) =
      subst (λ z. NumberPasses tables c z (number_of t)) (sym stands) (
        number_of u,
        number_of_type (e a) (c a) u (numbered a) e_is,
        record {
          from = u;
          to = t;
          steps = steps;
          number_from = refl;
          number_to = refl;
        },
      )

-- a controlling number that fits the table's offset is that of a type that fits the control
pub controlling_type : (sets : Sets) (control : Option Variable) (tables : TableContents) (offset : ℕ) (c : Option ℕ)
    → ((v : Variable) → control ≡ Some v → IsTypeSet (sets v.root)) → IsTypeSetOffset sets control tables offset
    → ControlNumberFits tables offset c
    → (e : Option TypeParts) × IsNumberOf e c × ControlFits sets control e
controlling_type sets None tables offset c typed at fits = (None, MatchBool-at_true _ _ (eq-eqb offset no_type_set at) fits, refl)
controlling_type sets (Some v) tables offset c typed (below, holds) fits =
    let differs : offset ≡ no_type_set → ⊥ = λ same. omega arith in
    let (n, c_is, contains) = MatchBool-at_false {b = offset == no_type_set} (c ≡ None) ((n : ℕ) × (c ≡ Some n)
    × SetContains tables offset n) (ne_eqb offset no_type_set differs) fits in
    let (t, m, number) = member_of_set tables offset (sets v.root) (typed v refl) holds n contains in
    (Some t, (m.is_type, c_is ∙ ap Some (sym number)), (t, refl, m))

-- the number of a type that fits the control fits the table's offset
pub control_number_fits : (sets : Sets) (control : Option Variable) (tables : TableContents) (offset : ℕ) (e : Option TypeParts)
    (c : Option ℕ) → ((v : Variable) → control ≡ Some v → IsTypeSet (sets v.root)) → IsTypeSetOffset sets control tables offset
    → IsNumberOf e c → ControlFits sets control e
    → ControlNumberFits tables offset c
control_number_fits sets None tables offset e c typed at numbered fits =
    subst (λ b. MatchBool b (c ≡ None) ((n : ℕ) × (c ≡ Some n) × SetContains tables offset n)) (sym (eq-eqb offset no_type_set at))
    (number_of_none e c numbered fits)
control_number_fits sets (Some v) tables offset e c typed (below, holds) numbered (t, e_is, m) =
    let differs : offset ≡ no_type_set → ⊥ = λ same. omega arith in
    subst (λ b. MatchBool b (c ≡ None) ((n : ℕ) × (c ≡ Some n) × SetContains tables offset n)) (sym (ne_eqb offset no_type_set differs))
    (number_of t, number_of_type e c t numbered e_is, set_of_member tables offset (sets v.root) (typed v refl) holds t m)
