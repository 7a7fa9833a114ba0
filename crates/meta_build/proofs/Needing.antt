-- What one instruction needs, by the numbers of its variables.
use Rattle.std.proofs.Common.{◌≡◌, ◌≢◌, ◌≤◌, ◌+◌, ◌↔◌, IsTrue, Bool, true, false, ℕ, zero, suc, List, [], length, Option, None, Some}
use Rattle.std.proofs.Common.{IfSome, IfNone, slice_get, refl, sym, ap, ◌∙◌, subst, add-one, arith}
use Rattle.std.specs.Prelude.{is_some, option_map}
use Rattle.std.proofs.lemmas.Bool.{false≢true}
use Rattle.std.proofs.lemmas.Option.{same_Some, slice_get_within}
use Rattle.meta_types.specs.Function.{Function}
use Rattle.meta_types.specs.ValueTypes.{type_parts_of}
use Rattle.meta_types.specs.declared.value_type.ValueType.{ValueType}
use Rattle.meta_typevar.specs.Chain.{IsFixed, IsFixedNowhere}
use Rattle.meta_typevar.specs.TypeSetParts.{TypeSetParts, HasOne}
use Rattle.meta_typevar.specs.Variable.{Variable, IsOpen, underived}
use Rattle.meta_typevar.specs.Registry.{sets_of, variable_at, coded_of, coded_at, IsRaw, IsKept, IsRegistry, HoldTypeSets}
use Rattle.meta_typevar.specs.declared.content.TypeVarContent.{TypeVarContent}
use Rattle.meta_inst.specs.Builder.{Builder}
use Rattle.meta_inst.specs.Which.{Which, First, Second, both}
use Rattle.meta_inst.specs.Controls.{IsOneOf, AreControlsOf}
use Rattle.meta_inst.specs.Instruction.{Instruction, controls_of}
use Rattle.meta_inst.specs.InstructionSet.{InstructionSet, root_sets, instruction_in_set}
use Rattle.meta_inst.specs.Operands.{OperandList, instruction_of_operands, AreOf}
use Rattle.meta_inst.specs.Control.{IsControl}
use Rattle.meta_inst.specs.Faults.{IsAt, IsControlSet, IsFreeSet}
use Rattle.meta_typevar.proofs.Variables.{underived_told}
use Rattle.meta_inst.proofs.ControlLemmas.{control_is, control_numbered, control_from}
use Rattle.meta_inst.proofs.OneType.{one_told}
use Rattle.meta_inst.proofs.Meaning.{operand_at, operand_from}
use Rattle.meta_inst.proofs.OneControl.{same_control}
use Rattle.meta_build.specs.Needed.{NeedsUnder, NeedsAtPlace, NeedsInOrder}
use Rattle.meta_build.specs.Interned.{Adds, AddsSome, AddsEach, AddsNeeded, IsControlSetOf, IsFreeSetOf, IsFreeSetAt}
use Rattle.meta_build.proofs.Interning.{adds_none, adds_one_set, adds_like, each_like, each_after, IsInterned, needs_more}
use Rattle.meta_build.proofs.Interning.{next_instruction}

module _ (vars : List TypeVarContent) (o : OperandList) (within : o.result_count ≤ length o.variables) (c : Option ℕ)
    (is_control : IsControl (sets_of vars) (instruction_of_operands vars o) (option_map (variable_at vars) c)) (registry : IsRegistry vars)
    (are : AreOf vars o.variables) (of : AreControlsOf vars (both c o.second)) where
  abbrev i : Instruction
  i = instruction_of_operands vars o

  -- the controls, by their numbers
  abbrev controls : Which → Option ℕ
  controls = both c o.second

  abbrev control : Option Variable
  control = option_map (variable_at vars) c

  control_to : (a : Which) (s : TypeSetParts) → IsControlSetOf vars controls a s → IsControlSet (sets_of vars) (controls_of i control) a s
  control_to a s h = record {
    variable = variable_at vars h.variable;
    controls_is = control_is vars controls a h.variable h.controls_is;
    set = h.set;
  }

  from_first : (s : TypeSetParts) → IsControlSetOf vars controls First s → NeedsAtPlace (sets_of vars) i 0 s
  from_first s h = record { control = control; is_control = is_control; needs = control_to First s h }

  from_second : (s : TypeSetParts) → IsControlSetOf vars controls Second s → NeedsAtPlace (sets_of vars) i 1 s
  from_second s h = record { control = control; is_control = is_control; needs = control_to Second s h }

  from_free : (k : ℕ) (s : TypeSetParts) → IsFreeSetAt vars controls o.variables k s → NeedsAtPlace (sets_of vars) i (suc (suc k)) s
  from_free k s h = record {
    control = control;
    is_control = is_control;
    needs = (
      record {
        place = k;
        variable = variable_at vars h.variable;
        operand = operand_at vars o within registry are (of Second) k h.variable h.at;
        underived = h.free.underived;
        other = λ a e. h.free.other (a, control_from vars controls registry of a h.variable (are k h.variable h.at) e);
        set = h.free.set;
        several = h.free.several;
      },
      refl,
    );
  }

  control_back : (a : Which) (s : TypeSetParts) → IsControlSet (sets_of vars) (controls_of i control) a s → IsControlSetOf vars controls a s
  control_back a s h =
      let (m, by, same) = control_numbered vars controls a h.variable h.controls_is in
      record { variable = m; controls_is = by; set = h.set ∙ ap (λ (w : Variable). sets_of vars w.root) (sym same) }

  free_back : (s : TypeSetParts) (f : IsFreeSet (sets_of vars) i control s) → IsFreeSetAt vars controls o.variables f.place s
  free_back s h =
      let (n, at, e) = operand_from vars o within registry are (of Second) h.place h.variable h.operand in
      record {
        variable = n;
        at = at;
        free = record {
          other = λ one. h.other one.0 (control_is vars controls one.0 n one.1 ∙ ap Some (sym e));
          underived = subst (λ (w : Variable). w.chain ≡ []) e h.underived;
          set = h.set ∙ ap (λ (w : Variable). sets_of vars w.root) e;
          several = h.several;
        };
      }

  -- a need under the control that was found
  under : (k : ℕ) (s : TypeSetParts) → NeedsAtPlace (sets_of vars) i k s → NeedsUnder (sets_of vars) i control k s
  under k s n = subst (λ (v : Option Variable). NeedsUnder (sets_of vars) i v k s)
      (same_control (sets_of vars) i n.control control n.is_control is_control) n.needs

  first_back : (s : TypeSetParts) → NeedsAtPlace (sets_of vars) i 0 s → IsControlSetOf vars controls First s
  first_back s n = control_back First s (under 0 s n)

  second_back : (s : TypeSetParts) → NeedsAtPlace (sets_of vars) i 1 s → IsControlSetOf vars controls Second s
  second_back s n = control_back Second s (under 1 s n)

  after_back : (k : ℕ) (s : TypeSetParts) → NeedsAtPlace (sets_of vars) i (suc (suc k)) s → IsFreeSetAt vars controls o.variables k s
  after_back k s n = let f = under (suc (suc k)) s n in subst (λ p. IsFreeSetAt vars controls o.variables p s) f.1 (free_back s f.0)

  no_more : (place : ℕ) (s : TypeSetParts) → suc (suc (length o.variables)) ≤ place → NeedsAtPlace (sets_of vars) i place s → ⊥
  no_more zero s l n = omega (arith, l)
  no_more (suc zero) s l n = omega (arith, l)
  no_more (suc (suc k)) s l n =
      let f = after_back k s n in
      let inside = slice_get_within o.variables k f.variable f.at in
      omega (arith, l, inside)

  -- the set of the control, that of the second control, and then those of the operands
  pub adds_needed : (a b x d : List TypeSetParts) → AddsSome (IsControlSetOf vars controls First) a b
      → AddsSome (IsControlSetOf vars controls Second) b x → AddsEach (IsFreeSetAt vars controls o.variables) (length o.variables) x d
      → AddsNeeded (sets_of vars) i a d
  adds_needed a b x d first next rest = record {
    end = suc (suc (length o.variables));
    each = each_after (NeedsAtPlace (sets_of vars) i) (suc (length o.variables)) a b d
        (adds_like (IsControlSetOf vars controls First) (NeedsAtPlace (sets_of vars) i 0) a b from_first first_back first)
        (each_after (λ k. NeedsAtPlace (sets_of vars) i (suc k)) (length o.variables) b x d
        (adds_like (IsControlSetOf vars controls Second) (NeedsAtPlace (sets_of vars) i 1) b x from_second second_back next)
        (each_like (IsFreeSetAt vars controls o.variables) (λ k. NeedsAtPlace (sets_of vars) i (suc (suc k)))
        (length o.variables) x d from_free after_back rest));
    no_more = no_more;
  }

-- the needs of the instruction at a place
module _ (d : InstructionSet) (k : ℕ) (b : Builder) (at : IsAt d k b) where
  in_order : (p : ℕ) (s : TypeSetParts) → NeedsAtPlace (root_sets d) (instruction_in_set d b) p s → NeedsInOrder d k p s
  in_order p s n = record { user = b; at = at; needs = n }

  at_place : (p : ℕ) (s : TypeSetParts) → NeedsInOrder d k p s → NeedsAtPlace (root_sets d) (instruction_in_set d b) p s
  at_place p s n =
      let same : n.user ≡ b = same_Some n.user b (sym n.at ∙ at) in
      subst (λ (u : Builder). NeedsAtPlace (root_sets d) (instruction_in_set d u) p s) same n.needs

  pub instruction_more : (x y : List TypeSetParts) → HoldTypeSets d.vars → IsInterned d k 0 x
      → AddsNeeded (root_sets d) (instruction_in_set d b) x y → IsInterned d (k + 1) 0 y
  instruction_more x y types h a =
      next_instruction d k a.end y
      (needs_more d types k a.end x y h (each_like (NeedsAtPlace (root_sets d) (instruction_in_set d b))
      (NeedsInOrder d k) a.end x y in_order at_place a.each))
      (λ p s l n. a.no_more p s l (at_place p s n))

-- what is kept of a root as its set is its coded image
pub root_raw : (vars : List TypeVarContent) (r : ℕ) → variable_at vars r ≡ underived r → IsRaw vars r
root_raw vars r e = sym (ap (coded_of vars) e)

-- the set that is read of a root is that of the variable's root
pub set_is : (vars : List TypeVarContent) (n r : ℕ) (x : TypeSetParts) → r ≡ (variable_at vars n).root → variable_at vars r ≡ underived r
    → x ≡ coded_at vars r → x ≡ sets_of vars (variable_at vars n).root
set_is vars n r x at e is = is ∙ sym (root_raw vars r e) ∙ ap (sets_of vars) at

same_variable : (c : Option ℕ) (v w : ℕ) → c ≡ Some v → c ≡ Some w → v ≡ w
same_variable c v w e f = same_Some v w (sym e ∙ f)

-- the set of a control
pub adds_control : (vars : List TypeVarContent) (controls : Which → Option ℕ) (w : Which) (v : ℕ) (a b : List TypeSetParts)
    → controls w ≡ Some v → Adds (sets_of vars (variable_at vars v).root) a b → AddsSome (IsControlSetOf vars controls w) a b
adds_control vars controls w v a b is = adds_one_set (IsControlSetOf vars controls w) (sets_of vars (variable_at vars v).root) a b
    (record { variable = v; controls_is = is; set = refl })
    (λ s h. h.set ∙ ap (λ n. sets_of vars (variable_at vars n).root) (same_variable (controls w) h.variable v h.controls_is is))

-- there is no such control
pub adds_no_control : (vars : List TypeVarContent) (controls : Which → Option ℕ) (w : Which) (sets : List TypeSetParts) → controls w ≡ None
    → AddsSome (IsControlSetOf vars controls w) sets sets
adds_no_control vars controls w sets is = adds_none (IsControlSetOf vars controls w) sets (λ s h. let no : None ≡ Some h.variable = sym is
    ∙ h.controls_is in absurd (cc))

-- the variable controls
pub adds_controlling : (vars : List TypeVarContent) (controls : Which → Option ℕ) (n : ℕ) (sets : List TypeSetParts) → IsOneOf controls n
    → AddsSome (IsFreeSetOf vars controls n) sets sets
adds_controlling vars controls n sets is = adds_none (IsFreeSetOf vars controls n) sets (λ s h. h.other is)

-- the variable is derived
pub adds_derived : (vars : List TypeVarContent) (controls : Which → Option ℕ) (n : ℕ) (d : TypeVarContent) (sets : List TypeSetParts)
    (r : Bool) → IsRegistry vars → IsKept vars n d → r ≡ is_some d.base → r ≡ true → AddsSome (IsFreeSetOf vars controls n) sets sets
adds_derived vars controls n d sets r registry kept is some = adds_none (IsFreeSetOf vars controls n) sets
    (λ s h. let none = (underived_told vars n d registry kept).1 h.underived in false≢true (sym (ap is_some none) ∙ sym is ∙ some))

-- it isn't
nothing_there : {X : Type 0} (o : Option X) → is_some o ≡ false → o ≡ None
nothing_there None e = refl
nothing_there (Some x) e = absurd (cc)

pub underived_by : (vars : List TypeVarContent) (n : ℕ) (d : TypeVarContent) (r : Bool) → IsRegistry vars → IsKept vars n d
    → r ≡ is_some d.base → r ≡ false → (variable_at vars n).chain ≡ []
underived_by vars n d r registry kept is none = (underived_told vars n d registry kept).0 (nothing_there d.base (sym is ∙ none))

module _ (vars : List TypeVarContent) (controls : Which → Option ℕ) (n : ℕ) (o : Option ValueType) (r : Bool)
    (found : IfSome o (λ t. IsFixed (sets_of vars (variable_at vars n).root) (variable_at vars n).chain (type_parts_of t)))
    (nowhere : IfNone o (IsOpen (sets_of vars) (variable_at vars n))) (is : r ≡ is_some o) (underived : (variable_at vars n).chain
    ≡ []) where
  abbrev own_set : TypeSetParts
  own_set = sets_of vars (variable_at vars n).root

  -- whether a type is fixed for an underived variable
  one_of : IsTrue (is_some o) ↔ HasOne own_set
  one_of = one_told own_set o
      (subst (λ (fs : List Function). IfSome o (λ t. IsFixed own_set fs (type_parts_of t))) underived found)
      (subst (λ (fs : List Function). IfNone o (IsFixedNowhere own_set fs)) underived nowhere)

  -- a type is fixed for the variable
  pub adds_fixed : (sets : List TypeSetParts) → r ≡ true → AddsSome (IsFreeSetOf vars controls n) sets sets
  adds_fixed sets fixed =
      adds_none (IsFreeSetOf vars controls n) sets (λ s h. h.several (subst HasOne (sym h.set) (one_of.0 (sym is ∙ fixed))))

  -- no type is fixed, and it isn't a control
  pub adds_open : (a b : List TypeSetParts) (is_one : Bool) → r ≡ false → (IsTrue is_one ↔ IsOneOf controls n) → is_one ≡ false
      → Adds own_set a b → AddsSome (IsFreeSetOf vars controls n) a b
  adds_open a b is_one open_set told other = adds_one_set (IsFreeSetOf vars controls n) own_set a b
      (record {
        other = λ one. false≢true (sym other ∙ told.1 one);
        underived = underived;
        set = refl;
        several = λ one. false≢true (sym open_set ∙ is ∙ one_of.1 one);
      })
      (λ s h. h.set)

-- one variable more
pub one_variable_more : (vars : List TypeVarContent) (controls : Which → Option ℕ) (numbers : List ℕ) (k n : ℕ) (a b d : List TypeSetParts)
    → slice_get numbers k ≡ Some n → AddsEach (IsFreeSetAt vars controls numbers) k a b → AddsSome (IsFreeSetOf vars controls n) b d
    → AddsEach (IsFreeSetAt vars controls numbers) (k + 1) a d
one_variable_more vars controls numbers k n a b d at h g =
    subst (λ m. AddsEach (IsFreeSetAt vars controls numbers) m a d) (sym (add-one k)) (
      b,
      h,
      adds_like (IsFreeSetOf vars controls n) (IsFreeSetAt vars controls numbers k) b d
          (λ s f. record { variable = n; at = at; free = f })
          (λ s f. subst (λ (m : ℕ). IsFreeSetOf vars controls m s) (same_Some f.variable n (sym f.at ∙ at)) f.free)
          g,
    )
