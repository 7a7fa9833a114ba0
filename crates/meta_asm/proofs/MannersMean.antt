-- The manner of an opcode by tables is that of the instruction as it is declared.
use Rattle.std.proofs.Common.{◌≡◌, ◌↔◌, inl, inr, ℕ, zero, suc, ◌+◌, ◌<◌, ◌≤◌, ◌/◌, ◌%◌, ◌==◌, ◌&&◌, Bool, true, false, IsTrue}
use Rattle.std.proofs.Common.{List, [], ◌∷◌, ◌++◌, map, drop, length, slice_get, Option, None, Some, refl, sym, ap, ap₂, ◌∙◌, subst}
use Rattle.std.proofs.Common.{add-one, arith, eq-eqb}
use Rattle.std.specs.List.{list_any}
use Rattle.std.specs.Cmp.{both_ways}
use Rattle.std.proofs.lemmas.Bool.{and_parts, eqb-true}
use Rattle.std.proofs.lemmas.Option.{same_Some, slice_get_within, get_or_from_slice_get}
use Rattle.std.proofs.lemmas.List.{length-map, length-take-le}
use Rattle.std.proofs.lemmas.List.Folds.{list_any_at}
use Rattle.meta_lists.proofs.Places.{get_there, get_beside, get_stays, get_right, get_seam, get_take, get_drop, same_places}
use Rattle.meta_lists.proofs.Mapped.{get_map}
use Rattle.meta_lists.proofs.Pushed.{not_empty}
use Rattle.meta_types.specs.TypeParts.{TypeParts, number_of}
use Rattle.meta_types.specs.Function.{IsRelation, IsFunction}
use Rattle.meta_types.proofs.Functions.{no_function}
use Rattle.meta_typevar.specs.TypeSetParts.{TypeSetParts, HasOne}
use Rattle.meta_typevar.specs.Chain.{IsFixed}
use Rattle.meta_typevar.specs.Variable.{Variable, Sets, underived}
use Rattle.meta_inst.specs.Which.{Which, First, Second}
use Rattle.meta_inst.specs.Instruction.{Instruction, IsOperand, IsDesignated, controls_of}
use Rattle.meta_inst.specs.Control.{IsControl, HasBadSecond, IsRuled}
use Rattle.meta_inst.specs.InstructionSet.{InstructionSet, root_sets, instruction_in_set}
use Rattle.meta_inst.proofs.OneControl.{same_control}
use Rattle.meta_inst.specs.Constraint.{TypeConstraint, ConcreteType, FreeType, SameType, ByType, IsConstraint, IsFree}
use Rattle.meta_inst.specs.Tables.{TableContents, OpcodeNumbers, NumberConstraint, ConcreteNumber, FreeOf, SameNumber, ByNumber}
use Rattle.meta_inst.specs.Tables.{StandsFor, Constrains, AreOpcodeNumbersOf, IsTypeSetOffset, DesignatedControls, at_opcode}
use Rattle.meta_inst.specs.Tables.{result_count, value_count, no_type_set}
use Rattle.meta_inst.specs.Inference.{EndsInRelation}
use Rattle.meta_inst.proofs.Candidates.{same_variable}
use Rattle.meta_inst.proofs.Fixedness.{fixed_from_one, one_from_fixed}
use Rattle.meta_lists.proofs.Everywhere.{at_place}
use Rattle.meta_gen.proofs.Meant.{opcode_is}
use Rattle.meta_verify.proofs.Allowed.{first_named}
use Rattle.meta_asm.specs.Short.{Manner}
use Rattle.meta_asm.specs.Manners.{is_open, is_control, result_constraints, value_constraints, manner_of, IsMannerIn}
use Rattle.meta_asm.specs.Manners.{ControlHasOne, IsMannerOf, IsMannerDeclared}
use Rattle.meta_asm.specs.Made.{AreMade}
use Rattle.meta_asm.proofs.Determined.{relation_is, relation_passes, result_at, value_within, any_there, control_constraint_is}

-- ---- chains

same_last : {X : Type 0} (xs ys : List X) (x y : X) → xs ++ x ∷ [] ≡ ys ++ y ∷ [] → x ≡ y
same_last [] [] x y e = cc
same_last [] (b ∷ ys) x y e = let none : ys ++ y ∷ [] ≡ [] = cc in absurd (not_empty ys y none)
same_last (a ∷ xs) [] x y e = let none : xs ++ x ∷ [] ≡ [] = cc in absurd (not_empty xs x none)
same_last (a ∷ xs) (b ∷ ys) x y e = let others : xs ++ x ∷ [] ≡ ys ++ y ∷ [] = cc in same_last xs ys x y others

-- an underived variable ends in nothing
underived_ends : (w : Variable) → w.chain ≡ [] → EndsInRelation w → ⊥
underived_ends w none h = not_empty h.before h.last (sym h.chain ∙ none)

-- a variable whose type is fixed ends in no relation
fixed_ends : (s : TypeSetParts) (w : Variable) (t : TypeParts) → IsFixed s w.chain t → EndsInRelation w → ⊥
fixed_ends s w t fixed h =
    let at : slice_get w.chain (length h.before) ≡ Some h.last = ap (λ c. slice_get c (length h.before)) h.chain
    ∙ get_seam h.before h.last [] in
    no_function h.last h.relation (at_place IsFunction w.chain (length h.before) h.last fixed.functions at)

-- ---- one instruction

-- a result is the control, or its type is fixed, or it is derived
never_free : (sets : Sets) (i : Instruction) (control : Option Variable) (k : ℕ) (w : Variable) (s : TypeSetParts)
    → IsControl sets i control → k < length i.results → IsOperand i k w → IsFree sets (controls_of i control) w s → ⊥
never_free sets i None k w s one l op h =
    let is = one k w op in
    h.not_fixed is.one (subst (λ c. IsFixed (sets w.root) c is.one) (sym h.underived) (fixed_from_one (sets w.root) is))
never_free sets i (Some v) k w s controlled l op h = by_case (controlled.may.others k w op)
  where
    by_case : IsRuled sets i v k w → ⊥
    by_case (inl root) = h.other First (ap (λ x. Some x) (same_variable v w (sym root) (controlled.may.underived ∙ sym h.underived)))
    by_case (inr (inl second)) = h.other Second (second ∙ ap (λ x. Some x) (same_variable (underived w.root) w refl (sym h.underived)))
    by_case (inr (inr (inl is))) =
        h.not_fixed is.one (subst (λ c. IsFixed (sets w.root) c is.one) (sym h.underived) (fixed_from_one (sets w.root) is))
    by_case (inr (inr (inr lone))) = let far = lone.is_input in omega (arith, far, l)

-- a control is underived
control_underived : (sets : Sets) (i : Instruction) (control : Option Variable) (v : Variable) → IsControl sets i control
    → control ≡ Some v → v.chain ≡ []
control_underived sets i None v h e = absurd (cc)
control_underived sets i (Some u) v h e = subst (λ (x : Variable). x.chain ≡ []) (same_Some u v e) h.may.underived

second_none : (sets : Sets) (tables : TableContents) (o : Option Variable) (offset : ℕ) → IsTypeSetOffset sets o tables offset
    → offset ≡ no_type_set → o ≡ None
second_none sets tables None offset h e = refl
second_none sets tables (Some v) offset (l, holds) e = absurd (omega (arith, l, e))

none_second : (sets : Sets) (tables : TableContents) (o : Option Variable) (offset : ℕ) → IsTypeSetOffset sets o tables offset → o ≡ None
    → offset ≡ no_type_set
none_second sets tables o offset h e = subst (λ x. IsTypeSetOffset sets x tables offset) e h

-- what the first control stands for
stands_first : (tables : TableContents) (x : TypeConstraint) (y : NumberConstraint) → StandsFor tables x y → y ≡ SameNumber First
    → x ≡ SameType First
stands_first tables (ConcreteType t) y h e = let no : ConcreteNumber (number_of t) ≡ SameNumber First = sym h ∙ e in absurd (cc)
stands_first tables (FreeType s) y (j, h, holds) e = let no : FreeOf j ≡ SameNumber First = sym h ∙ e in absurd (cc)
stands_first tables (SameType First) y h e = refl
stands_first tables (SameType Second) y h e = let no : SameNumber Second ≡ SameNumber First = sym h ∙ e in absurd (cc)
stands_first tables (ByType a f) y h e = let no : ByNumber a f ≡ SameNumber First = sym h ∙ e in absurd (cc)

-- places that all are there
enough : {X : Type 0} (xs : List X) (n : ℕ) → ((k : ℕ) → k < n → (x : X) × (slice_get xs k ≡ Some x)) → n ≤ length xs
enough xs zero h = omega arith
enough xs (suc n) h = let (x, at) = h n (omega arith) in let l = slice_get_within xs n x at in omega (arith, l)

-- marks that mean the same
same_mark : {P : Type 0} (a b : Bool) → (IsTrue a ↔ P) → (IsTrue b ↔ P) → a ≡ b
same_mark a b h k = both_ways a b (λ e. k.1 (h.0 e)) (λ e. h.1 (k.0 e))

-- an instruction has one manner
pub one_manner_of : (sets : Sets) (i : Instruction) (control : Option Variable) (m n : Manner) → IsMannerOf sets i control m
    → IsMannerOf sets i control n → m ≡ n
one_manner_of sets i control m n h k =
    let left = same_mark m.leaves_out n.leaves_out h.leaves_out k.leaves_out in
    let marks = same_places m.opened n.opened (h.count ∙ sym k.count) (λ j l.
    let (o, at) = get_there m.opened j l in
    let (w, there) = get_beside m.opened i.results j o h.count at in
    let (p, also) = get_beside m.opened n.opened j o (h.count ∙ sym k.count) at in
    at ∙ ap (λ x. Some x) (same_mark o p (h.opened j w o there at) (k.opened j w p there also)) ∙ sym also) in
    λ z. record { leaves_out = left z; opened = marks z }

module _ (sets : Sets) (i : Instruction) (control : Option Variable) (tables : TableContents) (entry : OpcodeNumbers)
    (controlled : IsControl sets i control) (good : HasBadSecond sets i → ⊥) (is : AreOpcodeNumbersOf sets i control tables entry) where
  -- no control ends in a relation
  control_ends : (a : Which) (v : Variable) → controls_of i control a ≡ Some v → EndsInRelation v → ⊥
  control_ends First v e h = underived_ends v (control_underived sets i control v controlled e) h
  control_ends Second v e h = good (v, e, inl (λ none. underived_ends v none h))

  -- what is open is what ends in a relation
  open_is : (k : ℕ) (w : Variable) (x : TypeConstraint) (y : NumberConstraint) → k < length i.results → IsOperand i k w
      → IsConstraint sets (controls_of i control) w x → StandsFor tables x y → (IsTrue (is_open y) ↔ EndsInRelation w)
  open_is k w (ConcreteType t) y l op h stands =
      (λ o. (let no : false ≡ true = sym (ap is_open stands) ∙ o in absurd (cc)), λ ends. absurd (fixed_ends (sets w.root) w t h ends))
  open_is k w (FreeType s) y l op h stands = absurd (never_free sets i control k w s controlled l op h)
  open_is k w (SameType a) y l op h stands =
      (λ o. (let no : false ≡ true = sym (ap is_open stands) ∙ o in absurd (cc)), λ ends. absurd (control_ends a w h.controls_is ends))
  open_is k w (ByType a f) y l op h stands = (
    λ o. record { before = h.variable.chain; last = f; chain = h.derived.chain; relation = relation_is f (sym (ap is_open stands) ∙ o) },
    λ ends.
        let last : ends.last ≡ f = same_last ends.before h.variable.chain ends.last f (sym ends.chain ∙ h.derived.chain) in
        ap is_open stands ∙ relation_passes f (subst IsRelation last ends.relation),
  )

  results_counted : length i.results ≡ result_count entry.flags
  results_counted = sym is.flags.results

  -- the constraint of a result stands among those of the results
  result_there : (k : ℕ) (w : Variable) (c : Constrains sets (controls_of i control) tables (entry.constraint_offset + k) w)
      → k < length i.results → slice_get (result_constraints tables entry) k ≡ Some c.number_constraint
  result_there k w c l = result_at tables entry k (let e = results_counted in omega (arith, l, e)) ∙ c.placed

  count_is : length (map is_open (result_constraints tables entry)) ≡ length i.results
  count_is =
      let there : length i.results ≤ length (drop entry.constraint_offset tables.operand_constraints) =
      enough (drop entry.constraint_offset tables.operand_constraints) (length i.results) (λ k l.
      let (w, at) = get_there i.results k l in
      let c = is.constraints k w (get_stays i.results i.values k w at) in
      (c.number_constraint, get_drop tables.operand_constraints entry.constraint_offset k ∙ c.placed)) in
      length-map (result_constraints tables entry) is_open
      ∙ length-take-le (result_count entry.flags) (drop entry.constraint_offset tables.operand_constraints) (let e = results_counted
      in omega (arith, there, e)) ∙ sym results_counted

  opened_is : (k : ℕ) (w : Variable) (o : Bool) → slice_get i.results k ≡ Some w
      → slice_get (map is_open (result_constraints tables entry)) k ≡ Some o → (IsTrue o ↔ EndsInRelation w)
  opened_is k w o at mark =
      let op = get_stays i.results i.values k w at in
      let l = slice_get_within i.results k w at in
      let c = is.constraints k w op in
      let there = get_map is_open (result_constraints tables entry) k c.number_constraint (result_there k w c l) in
      let same : is_open c.number_constraint ≡ o = same_Some (is_open c.number_constraint) o (sym there ∙ mark) in
      subst (λ b. IsTrue b ↔ EndsInRelation w) same (open_is k w c.constraint c.number_constraint l op c.is_constraint c.stands)

  -- the constraint of a value stands among those of the values
  value_there : (j : ℕ) (w : Variable) (c : Constrains sets (controls_of i control) tables
      (entry.constraint_offset + (length i.results + j)) w) → j < length i.values
      → slice_get (value_constraints tables entry) j ≡ Some c.number_constraint
  value_there j w c l =
      let after : ℕ = entry.constraint_offset + result_count entry.flags in
      let place : after + j ≡ entry.constraint_offset + (length i.results + j) = (let e = results_counted in omega (arith, e)) in
      get_take (drop after tables.operand_constraints) (value_count entry.flags) j (let e = is.flags.values in omega (arith, l, e))
      ∙ get_drop tables.operand_constraints after j ∙ ap (slice_get tables.operand_constraints) place ∙ c.placed

  -- a value with the controlling type: the control isn't fixed
  several : (j : ℕ) (x : NumberConstraint) → slice_get (value_constraints tables entry) j ≡ Some x → x ≡ SameNumber First
      → ControlHasOne sets control → ⊥
  several j x at first (v, e, one) =
      let few = value_within tables entry j x at in
      let l : j < length i.values = (let n = is.flags.values in omega (arith, few, n)) in
      let (w, there) = get_there i.values j l in
      let c = is.constraints (length i.results + j) w (get_right i.results i.values j ∙ there) in
      let same : c.number_constraint ≡ SameNumber First = same_Some c.number_constraint x (sym (value_there j w c l) ∙ at) ∙ first in
      let own = subst (IsConstraint sets (controls_of i control) w) (stands_first tables c.constraint c.number_constraint c.stands same)
      c.is_constraint in
      let variable : v ≡ w = same_Some v w (sym e ∙ own.controls_is) in
      let chain : w.chain ≡ [] = control_underived sets i control w controlled own.controls_is in
      let has : HasOne (sets w.root) = subst (λ (u : Variable). HasOne (sets u.root)) variable one in
      own.not_fixed has.one (subst (λ ch. IsFixed (sets w.root) ch has.one) (sym chain) (fixed_from_one (sets w.root) has))

  -- the designated operand has the controlling type, where its set hasn't one
  designated_first : (v : Variable) (x : TypeConstraint) → i.second ≡ None → control ≡ Some v → (ControlHasOne sets control → ⊥)
      → IsConstraint sets (controls_of i control) v x → x ≡ SameType First
  designated_first v (ConcreteType t) none e many h =
      absurd (many (
        v,
        e,
        one_from_fixed (sets v.root) t
            (subst (λ ch. IsFixed (sets v.root) ch t) (control_underived sets i control v controlled e) h),
      ))
  designated_first v (FreeType s) none e many h = absurd (h.other First e)
  designated_first v (SameType First) none e many h = refl
  designated_first v (SameType Second) none e many h = let no : None ≡ Some v = sym none ∙ h.controls_is in absurd (cc)
  designated_first v (ByType a f) none e many h =
      absurd (not_empty h.variable.chain f (sym h.derived.chain ∙ control_underived sets i control v controlled e))

  any_control : (v : Variable) → i.second ≡ None → control ≡ Some v → IsDesignated i v → (ControlHasOne sets control → ⊥)
      → list_any is_control (value_constraints tables entry) ≡ true
  any_control v none e d many =
      let c = is.constraints (length i.results + d.place) v (get_right i.results i.values d.place ∙ d.is_value) in
      let l = slice_get_within i.values d.place v d.is_value in
      let first = designated_first v c.constraint none e many c.is_constraint in
      let stands : c.number_constraint ≡ SameNumber First = subst (λ x. StandsFor tables x c.number_constraint) first c.stands in
      let there = value_there d.place v c l in
      list_any_at is_control (value_constraints tables entry) d.place c.number_constraint
      (slice_get_within (value_constraints tables entry) d.place c.number_constraint there)
      (ap is_control (get_or_from_slice_get (value_constraints tables entry) d.place c.number_constraint c.number_constraint there
      ∙ stands))

  left_forth : IsTrue (manner_of tables entry).leaves_out → (i.second ≡ None) × DesignatedControls i control
      × (ControlHasOne sets control → ⊥)
  left_forth out =
      let parts = and_parts (entry.flags / 8 % 2 == 1) _ out in
      let more = and_parts (entry.second_offset == no_type_set) _ parts.1 in
      let any = any_there is_control (value_constraints tables entry) more.1 in (
        second_none sets tables i.second entry.second_offset is.second_set (eqb-true entry.second_offset no_type_set more.0),
        is.flags.designated.0 (eqb-true (entry.flags / 8 % 2) 1 parts.0),
        several any.place any.element any.there (control_constraint_is any.element any.passes),
      )

  left_back : (i.second ≡ None) × DesignatedControls i control × (ControlHasOne sets control → ⊥)
      → IsTrue (manner_of tables entry).leaves_out
  left_back (none, controls, many) =
      let (v, e, d) = controls in
      ap₂ ◌&&◌ (eq-eqb (entry.flags / 8 % 2) 1 (is.flags.designated.1 controls))
      (ap₂ ◌&&◌ (eq-eqb entry.second_offset no_type_set (none_second sets tables i.second entry.second_offset is.second_set none))
      (any_control v none e d many))

  -- the manner by tables is that of the instruction
  pub manner_is : IsMannerOf sets i control (manner_of tables entry)
  manner_is = record { leaves_out = (left_forth, left_back); count = count_is; opened = opened_is }

-- ---- declarations

module _ (d : InstructionSet) (tables : TableContents) (made : AreMade d tables) where
  entry_at : (op k : ℕ) (entry : OpcodeNumbers) → op ≡ k + 1 → at_opcode tables.entries op ≡ Some entry
      → slice_get tables.entries k ≡ Some entry
  entry_at op k entry number at = sym (ap (at_opcode tables.entries) (number ∙ add-one k)) ∙ at

  pub manner_means : (name : List ℕ) (m : Manner) → IsMannerIn tables name m → IsMannerDeclared d name m
  manner_means name m h =
      let (k, b, number, at, is) = opcode_is d tables made.tables_of h.opcode name h.named.holds in
      let hold = made.tables_of.holds k b at in
      let entry : hold.entry ≡ h.entry = same_Some hold.entry h.entry (sym hold.at ∙ entry_at h.opcode k h.entry number h.is_entry) in
      let same : manner_of tables hold.entry ≡ m = ap (manner_of tables) entry ∙ sym h.is in
      record {
        builder = b;
        asked = record { place = k; at = at; named = is };
        control = hold.control;
        is_control = hold.is_control;
        is = subst (IsMannerOf (root_sets d) (instruction_in_set d b) hold.control) same
            (manner_is (root_sets d) (instruction_in_set d b) hold.control tables hold.entry hold.is_control hold.good hold.is_entry);
      }

  pub manner_back : (name : List ℕ) (m : Manner) → IsMannerDeclared d name m → IsMannerIn tables name m
  manner_back name m h =
      let k = h.asked.place in
      let b = h.builder in
      let hold = made.tables_of.holds k b h.asked.at in
      let i = instruction_in_set d b in
      let control : h.control ≡ hold.control = same_control (root_sets d) i h.control hold.control h.is_control hold.is_control in
      let own : IsMannerOf (root_sets d) i hold.control m = subst (λ c. IsMannerOf (root_sets d) i c m) control h.is in
      record {
        opcode = k + 1;
        named = first_named d tables made.tables_of made.valid k b name h.asked.at h.asked.named;
        entry = hold.entry;
        is_entry = ap (at_opcode tables.entries) (add-one k) ∙ hold.at;
        is = one_manner_of (root_sets d) i hold.control m (manner_of tables hold.entry) own
            (manner_is (root_sets d) i hold.control tables hold.entry hold.is_control hold.good hold.is_entry);
      }
