-- The operands by the numbers of their variables, and the instruction that they make.
use Rattle.std.proofs.Common.{◌≡◌, ◌<◌, ◌≤◌, inl, inr, ℕ, List, [], Bool, true, false, length, take, drop, Option, None, Some, slice_get}
use Rattle.std.proofs.Common.{arith, refl, sym, ap, ◌∙◌, map, subst, ⊎_elim, ◌+◌}
use Rattle.std.specs.Prelude.{◌↔◌, IsTrue, option_map, option_and_then, if◌then◌else◌}
use Rattle.std.proofs.lemmas.Option.{same_Some, option_and_then_some}
use Rattle.meta_lists.proofs.Options.{mapped}
use Rattle.std.proofs.lemmas.List.{take-append-drop, map-append, length-map, length-take}
use Rattle.meta_lists.proofs.Places.{get_drop, get_taken}
use Rattle.meta_lists.proofs.Mapped.{get_map, get_mapped}
use Rattle.meta_typevar.specs.TypeSetParts.{HasOne}
use Rattle.meta_typevar.specs.Variable.{Variable, underived}
use Rattle.meta_typevar.specs.Registry.{sets_of, variable_at, IsKept, IsRegistry}
use Rattle.meta_typevar.proofs.Variables.{kept_at, kept_variable, underived_told, root_is, root_underived, one_variable}
use Rattle.meta_typevar.specs.declared.content.TypeVarContent.{TypeVarContent}
use Rattle.meta_inst.specs.Which.{First, Second, both}
use Rattle.meta_inst.specs.Instruction.{Instruction, operands, IsOperand, IsDesignated, IsFirstOutput}
use Rattle.meta_inst.specs.Control.{IsLoneInput, IsRuled, MayControl, CannotBeSecond, HasBadSecond, IsPolymorphic, HasOneEverywhere}
use Rattle.meta_inst.specs.Control.{IsControlledBy, DesignatesNone}
use Rattle.meta_inst.specs.Operands.{OperandList, instruction_of_operands, variables_at, IsLone, LetsControl, CanControl, HasSeveralTypes}
use Rattle.meta_inst.specs.Operands.{AllHaveOneType, designated_number, first_number, AreOf, SecondIsOf, IsNoSecond, second_in}
use Rattle.meta_inst.specs.FoundControl.{IsFound, IsFoundIn, MayNot, IsChosen}
use Rattle.meta_inst.specs.declared.operands.Controlling.{Controlling}
use Rattle.meta_inst.specs.declared.operands.Controlling.TheVariants.{NotPolymorphic, By, Missing}

-- a choice of an option or none
chosen : {X : Type 0} (b : Bool) (p : Option X) (x : X) → (if b then p else None) ≡ Some x → (b ≡ true) × (p ≡ Some x)
chosen true p x e = (refl, e)
chosen false p x e = absurd (cc)

choose : {X : Type 0} (b : Bool) (p : Option X) → b ≡ true → (if b then p else None) ≡ p
choose true p e = refl
choose false p e = absurd (cc)

-- a variable without a chain is its own root
root_self : (vars : List TypeVarContent) (v : ℕ) → IsRegistry vars → v < length vars → (variable_at vars v).chain ≡ []
    → (variable_at vars v).root ≡ v
root_self vars v r l e =
    let (c, k) = kept_at vars v l in
    let base = (underived_told vars v c r k).1 e in
    let is = root_is vars v r (record { content = c; kept = k; without_parent = base }) in
    ap (λ (w : Variable). w.root) is

-- the root of a variable is the one that is kept
root_kept : (vars : List TypeVarContent) (n : ℕ) (c : TypeVarContent) → IsKept vars n c → (variable_at vars n).root ≡ c.root
root_kept vars n c k = ap (λ (v : Variable). v.root) (kept_variable vars n c k)

module _ (vars : List TypeVarContent) (o : OperandList) (within : o.result_count ≤ length o.variables) (registry : IsRegistry vars)
    (are : AreOf vars o.variables) (second_of : SecondIsOf vars o.second) where
  abbrev i : Instruction
  i = instruction_of_operands vars o

  -- the operands are the variables
  all_operands : operands i ≡ variables_at vars o.variables
  all_operands = sym (map-append (variable_at vars) (take o.result_count o.variables) (drop o.result_count o.variables))
      ∙ ap (map (variable_at vars)) (take-append-drop o.result_count o.variables)

  -- the operand at a place
  pub operand_at : (k n : ℕ) → slice_get o.variables k ≡ Some n → IsOperand i k (variable_at vars n)
  operand_at k n at = ap (λ ws. slice_get ws k) all_operands ∙ get_map (variable_at vars) o.variables k n at

  -- and what stands there
  pub operand_from : (k : ℕ) (w : Variable) → IsOperand i k w → (n : ℕ) × (slice_get o.variables k ≡ Some n) × (w ≡ variable_at vars n)
  operand_from k w is =
      let (n, at, e) = get_mapped (variable_at vars) o.variables k w (sym (ap (λ ws. slice_get ws k) all_operands) ∙ is) in
      (n, at, sym e)

  taken : length (take o.result_count o.variables) ≡ o.result_count
  taken = omega (arith, length-take o.result_count o.variables)

  pub results_length : length i.results ≡ o.result_count
  results_length = length-map (take o.result_count o.variables) (variable_at vars) ∙ taken

  -- a variable that stands alone is a lone input
  lone : (k n : ℕ) → slice_get o.variables k ≡ Some n → IsLone vars o.variables o.result_count k n → IsLoneInput i k (variable_at vars n)
  lone k n at h = record {
    underived = h.underived;
    is_input = omega (arith, results_length, h.alone.is_input);
    alone = λ j l op.
        let (m, found, e) = operand_from j (variable_at vars n) op in
        let same : m ≡ n = one_variable vars registry m n (are j m found) (are k n at) (sym e) in
        h.alone.alone j n (omega (arith, results_length, l)) (found ∙ ap Some same) at;
  }

  alone_from : (k n : ℕ) → slice_get o.variables k ≡ Some n → IsLoneInput i k (variable_at vars n)
      → IsLone vars o.variables o.result_count k n
  alone_from k n at lone = record {
    underived = lone.underived;
    alone = record {
      is_input = omega (arith, results_length, lone.is_input);
      alone = λ j m l found same.
          let e : m ≡ n = same_Some m n (sym same ∙ at) in
          lone.alone j (omega (arith, results_length, l)) (operand_at j n (found ∙ ap Some e));
    };
  }

  -- what lets v control rules the operand
  ruled : (v k n : ℕ) → v < length vars → (variable_at vars v).chain ≡ [] → slice_get o.variables k ≡ Some n
      → LetsControl vars (both (Some v) o.second) o.variables o.result_count k n
      → IsRuled (sets_of vars) i (variable_at vars v) k (variable_at vars n)
  ruled v k n l none at (inl (First, e)) = inl (sym (same_Some v (variable_at vars n).root e) ∙ sym (root_self vars v registry l none))
  ruled v k n l none at (inl (Second, second)) =
      let (c, kept) = kept_at vars n (are k n at) in
      let root : (variable_at vars n).root ≡ c.root = root_kept vars n c kept in
      inr (inl (ap (option_map (variable_at vars)) (second ∙ ap Some root)
      ∙ ap Some (root_underived vars n c registry kept ∙ ap underived (sym root))))
  ruled v k n l none at (inr (inl one)) = inr (inr (inl one))
  ruled v k n l none at (inr (inr alone)) = inr (inr (inr (lone k n at alone)))

  ruled_from : (v k n : ℕ) → v < length vars → (variable_at vars v).chain ≡ [] → slice_get o.variables k ≡ Some n
      → IsRuled (sets_of vars) i (variable_at vars v) k (variable_at vars n)
      → LetsControl vars (both (Some v) o.second) o.variables o.result_count k n
  ruled_from v k n l none at (inl e) = inl (First, ap Some (sym (e ∙ root_self vars v registry l none)))
  ruled_from v k n l none at (inr (inl second)) =
      let (s, is, e) = mapped (variable_at vars) o.second (underived (variable_at vars n).root) second in
      let root : (variable_at vars s).root ≡ s = root_self vars s registry (second_of s is) (ap (λ (x : Variable). x.chain) e) in
      inl (Second, is ∙ ap Some (sym (sym (ap (λ (x : Variable). x.root) e) ∙ root)))
  ruled_from v k n l none at (inr (inr (inl one))) = inr (inl one)
  ruled_from v k n l none at (inr (inr (inr lone))) = inr (inr (alone_from k n at lone))

  -- that all let v control is that it may control
  may : (v : ℕ) → v < length vars → CanControl vars o.second o.variables o.result_count v → MayControl (sets_of vars) i (variable_at vars v)
  may v l h = record {
    underived = h.underived;
    not_second = λ e.
        let (s, is, same) = mapped (variable_at vars) o.second (variable_at vars v) e in
        h.not_second (is ∙ ap Some (one_variable vars registry s v (second_of s is) l same));
    others = λ k w op.
        let (n, at, e) = operand_from k w op in
        subst (IsRuled (sets_of vars) i (variable_at vars v) k) (sym e) (ruled v k n l h.underived at (h.all k n at));
  }

  may_from : (v : ℕ) → v < length vars → MayControl (sets_of vars) i (variable_at vars v)
      → CanControl vars o.second o.variables o.result_count v
  may_from v l m = record {
    underived = m.underived;
    not_second = λ e. m.not_second (ap (option_map (variable_at vars)) e);
    all = λ k n at. ruled_from v k n l m.underived at (m.others k (variable_at vars n) (operand_at k n at));
  }

  -- the designated variable and the first are of the registry
  pub designated_of : (u : ℕ) → designated_number o ≡ Some u → u < length vars
  designated_of u d =
      option_and_then_some (λ place. slice_get (drop o.result_count o.variables) place) o.designated u d
      (λ place is at. are (o.result_count + place) u (sym (get_drop o.variables o.result_count place) ∙ at))

  pub first_of_registry : (u : ℕ) → first_number o ≡ Some u → u < length vars
  first_of_registry u f =
      let (begins, at) = chosen o.begins_with_value (slice_get (take o.result_count o.variables) 0) u f in
      are 0 u (get_taken o.variables o.result_count 0 u at)

  -- the designated operand
  pub designated_is : (d : ℕ) → designated_number o ≡ Some d → IsDesignated i (variable_at vars d)
  designated_is d e =
      option_and_then_some (λ place. slice_get (drop o.result_count o.variables) place) o.designated d e
      (λ place is at. record {
        place = place;
        designates = is;
        is_value = get_map (variable_at vars) (drop o.result_count o.variables) place d at;
      })

  pub designated_from : (w : Variable) → IsDesignated i w → (d : ℕ) × (designated_number o ≡ Some d) × (w ≡ variable_at vars d)
  designated_from w h =
      let (d, at, e) = get_mapped (variable_at vars) (drop o.result_count o.variables) h.place w h.is_value in
      (d, ap (option_and_then (λ place. slice_get (drop o.result_count o.variables) place)) h.designates ∙ at, sym e)

  -- so the number tells whether a variable is the designated operand's
  pub designated_told : (v : ℕ) (r : Bool) → v < length vars → IsTrue r ↔ (designated_number o ≡ Some v)
      → IsTrue r ↔ IsDesignated i (variable_at vars v)
  designated_told v r l told = (
    (λ t. designated_is v (told.0 t)),
    (λ h. let (d, at, e) = designated_from (variable_at vars v) h
        in told.1 (at ∙ ap Some (one_variable vars registry d v (designated_of d at) l (sym e)))),
  )

  -- the first output
  first_is : (v : ℕ) → first_number o ≡ Some v → IsFirstOutput i (variable_at vars v)
  first_is v e =
      let (begins, at) = chosen o.begins_with_value (slice_get (take o.result_count o.variables) 0) v e in
      record { is_value = begins; first = get_map (variable_at vars) (take o.result_count o.variables) 0 v at }

  first_from : (w : Variable) → IsFirstOutput i w → (v : ℕ) × (first_number o ≡ Some v) × (w ≡ variable_at vars v)
  first_from w h =
      let (v, at, e) = get_mapped (variable_at vars) (take o.result_count o.variables) 0 w h.first in
      (v, choose o.begins_with_value (slice_get (take o.result_count o.variables) 0) h.is_value ∙ at, sym e)

  polymorphic : HasSeveralTypes vars o.variables → IsPolymorphic (sets_of vars) i
  polymorphic h = record {
    place = h.place;
    variable = variable_at vars h.variable;
    operand = operand_at h.place h.variable h.at;
    several = h.several;
  }

  one_everywhere : AllHaveOneType vars o.variables → HasOneEverywhere (sets_of vars) i
  one_everywhere all k w op =
      let (n, at, e) = operand_from k w op in
      subst (λ (w : Variable). HasOne (sets_of vars w.root)) (sym e) (all k n at)

  -- that a second control can't be one, by numbers and of the instruction
  no_second : (s : ℕ) → IsNoSecond vars o.variables s → CannotBeSecond (sets_of vars) i (variable_at vars s)
  no_second s (inl derived) = inl derived
  no_second s (inr (inl nowhere)) =
      inr (inl (λ k w op. let (n, at, e) = operand_from k w op in λ r. nowhere k n at (ap (λ (x : Variable). x.root) (sym e) ∙ r)))
  no_second s (inr (inr all)) = inr (inr (one_everywhere all))

  no_second_from : (s : ℕ) → CannotBeSecond (sets_of vars) i (variable_at vars s) → IsNoSecond vars o.variables s
  no_second_from s (inl derived) = inl derived
  no_second_from s (inr (inl nowhere)) = inr (inl (λ k n at. nowhere k (variable_at vars n) (operand_at k n at)))
  no_second_from s (inr (inr one)) = inr (inr (λ k n at. one k (variable_at vars n) (operand_at k n at)))

  pub bad_second_told : (s : ℕ) (r : Bool) → o.second ≡ Some s → (IsTrue r ↔ IsNoSecond vars o.variables s)
      → (IsTrue r ↔ HasBadSecond (sets_of vars) i)
  bad_second_told s r is told = (
    (λ t. (variable_at vars s, ap (second_in vars) is, no_second s (told.0 t))),
    (λ (v, e, why).
        let (u, at, same) = mapped (variable_at vars) o.second v e in
        let number : u ≡ s = same_Some u s (sym at ∙ is) in
        told.1 (no_second_from s (subst (CannotBeSecond (sets_of vars) i) (sym same ∙ ap (variable_at vars) number) why))),
  )

  -- a candidate that may not control
  designates_none : MayNot vars o.second o.variables o.result_count (designated_number o) → DesignatesNone (sets_of vars) i
  designates_none never w is m =
      let (d, at, e) = designated_from w is in
      never d at (may_from d (designated_of d at) (subst (MayControl (sets_of vars) i) e m))

  first_never : MayNot vars o.second o.variables o.result_count (first_number o) → (w : Variable) → IsFirstOutput i w
      → MayControl (sets_of vars) i w → ⊥
  first_never never w is m =
      let (v, at, e) = first_from w is in
      never v at (may_from v (first_of_registry v at) (subst (MayControl (sets_of vars) i) e m))

  chosen_of : (v : ℕ) → IsChosen vars o.second o.variables o.result_count (designated_number o) (first_number o) v → v < length vars
  chosen_of v h = ⊎_elim (λ d. designated_of v d) (λ f. first_of_registry v f.1) h.chosen

  controlled : (v : ℕ) → IsChosen vars o.second o.variables o.result_count (designated_number o) (first_number o) v
      → IsControlledBy (sets_of vars) i (variable_at vars v)
  controlled v h = record {
    polymorphic = polymorphic h.several;
    may = may v (chosen_of v h) h.may;
    chosen = ⊎_elim (λ d. inl (designated_is v d)) (λ f. inr (designates_none f.0, first_is v f.1)) h.chosen;
  }

  -- what was found by numbers is found of the instruction
  pub found_by_numbers : (c : Controlling) → IsFoundIn vars o.second o.variables o.result_count (designated_number o) (first_number o) c
      → IsFound vars i c
  found_by_numbers NotPolymorphic h = one_everywhere h
  found_by_numbers (By v) h = controlled v h
  found_by_numbers Missing h = record {
    polymorphic = polymorphic h.several;
    designated = designates_none h.designated_may_not;
    first = first_never h.first_may_not;
  }

  -- the variable that controls is of the registry
  pub of_registry : (c : Controlling) (v : ℕ) → IsFoundIn vars o.second o.variables o.result_count (designated_number o) (first_number o) c
      → c ≡ By v → v < length vars
  of_registry NotPolymorphic v h e = absurd (cc)
  of_registry Missing v h e = absurd (cc)
  of_registry (By u) v h e =
      let same : u ≡ v = cc in
      subst (λ n. n < length vars) same (chosen_of u h)
