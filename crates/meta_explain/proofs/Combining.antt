-- What an opcode accepts under controls is a product.
use Rattle.std.proofs.Common.{◌≡◌, ◌↔◌, ◌<◌, ◌+◌, ⊎_elim, ℕ, zero, suc, List, [], ◌++◌, length, slice_get, slice_set, take, drop, replicate}
use Rattle.std.proofs.Common.{Option, None, Some, refl, sym, ◌∙◌, ap, subst, arith, length-append, length-set, length-take, length-drop}
use Rattle.std.proofs.Common.{take-append-drop}
use Rattle.std.proofs.lemmas.Bool.{cases_eq}
use Rattle.std.proofs.lemmas.List.{length-replicate}
use Rattle.std.proofs.lemmas.Option.{same_Some, slice_get_within}
use Rattle.meta_lists.proofs.Places.{get_set_here, get_set_other}
use Rattle.meta_inst.specs.Tables.{TableContents, OpcodeNumbers, at_opcode, ControlNumberFits, PassesAt, result_count, value_count}
use Rattle.meta_explain.specs.Parts.{numbers_of, Accepts}
use Rattle.meta_explain.specs.Listed.{AreListed}
use Rattle.meta_explain.specs.Found.{IsAsked, Match, Finds, IsBefore}
use Rattle.meta_explain.specs.Search.{AllCanPass, IsFoundBy, Adds}
use Rattle.meta_explain.specs.Operands.{AcceptsSome, MayBe, HasCounts}
use Rattle.meta_explain.specs.declared.control_types.ControlTypes.{ControlTypes}
use Rattle.meta_explain.specs.declared.found.Found.{Found}
use Rattle.meta_explain.proofs.Listing.{listed_same}
use Rattle.meta_explain.proofs.Adding.{adds_all}
use Rattle.meta_explain.proofs.Typed.{fits_both}
use Rattle.meta_explain.proofs.Choosing.{found_by, finds}

-- ---- operands one by one

module _ (tables : TableContents) (op : ℕ) (c : ControlTypes) where
  -- the entries of two things that are accepted are one
  one_entry : (rs vs ms ns : List ℕ) (a : Accepts tables op c rs vs) (b : Accepts tables op c ms ns) → a.entry ≡ b.entry
  one_entry rs vs ms ns a b = same_Some a.entry b.entry (sym a.is_opcode ∙ b.is_opcode)

  -- what is accepted with each operand that may be is accepted
  combined : (rs vs : List ℕ) → AcceptsSome tables op c → HasCounts tables op rs vs
      → ((k n : ℕ) → slice_get (rs ++ vs) k ≡ Some n → MayBe tables op c k n) → Accepts tables op c rs vs
  combined rs vs some counts may = record {
    entry = counts.entry;
    is_opcode = counts.is_opcode;
    results = counts.results;
    values = counts.values;
    control_fits = subst (λ e. ControlNumberFits tables e.typeset_offset c.ctrl) same some.accepts.control_fits;
    second_fits = subst (λ e. ControlNumberFits tables e.second_offset c.second) same some.accepts.second_fits;
    passes = λ k n at.
        let m = may k n at in
        subst (λ e. PassesAt tables (numbers_of c) (e.constraint_offset + k) n)
        (same_Some m.accepts.entry counts.entry (sym m.accepts.is_opcode ∙ counts.is_opcode)) (m.accepts.passes k n m.at);
  }
    where
      same : some.accepts.entry ≡ counts.entry
      same = same_Some some.accepts.entry counts.entry (sym some.accepts.is_opcode ∙ counts.is_opcode)

  pub product : (rs vs : List ℕ) → AcceptsSome tables op c → (Accepts tables op c rs vs ↔ (HasCounts tables op rs vs
      × ((k n : ℕ) → slice_get (rs ++ vs) k ≡ Some n → MayBe tables op c k n)))
  product rs vs some = (
    λ a. (
      record { entry = a.entry; is_opcode = a.is_opcode; results = a.results; values = a.values },
      λ k n at. record { results = rs; values = vs; accepts = a; at = at },
    ),
    λ h. combined rs vs some h.0 h.1,
  )

-- ---- one operand

module _ (tables : TableContents) (op : ℕ) (c : ControlTypes) (e : OpcodeNumbers) (at : at_opcode tables.entries op ≡ Some e) where
  -- the entry of what is accepted
  entry_is : (rs vs : List ℕ) (a : Accepts tables op c rs vs) → a.entry ≡ e
  entry_is rs vs a = same_Some a.entry e (sym a.is_opcode ∙ at)

  -- the controls of what is accepted fit
  pub some_first : AcceptsSome tables op c → ControlNumberFits tables e.typeset_offset c.ctrl
  some_first some = subst (λ y. ControlNumberFits tables y.typeset_offset c.ctrl) (entry_is some.results some.values some.accepts)
      some.accepts.control_fits

  pub some_second : AcceptsSome tables op c → ControlNumberFits tables e.second_offset c.second
  some_second some = subst (λ y. ControlNumberFits tables y.second_offset c.second) (entry_is some.results some.values some.accepts)
      some.accepts.second_fits

  -- what an operand may be passes
  pub may_pass : (k n : ℕ) → MayBe tables op c k n → PassesAt tables (numbers_of c) (e.constraint_offset + k) n
  may_pass k n m = subst (λ y. PassesAt tables (numbers_of c) (y.constraint_offset + k) n) (entry_is m.results m.values m.accepts)
      (m.accepts.passes k n m.at)

  -- and there is such an operand
  pub may_within : (k n : ℕ) → MayBe tables op c k n → k < result_count e.flags + value_count e.flags
  may_within k n m =
      let within = slice_get_within (m.results ++ m.values) k n m.at in
      let long = length-append m.results m.values in
      let same = entry_is m.results m.values m.accepts in
      let results : length m.results ≡ result_count e.flags =
      subst (λ y. length m.results ≡ result_count y.flags) same m.accepts.results in
      let values : length m.values ≡ value_count e.flags =
      subst (λ y. length m.values ≡ value_count y.flags) same m.accepts.values in
      omega (arith, within, long, results, values)

  -- what passes may be, in the place of what is accepted
  module _ (rs vs : List ℕ) (a : Accepts tables op c rs vs) (k n : ℕ) (within : k < result_count e.flags + value_count e.flags)
      (p : PassesAt tables (numbers_of c) (e.constraint_offset + k) n) where
    inside : k < length (rs ++ vs)
    inside =
        let same = entry_is rs vs a in
        let results : length rs ≡ result_count e.flags = subst (λ y. length rs ≡ result_count y.flags) same a.results in
        let values : length vs ≡ value_count e.flags = subst (λ y. length vs ≡ value_count y.flags) same a.values in
        omega (arith, length-append rs vs, results, values)

    -- each operand passes now
    passes_now : (j m : ℕ) → slice_get (slice_set (rs ++ vs) k n) j ≡ Some m
        → PassesAt tables (numbers_of c) (a.entry.constraint_offset + j) m
    passes_now j m there = ⊎_elim
        (λ same. subst (λ i. slice_get (slice_set (rs ++ vs) k n) i ≡ Some m
        → PassesAt tables (numbers_of c) (a.entry.constraint_offset + i) m)
        (sym same)
        (λ here. subst (PassesAt tables (numbers_of c) (a.entry.constraint_offset + k))
        (same_Some n m (sym (get_set_here (rs ++ vs) k n inside) ∙ here))
        (subst (λ y. PassesAt tables (numbers_of c) (y.constraint_offset + k) n) (sym (entry_is rs vs a)) p)) there)
        (λ other. a.passes j m (sym (get_set_other (rs ++ vs) k j n other) ∙ there))
        (cases_eq j k)

    pub passing_may : MayBe tables op c k n
    passing_may =
        let now = slice_set (rs ++ vs) k n in
        let whole : take (length rs) now ++ drop (length rs) now ≡ now = take-append-drop (length rs) now in
        let long : length now ≡ length (rs ++ vs) = length-set (rs ++ vs) k n in
        let both = length-append rs vs in
        let front = length-take (length rs) now in
        let back = length-drop (length rs) now in
        let first : length (take (length rs) now) ≡ length rs = omega (arith, long, both, front) in
        let second : length (drop (length rs) now) ≡ length vs = omega (arith, long, both, back) in
        record {
          results = take (length rs) now;
          values = drop (length rs) now;
          accepts = record {
            entry = a.entry;
            is_opcode = a.is_opcode;
            results = first ∙ a.results;
            values = second ∙ a.values;
            control_fits = a.control_fits;
            second_fits = a.second_fits;
            passes = λ j m there. passes_now j m (ap (λ (xs : List ℕ). slice_get xs j) (sym whole) ∙ there);
          };
          at = ap (λ (xs : List ℕ). slice_get xs k) whole ∙ get_set_here (rs ++ vs) k n inside;
        }

-- ---- operands of any types

-- what asks for any types asks for none of them
pub asked_any : (count k : ℕ) (o : Option ℕ) → slice_get (replicate count None) k ≡ Some o → o ≡ None
asked_any zero k o there = absurd (cc)
asked_any (suc count) zero o there = sym (same_Some None o there)
asked_any (suc count) (suc k) o there = asked_any count k o there

any_match : (count : ℕ) (numbers : List ℕ) → length numbers ≡ count → Match (replicate count None) numbers
any_match count numbers long = record {
  count = long ∙ sym (length-replicate count None);
  each = λ k n o there is. subst (λ p. IsAsked p n) (sym (asked_any count k o there)) tt;
}

module _ (tables : TableContents) (op : ℕ) (e : OpcodeNumbers) (at : at_opcode tables.entries op ≡ Some e)
    (results values : List (Option ℕ)) (any_results : results ≡ replicate (result_count e.flags) None)
    (any_values : values ≡ replicate (value_count e.flags) None) where
  -- what accepts something is found where any types are asked for
  pub found_any : (x : Found) → x.opcode ≡ op → AcceptsSome tables op x.controls → Finds tables results values x
  found_any x is some =
      let same = same_Some some.accepts.entry e (sym some.accepts.is_opcode ∙ at) in
      record {
        result_types = some.results;
        value_types = some.values;
        results_match = subst (λ asked. Match asked some.results) (sym any_results) (any_match (result_count e.flags) some.results
            (subst (λ y. length some.results ≡ result_count y.flags) same some.accepts.results));
        values_match = subst (λ asked. Match asked some.values) (sym any_values) (any_match (value_count e.flags) some.values
            (subst (λ y. length some.values ≡ value_count y.flags) same some.accepts.values));
        accepts = subst (λ o. Accepts tables o x.controls some.results some.values) (sym is) some.accepts;
      }

  -- and what is found accepts something
  pub any_found : (x : Found) → x.opcode ≡ op → Finds tables results values x → AcceptsSome tables op x.controls
  any_found x is f = record {
    results = f.result_types;
    values = f.value_types;
    accepts = subst (λ o. Accepts tables o x.controls f.result_types f.value_types) is f.accepts;
  }

  -- what is added of it to nothing is all that accepts something
  pub any_listed : (found : List Found) → Adds (λ x. (x.opcode ≡ op) × Finds tables results values x) [] found
      → AreListed IsBefore (λ x. (x.opcode ≡ op) × AcceptsSome tables op x.controls) found
  any_listed found h =
      listed_same IsBefore (λ x. (x.opcode ≡ op) × Finds tables results values x) (λ x. (x.opcode ≡ op) × AcceptsSome tables op x.controls)
      found (λ x (is, f). (is, any_found x is f)) (λ x (is, some). (is, found_any x is some))
      (adds_all (λ x. (x.opcode ≡ op) × Finds tables results values x) found h)

  -- the tests of a search tell whether something is accepted under controls
  pub some_by : (c : ControlTypes) → AcceptsSome tables op c → IsFoundBy tables op e results values (record { opcode = op; controls = c })
  some_by c some = found_by tables op e results values at (record { opcode = op; controls = c }) refl
      (found_any (record { opcode = op; controls = c }) refl some)

  pub by_some : (c : ControlTypes) → ControlNumberFits tables e.typeset_offset c.ctrl → ControlNumberFits tables e.second_offset c.second
      → AllCanPass tables (numbers_of c) e.constraint_offset results
      → AllCanPass tables (numbers_of c) (e.constraint_offset + length results) values → AcceptsSome tables op c
  by_some c first second r v = any_found (record { opcode = op; controls = c }) refl
      (finds tables op e results values at (record { opcode = op; controls = c })
      (ap length any_results ∙ length-replicate (result_count e.flags) None)
      (ap length any_values ∙ length-replicate (value_count e.flags) None)
      (record { opcode = refl; fits = fits_both tables e c first second; results_pass = r; values_pass = v }))
