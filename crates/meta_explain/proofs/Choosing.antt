-- An opcode accepts types that match exactly where each operand can match.
use Rattle.std.proofs.Common.{◌≡◌, ◌<◌, ◌≤◌, ◌+◌, ℕ, zero, suc, List, [], ◌∷◌, length, slice_get, Option, None, Some, refl, sym}
use Rattle.std.proofs.Common.{◌∙◌, ap, subst}
use Rattle.std.proofs.Common.{arith}
use Rattle.std.proofs.lemmas.Option.{same_Some, slice_get_within}
use Rattle.meta_lists.proofs.Places.{get_stays, get_right, get_beside}
use Rattle.meta_inst.specs.Which.{Which, First, Second}
use Rattle.meta_inst.specs.Tables.{TableContents, OpcodeNumbers, at_opcode, ControlNumberFits, PassesAt, result_count, value_count}
use Rattle.meta_gen.specs.Contents.{AllPass}
use Rattle.meta_explain.specs.Parts.{numbers_of, Accepts}
use Rattle.meta_explain.specs.Found.{IsAsked, Match, Finds}
use Rattle.meta_explain.specs.Search.{CanPass, AllCanPass, offset_of, IsFoundBy}
use Rattle.meta_explain.specs.declared.found.Found.{Found}
use Rattle.meta_explain.proofs.Failing.{all_in_both}

-- ---- what is asked for, and numbers that match

module _ (tables : TableContents) (c : Which → Option ℕ) where
  -- some number that is asked for passes
  one_chosen : (place : ℕ) (o : Option ℕ) → CanPass tables c place o → (n : ℕ) × IsAsked o n × PassesAt tables c place n
  one_chosen place None (n, p) = (n, tt, p)
  one_chosen place (Some n) p = (n, refl, p)

  -- and a number that is asked for and passes lets what is asked for pass
  one_passes : (place : ℕ) (o : Option ℕ) (n : ℕ) → IsAsked o n → PassesAt tables c place n → CanPass tables c place o
  one_passes place None n is p = (n, p)
  one_passes place (Some m) n is p = subst (PassesAt tables c place) is p

  -- numbers that match, each of which passes
  pub record Chosen (offset : ℕ) (asked : List (Option ℕ)) : Type 0 where
    pub numbers : List ℕ
    pub matches : Match asked numbers
    pub pass : AllPass tables c offset numbers

  -- ---- with one more at the front

  match_more : (o : Option ℕ) (n : ℕ) (asked : List (Option ℕ)) (numbers : List ℕ) → IsAsked o n → Match asked numbers
      → (k m : ℕ) (p : Option ℕ) → slice_get (o ∷ asked) k ≡ Some p → slice_get (n ∷ numbers) k ≡ Some m → IsAsked p m
  match_more o n asked numbers is rest zero m p at there =
      subst (λ x. IsAsked x m) (same_Some o p at) (subst (IsAsked o) (same_Some n m there) is)
  match_more o n asked numbers is rest (suc k) m p at there = rest.each k m p at there

  pass_more : (offset n : ℕ) (numbers : List ℕ) → PassesAt tables c (offset + 0) n → AllPass tables c (offset + 1) numbers
      → AllPass tables c offset (n ∷ numbers)
  pass_more offset n numbers p rest zero m at = subst (PassesAt tables c (offset + 0)) (same_Some n m at) p
  pass_more offset n numbers p rest (suc k) m at =
      let same : offset + 1 + k ≡ offset + suc k = omega arith in subst (λ i. PassesAt tables c i m) same (rest k m at)

  pub choose : (asked : List (Option ℕ)) (offset : ℕ) → AllCanPass tables c offset asked → Chosen offset asked
  choose [] offset all = record {
    numbers = [];
    matches = record { count = refl; each = λ k n o at there. absurd (cc) };
    pass = λ k n at. absurd (cc);
  }
  choose (o ∷ asked) offset all =
      let (n, is, p) = one_chosen (offset + 0) o (all 0 o refl) in
      let rest = choose asked (offset + 1) (λ k q at. let same : offset + suc k ≡ offset + 1 + k = omega arith in
      subst (λ i. CanPass tables c i q) same (all (suc k) q at)) in
      let count = rest.matches.count in
      record {
        numbers = n ∷ rest.numbers;
        matches = record { count = omega (arith, count); each = match_more o n asked rest.numbers is rest.matches };
        pass = pass_more offset n rest.numbers p rest.pass;
      }

  -- what is asked for can pass where numbers that match it do
  pub chosen_pass : (offset : ℕ) (asked : List (Option ℕ)) (numbers : List ℕ) → Match asked numbers → AllPass tables c offset numbers
      → AllCanPass tables c offset asked
  chosen_pass offset asked numbers m pass k o at =
      let (n, there) = get_beside asked numbers k o (sym m.count) at in
      one_passes (offset + k) o n (m.each k n o at there) (pass k n there)

-- ---- an opcode by its entry

module _ (tables : TableContents) (op : ℕ) (e : OpcodeNumbers) (results values : List (Option ℕ)) (at : at_opcode tables.entries op
    ≡ Some e) where
  -- the entry of what is accepted
  own_entry : (x : Found) (rs vs : List ℕ) → x.opcode ≡ op → (a : Accepts tables x.opcode x.controls rs vs) → a.entry ≡ e
  own_entry x rs vs is a = same_Some a.entry e (sym a.is_opcode ∙ ap (at_opcode tables.entries) is ∙ at)

  pub found_by : (x : Found) → x.opcode ≡ op → Finds tables results values x → IsFoundBy tables op e results values x
  found_by x is f = record {
    opcode = is;
    fits = fits;
    results_pass = chosen_pass tables (numbers_of x.controls) e.constraint_offset results f.result_types f.results_match first;
    values_pass = chosen_pass tables (numbers_of x.controls) (e.constraint_offset + length results) values f.value_types f.values_match
        second;
  }
    where
      same : f.accepts.entry ≡ e
      same = own_entry x f.result_types f.value_types is f.accepts

      fits : (a : Which) → ControlNumberFits tables (offset_of e a) (numbers_of x.controls a)
      fits First = subst (λ y. ControlNumberFits tables y.typeset_offset x.controls.ctrl) same f.accepts.control_fits
      fits Second = subst (λ y. ControlNumberFits tables y.second_offset x.controls.second) same f.accepts.second_fits

      first : AllPass tables (numbers_of x.controls) e.constraint_offset f.result_types
      first k n there = subst (λ y. PassesAt tables (numbers_of x.controls) (y.constraint_offset + k) n) same
          (f.accepts.passes k n (get_stays f.result_types f.value_types k n there))

      second : AllPass tables (numbers_of x.controls) (e.constraint_offset + length results) f.value_types
      second k n there =
          let count = f.results_match.count in
          let place : e.constraint_offset + (length f.result_types + k) ≡ e.constraint_offset + length results + k = omega (arith, count) in
          subst (λ i. PassesAt tables (numbers_of x.controls) i n) place
          (subst (λ y. PassesAt tables (numbers_of x.controls) (y.constraint_offset + (length f.result_types + k)) n) same
          (f.accepts.passes (length f.result_types + k) n (get_right f.result_types f.value_types k ∙ there)))

  -- what is found has the counts of the entry
  pub found_results : (x : Found) → x.opcode ≡ op → Finds tables results values x → length results ≡ result_count e.flags
  found_results x is f = sym f.results_match.count ∙ subst (λ y. length f.result_types ≡ result_count y.flags)
      (own_entry x f.result_types f.value_types is f.accepts) f.accepts.results

  pub found_values : (x : Found) → x.opcode ≡ op → Finds tables results values x → length values ≡ value_count e.flags
  found_values x is f = sym f.values_match.count ∙ subst (λ y. length f.value_types ≡ value_count y.flags)
      (own_entry x f.result_types f.value_types is f.accepts) f.accepts.values

  pub finds : (x : Found) → length results ≡ result_count e.flags → length values ≡ value_count e.flags
      → IsFoundBy tables op e results values x → Finds tables results values x
  finds x result_counts value_counts f =
      let c = numbers_of x.controls in
      let r = choose tables c results e.constraint_offset f.results_pass in
      let v = choose tables c values (e.constraint_offset + length results) f.values_pass in
      let count = r.matches.count in
      let second : AllPass tables c (e.constraint_offset + length r.numbers) v.numbers =
      subst (λ i. AllPass tables c (e.constraint_offset + i) v.numbers) (sym count) v.pass in
      record {
        result_types = r.numbers;
        value_types = v.numbers;
        results_match = r.matches;
        values_match = v.matches;
        accepts = record {
          entry = e;
          is_opcode = ap (at_opcode tables.entries) f.opcode ∙ at;
          results = count ∙ result_counts;
          values = v.matches.count ∙ value_counts;
          control_fits = f.fits First;
          second_fits = f.fits Second;
          passes = all_in_both tables c e.constraint_offset r.numbers v.numbers r.pass second;
        };
      }

-- ---- opcodes

-- an entry is an opcode's
pub is_opcode : {X : Type 0} (xs : List X) (op : ℕ) (x : X) → at_opcode xs op ≡ Some x → (0 < op) × (op ≤ length xs)
is_opcode xs zero x e = absurd (cc)
is_opcode xs (suc k) x e = let l = slice_get_within xs k x e in (omega arith, omega (arith, l))

-- what is found is an opcode
pub found_opcode : (tables : TableContents) (results values : List (Option ℕ)) (x : Found) → Finds tables results values x
    → (0 < x.opcode) × (x.opcode ≤ length tables.entries)
found_opcode tables results values x f = is_opcode tables.entries x.opcode f.accepts.entry f.accepts.is_opcode
