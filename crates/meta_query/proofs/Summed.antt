-- What the summary says of the tables of the declarations of a number.
use Rattle.std.proofs.Common.{◌≡◌, inl, inr, ⊎_elim, ◌<◌, ℕ, zero, suc, List, length, slice_get, Option, None, Some, sym, ap, subst, ◌∙◌}
use Rattle.std.proofs.Common.{arith}
use Rattle.std.proofs.lemmas.List.{length-map}
use Rattle.meta_lists.proofs.Places.{get_there}
use Rattle.meta_types.specs.SharedNames.{AreDifferentNames}
use Rattle.meta_typevar.specs.Registry.{HoldTypeSets}
use Rattle.meta_inst.specs.Builder.{Builder}
use Rattle.meta_inst.specs.Tables.{TableContents, at_opcode}
use Rattle.meta_gen.proofs.Decoded.{tables_of_mean}
use Rattle.meta_build.specs.AllDeclared.{Declared}
use Rattle.meta_build.proofs.DifferentNames.{different_names}
use Rattle.meta_gen.specs.WholeTables.{WholeTables, AreWholeTablesOf}
use Rattle.meta_query.specs.Synth.{IsSynth}
use Rattle.meta_query.specs.Summary.{CountsTo, IsFoundByName, AcceptsEverywhere, TakesEverywhere, DeclaresEverywhere, i64_number}
use Rattle.meta_query.specs.Summary.{lengths_text, summary_line, IsSummary, IsSummaryOf}
use Rattle.meta_query.proofs.Valid.{set_is_valid}

-- where each has the property, all are counted
counts_all : (P : ℕ → Type 0) (n c : ℕ) → CountsTo P n c → ((k : ℕ) → k < n → P (suc k)) → c ≡ n
counts_all P zero c h all = h
counts_all P (suc n) c h all = ⊎_elim
    (λ y. let rest = counts_all P n y.1.0 y.1.2 (λ k l. all k (omega (arith, l))) in omega (arith, y.1.1, rest))
    (λ z. absurd (z.0 (all n (omega arith))))
    h

-- as many have a property that is the same
counts_like : (P Q : ℕ → Type 0) → ((k : ℕ) → P k → Q k) → ((k : ℕ) → Q k → P k) → (n c : ℕ) → CountsTo P n c → CountsTo Q n c
counts_like P Q to from zero c h = h
counts_like P Q to from (suc n) c h = ⊎_elim
    (λ y. inl (to (suc n) y.0, (y.1.0, y.1.1, counts_like P Q to from n y.1.0 y.1.2)))
    (λ z. inr (λ q. z.0 (from (suc n) q), counts_like P Q to from n c z.1))
    h

-- accepted everywhere by what accepts no less
everywhere : (n : ℕ) (A B : Option ℕ → List ℕ → List ℕ → Type 0)
    → ((c : Option ℕ) (rs vs : List ℕ) → A c rs vs → B c rs vs) → AcceptsEverywhere n A → AcceptsEverywhere n B
everywhere n A B f h = record {
  control = h.control;
  is_control = h.is_control;
  results = h.results;
  are_results = h.are_results;
  values = h.values;
  are_values = h.are_values;
  allowed = f h.control h.results h.values h.allowed;
}

-- each of different names is found
found : (t : TableContents) → AreDifferentNames t.names → (k : ℕ) → k < length t.names → IsFoundByName t (suc k)
found t different k l =
    let at = get_there t.names k l in
    record {
      name = at.0;
      named = at.1;
      first = record {
        holds = at.1;
        none_before = λ j before named. earlier j before at.0 at.1 named;
      };
    }
  where
    earlier : (j : ℕ) → j < suc k → (name : List ℕ) → slice_get t.names k ≡ Some name → at_opcode t.names j ≡ Some name → ⊥
    earlier zero before name at named = absurd (cc)
    earlier (suc j) before name at named =
        let same : j ≡ k = different j k name named at in
        omega (arith, same, before)

pub of_synth : (n : ℕ) (d : Declared) (t : WholeTables) (line : List ℕ) → HoldTypeSets d.set.vars → IsSynth n d
    → AreWholeTablesOf d t → IsSummary n t.opcodes line → IsSummaryOf n d.set t.opcodes line
of_synth n d t line hold is made h =
    let entries : length t.opcodes.entries ≡ 255 = made.opcodes.count ∙ is.count in
    let different : AreDifferentNames t.opcodes.names = subst AreDifferentNames (sym made.opcodes.names)
    (different_names d.set (set_is_valid n d is)) in
    let names : length t.opcodes.names ≡ 255 = ap length made.opcodes.names
    ∙ length-map d.set.instructions (λ (b : Builder). b.name) ∙ is.count in
    let found_all : h.found ≡ 255 = counts_all (IsFoundByName t.opcodes) 255 h.found
    (subst (λ m. CountsTo (IsFoundByName t.opcodes) m h.found) entries h.are_found)
    (λ k l. found t.opcodes different k (omega (arith, l, names))) in
    record {
      accepted = h.accepted;
      are_accepted = counts_like (TakesEverywhere t.opcodes i64_number) (DeclaresEverywhere d.set i64_number)
          (λ op. everywhere i64_number _ _ (λ c rs vs. (tables_of_mean d.set t.opcodes op c None rs vs hold made.opcodes).0))
          (λ op. everywhere i64_number _ _ (λ c rs vs. (tables_of_mean d.set t.opcodes op c None rs vs hold made.opcodes).1))
          255 h.accepted (subst (λ m. CountsTo (TakesEverywhere t.opcodes i64_number) m h.accepted) entries h.are_accepted);
      is = h.is ∙ (λ i. summary_line n (lengths_text (entries i) (length t.opcodes.type_sets)
          (length t.opcodes.operand_constraints) (length t.opcodes.opcode_slots)) (found_all i) h.accepted);
    }
