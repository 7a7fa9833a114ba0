-- The verdict on tables by those of declarations is the verdict on them for the declarations.
use Rattle.std.proofs.Common.{◌≡◌, ◌≢◌, ◌↔◌, ◌+◌, ◌<◌, ℕ, zero, suc, List, length, Option, None, Some, option_map, slice_get, refl, sym, ap}
use Rattle.std.proofs.Common.{◌∙◌, subst, arith}
use Rattle.std.proofs.lemmas.Option.{same_Some, none-some, slice_get_within}
use Rattle.meta_lists.proofs.Places.{get_there}
use Rattle.meta_lists.proofs.Mapped.{get_map}
use Rattle.meta_typevar.specs.TypeSetParts.{IsTypeSet}
use Rattle.meta_typevar.specs.Variable.{Variable}
use Rattle.meta_typevar.specs.Registry.{HoldTypeSets}
use Rattle.meta_inst.specs.Builder.{Builder}
use Rattle.meta_inst.specs.Instruction.{IsOperand}
use Rattle.meta_inst.specs.InstructionSet.{InstructionSet, root_sets, instruction_in_set}
use Rattle.meta_inst.specs.Faults.{IsAt}
use Rattle.meta_inst.proofs.OneControl.{same_control}
use Rattle.meta_inst.specs.Tables.{TableContents, OpcodeNumbers}
use Rattle.meta_settings.specs.GroupDeclaration.{GroupDeclaration}
use Rattle.meta_settings.specs.LaidOut.{built_of}
use Rattle.meta_gen.specs.TablesOf.{AreTablesOf}
use Rattle.meta_gen.specs.WellFormedOpcodes.{IsWellFormedOpcodes}
use Rattle.meta_gen.specs.Found.{IsDeclaredNamed, FindsName}
use Rattle.meta_gen.specs.Contents.{IsOpcodeNamed}
use Rattle.meta_setting_tables.specs.GroupTables.{GroupContents, names_in}
use Rattle.meta_setting_tables.specs.FoundSetting.{entry_names, FindsEntry}
use Rattle.meta_setting_tables.proofs.BuiltNames.{built_names}
use Rattle.meta_setting_tables.proofs.Finding.{finds_exactly}
use Rattle.meta_lists.proofs.Options.{mapped}
use Rattle.meta_build.specs.AllDeclared.{Declared, AreValidGroups}
use Rattle.meta_gen.specs.WholeTables.{WholeTables, AreTablesOfGroups, AreWholeTablesOf, FindsSetting}
use Rattle.meta_gen.specs.WellFormed.{IsWellFormed}
use Rattle.meta_audit.specs.Matching.{Matches, MatchesEntry}
use Rattle.meta_audit.specs.Comparison.{SameEntry, SameOpcode}
use Rattle.meta_audit.specs.Verdict.{declared_entries, entries_at, AreAsMany, AllMatch, FindsOpcode, FindsSettingIn, IsAuditVerdict}
use Rattle.meta_audit.specs.Verdict.{AreMeant, AreSameBelow, IsComparison}
use Rattle.meta_audit.specs.declared.verdict.Verdict.{Verdict}
use Rattle.meta_audit.specs.declared.verdict.Verdict.TheVariants.{Yes, Opcodes, Opcode, Group}
use Rattle.meta_audit.proofs.SameMeaning.{matches_from_same, same_from_matches}

-- the groups of the tables of declarations have the names of the declared entries
pub own_groups : (groups : List GroupDeclaration) (tables : List GroupContents) → AreTablesOfGroups groups tables → (g : ℕ)
    → entries_at tables g ≡ declared_entries groups g
own_groups groups tables made g = by_case (slice_get groups g) refl (slice_get tables g) refl
  where
    count : length tables ≡ length groups
    count = made.count

    by_case : (o : Option GroupDeclaration) → slice_get groups g ≡ o → (t : Option GroupContents) → slice_get tables g ≡ t
        → option_map (λ (x : GroupContents). names_in x.descriptors) t ≡ option_map (λ (x : GroupDeclaration). entry_names (built_of x)) o
    by_case None absent None none = refl
    by_case None absent (Some t) at =
        let inside = slice_get_within tables g t at in
        let there = get_there groups g (omega (arith, inside, count)) in
        absurd (none-some there.0 (sym absent ∙ there.1))
    by_case (Some d) is None none =
        let inside = slice_get_within groups g d is in
        let there = get_there tables g (omega (arith, inside, count)) in
        absurd (none-some there.0 (sym none ∙ there.1))
    by_case (Some d) is (Some t) at = ap Some (made.each g d t is at).names

module _ (d : InstructionSet) (own other : TableContents) (sets : HoldTypeSets d.vars) (made : AreTablesOf d own) where
  -- the root of each operand has a type set
  typed : (b : Builder) (k : ℕ) (w : Variable) → IsOperand (instruction_in_set d b) k w → IsTypeSet (root_sets d w.root)
  typed b k w at = sets w.root

  -- the tables of the declarations have the names of the instructions
  own_name : (k : ℕ) (b : Builder) → IsAt d k b → slice_get own.names k ≡ Some b.name
  own_name k b at = ap (λ (names : List (List ℕ)). slice_get names k) made.names ∙ get_map (λ (x : Builder). x.name) d.instructions k b at

  -- An opcode that means the same means the instruction.
  pub matches_from : (k : ℕ) (b : Builder) → IsAt d k b → SameOpcode own other k → Matches d other k b
  matches_from k b at s =
      let held = made.holds k b at in
      let same : s.entry ≡ held.entry = same_Some s.entry held.entry (sym s.at ∙ held.at) in
      record {
        named = s.name ∙ own_name k b at;
        control = held.control;
        is_control = held.is_control;
        entry = s.other_entry;
        at = s.other_at;
        means = matches_from_same (root_sets d) (instruction_in_set d b) held.control own other held.entry s.other_entry
            (typed b) held.is_control held.good held.is_entry (subst (λ e. SameEntry own other e s.other_entry) same s.same);
      }

  -- An opcode that means the instruction means the same.
  pub same_from : IsWellFormedOpcodes own → IsWellFormedOpcodes other → (k : ℕ) (b : Builder) → IsAt d k b → Matches d other k b
      → SameOpcode own other k
  same_from own_well well k b at m =
      let held = made.holds k b at in
      let one : m.control ≡ held.control =
      same_control (root_sets d) (instruction_in_set d b) m.control held.control m.is_control held.is_control in
      record {
        name = m.named ∙ sym (own_name k b at);
        entry = held.entry;
        at = held.at;
        other_entry = m.entry;
        other_at = m.at;
        same = same_from_matches (root_sets d) (instruction_in_set d b) held.control own other held.entry m.entry
            (typed b) held.is_control held.good held.is_entry own_well well
            (subst (λ v. MatchesEntry (root_sets d) (instruction_in_set d b) v other m.entry) one m.means);
      }

-- the instruction at a place where the tables of the declarations have an opcode
instruction_at : (d : InstructionSet) (own : TableContents) → AreTablesOf d own → (k : ℕ) → k < length own.entries
    → (b : Builder) × IsAt d k b
instruction_at d own made k less = let count = made.count in get_there d.instructions k (omega (arith, less, count))

module _ (d : Declared) (own t : WholeTables) (sets : HoldTypeSets d.set.vars) (made : AreWholeTablesOf d own)
    (own_well : IsWellFormed own) (well : IsWellFormed t) where
  -- as many opcodes, and the first that differs
  all_match : AreSameBelow own.opcodes t.opcodes (length own.opcodes.entries) → AllMatch d.set t.opcodes
  all_match same k b at =
      let inside = slice_get_within d.set.instructions k b at in
      let count = made.opcodes.count in
      matches_from d.set own.opcodes t.opcodes sets made.opcodes k b at (same.same k (omega (arith, inside, count)))

  groups_are : (g : ℕ) → entries_at own.groups g ≡ declared_entries d.groups g
  groups_are = own_groups d.groups own.groups made.groups

  -- The verdict by the tables of the declarations is the verdict for the declarations.
  pub verdict_of : (v : Verdict) → IsComparison own t v → IsAuditVerdict d t v
  verdict_of Yes (same, groups) = record {
    count = same.count ∙ made.opcodes.count;
    opcodes = all_match same;
    groups = λ g. groups g
        ∙ groups_are g;
  }
  verdict_of Opcodes differ = λ e. differ (e ∙ sym made.opcodes.count)
  verdict_of (Opcode n) (k, number, same, differ) =
      let (b, at) = instruction_at d.set own.opcodes made.opcodes k differ.within in
      record {
        count = same.count ∙ made.opcodes.count;
        place = k;
        number = number;
        first = record {
          holds = record {
            builder = b;
            at = at;
            other = λ m. differ.differ (same_from d.set own.opcodes t.opcodes sets made.opcodes own_well.opcodes well.opcodes k b at m);
          };
          none_before =
              λ j less x. x.other (matches_from d.set own.opcodes t.opcodes sets made.opcodes j x.builder x.at (same.same j less));
        };
      }
  verdict_of (Group g) (same, first) = record {
    count = same.count ∙ made.opcodes.count;
    opcodes = all_match same;
    first = record {
      holds = λ e. first.holds (e ∙ sym (groups_are g));
      none_before = λ j less differs. first.none_before j less (λ e. differs (e ∙ groups_are j));
    };
  }

-- an entry means the same as itself
same_self : (own : TableContents) (e : OpcodeNumbers) → SameEntry own own e e
same_self own e = record {
  results = refl;
  values = refl;
  first = λ c. ((λ f. f), (λ f. f));
  second = λ c. ((λ f. f), (λ f. f));
  passes = λ k less c d first second n. ((λ p. p), (λ p. p));
}

-- The tables of declarations mean these.
pub own_meant : (d : Declared) (own : WholeTables) → HoldTypeSets d.set.vars → AreWholeTablesOf d own → AreMeant d own
own_meant d own sets made = record {
  count = made.opcodes.count;
  opcodes = λ k b at.
      let held = made.opcodes.holds k b at in
      matches_from d.set own.opcodes own.opcodes sets made.opcodes k b at (record {
        name = refl;
        entry = held.entry;
        at = held.at;
        other_entry = held.entry;
        other_at = held.at;
        same = same_self own.opcodes held.entry;
      });
  groups = own_groups d.groups own.groups made.groups;
}

-- ---- names

module _ (d : InstructionSet) (other : TableContents) (well : IsWellFormedOpcodes other) (count : AreAsMany d other)
    (all : AllMatch d other) where
  -- an opcode has a name exactly where its instruction has it
  named_to : (name : List ℕ) (op : ℕ) → IsOpcodeNamed other.names name op → IsDeclaredNamed d name op
  named_to name zero e = absurd (none-some name e)
  named_to name (suc k) e =
      let inside = slice_get_within other.names k name e in
      let named = well.parts.named in
      let (b, at) = get_there d.instructions k (omega (arith, inside, named, count)) in
      record { place = k; builder = b; at = at; number = omega arith; named = same_Some b.name name (sym (all k b at).named ∙ e) }

  named_from : (name : List ℕ) (op : ℕ) → IsDeclaredNamed d name op → IsOpcodeNamed other.names name op
  named_from name op h =
      let n = h.number in
      let same : suc h.place ≡ op = omega (arith, n) in
      subst (IsOpcodeNamed other.names name) same ((all h.place h.builder h.at).named ∙ ap Some h.named)

  -- What is found by its name in the tables is what is found in the declarations.
  finds_to : (name : List ℕ) (answer : Option ℕ) → FindsOpcode other name answer → FindsName d name answer
  finds_to name None none = λ k b at is. none (suc k) ((all k b at).named ∙ ap Some is)
  finds_to name (Some op) first = record {
    holds = named_to name op first.holds;
    none_before = λ j less h. first.none_before j less (named_from name j h);
  }

  finds_from : (name : List ℕ) (answer : Option ℕ) → FindsName d name answer → FindsOpcode other name answer
  finds_from name None none = λ op at. let h = named_to name op at in none h.place h.builder h.at h.named
  finds_from name (Some op) first = record {
    holds = named_from name op first.holds;
    none_before = λ j less h. first.none_before j less (named_to name j h);
  }

  pub finds_declared : (name : List ℕ) (answer : Option ℕ) → (FindsOpcode other name answer ↔ FindsName d name answer)
  finds_declared name answer = (finds_to name answer, finds_from name answer)

-- if a mapped option is `None`, so is the option
none_after : {X Y : Type 0} (f : X → Y) (o : Option X) → option_map f o ≡ None → o ≡ None
none_after f None e = refl
none_after f (Some x) e = absurd (none-some (f x) (sym e))

-- the one entry of a name is the first that has it, and there is no such entry if no entry has it
finds_one : (names : List (List ℕ)) (name : List ℕ) (answer : Option ℕ) → ((e : ℕ) → ((answer ≡ Some e) ↔ (slice_get names e ≡ Some name)))
    → FindsEntry names name answer
finds_one names name None exact = λ e at. absurd (none-some e ((exact e).1 at))
finds_one names name (Some e) exact = record {
  holds = (exact e).0 refl;
  none_before = λ j less at. let same : e ≡ j = same_Some e j ((exact j).1 at) in omega (arith, less, same);
}

module _ (d : Declared) (t : WholeTables) (meant : AreMeant d t) (group : ℕ) (name : List ℕ) (answer : Option ℕ) where
  -- What is found by the name of a setting in the tables is what is found in the declarations.
  settings_to : AreValidGroups d.groups → FindsSettingIn t group name answer → FindsSetting d group name answer
  settings_to valid h = record {
    entry = λ g at e.
        let (tables, there, names) = mapped (λ (x : GroupContents). names_in x.descriptors) (slice_get t.groups group)
        (entry_names (built_of g)) (meant.groups group ∙ ap (option_map (λ (x : GroupDeclaration). entry_names (built_of x))) at) in
        finds_exactly (entry_names (built_of g)) name answer
        (subst (λ (ns : List (List ℕ)). FindsEntry ns name answer) names (h.entry tables there)) (built_names g (valid group g at)) e;
    no_group = λ none. h.no_group (none_after (λ (x : GroupContents). names_in x.descriptors) (slice_get t.groups group)
        (meant.groups group ∙ ap (option_map (λ (x : GroupDeclaration). entry_names (built_of x))) none));
  }

  settings_from : FindsSetting d group name answer → FindsSettingIn t group name answer
  settings_from h = record {
    entry = λ g at.
        let (declared, there, names) = mapped (λ (x : GroupDeclaration). entry_names (built_of x)) (slice_get d.groups group)
        (names_in g.descriptors) (sym (meant.groups group) ∙ ap (option_map (λ (x : GroupContents). names_in x.descriptors)) at) in
        subst (λ (ns : List (List ℕ)). FindsEntry ns name answer) names
        (finds_one (entry_names (built_of declared)) name answer (h.entry declared there));
    no_group = λ none. h.no_group (none_after (λ (x : GroupDeclaration). entry_names (built_of x)) (slice_get d.groups group)
        (sym (meant.groups group) ∙ ap (option_map (λ (x : GroupContents). names_in x.descriptors)) none));
  }

  pub finds_setting : AreValidGroups d.groups → (FindsSettingIn t group name answer ↔ FindsSetting d group name answer)
  finds_setting valid = (settings_to valid, settings_from)
