-- The name of a setting finds the one entry of the declared group that has it.
use Rattle.std.proofs.Common.{◌≡◌, ◌↔◌, ◌⊎◌, inl, inr, ℕ, ◌<◌, ◌≤◌, List, length, slice_get, Option, None, Some, sym, ◌∙◌, arith}
use Rattle.std.proofs.lemmas.Bool.{cases_lt}
use Rattle.std.proofs.lemmas.Option.{slice_get_within, slice_get_past}
use Rattle.meta_lists.proofs.Places.{get_there}
use Rattle.meta_types.specs.SharedNames.{AreDifferentNames}
use Rattle.meta_settings.specs.Layout.{Layout}
use Rattle.meta_settings.specs.LaidOut.{built_of}
use Rattle.meta_build.specs.AllDeclared.{Declared}
use Rattle.meta_setting_tables.specs.FoundSetting.{entry_names}
use Rattle.meta_setting_tables.specs.GroupTables.{GroupContents, AreTablesOfGroup}
use Rattle.meta_gen.specs.WholeTables.{WholeTables, OfGroup, HasNoGroup, AreWholeTablesOf, FindsSetting}
use Rattle.meta_setting_tables.proofs.BuiltNames.{built_names}

-- the answer is the number of the one entry with the name, in each group that has the tables and whose names are apart
abbrev pub FindsIn : List ℕ → Option ℕ → GroupContents → Type 0
FindsIn name answer t = (g : Layout) → AreTablesOfGroup g t → AreDifferentNames (entry_names g) → (e : ℕ)
    → ((answer ≡ Some e) ↔ (slice_get (entry_names g) e ≡ Some name))

pub finds_declared_setting : (d : Declared) (t : WholeTables) (group : ℕ) (name : List ℕ) (answer : Option ℕ)
    → OfGroup t group (FindsIn name answer) → (HasNoGroup t group → answer ≡ None) → AreWholeTablesOf d t → FindsSetting d group name answer
finds_declared_setting d t group name answer here absent h = record {
  entry = λ g at.
      let inside = slice_get_within d.groups group g at in
      let counted = h.groups.count in
      let there = get_there t.groups group (omega (arith, inside, counted)) in
      here there.0 there.1 (built_of g) (h.groups.each group g there.0 at there.1) (built_names g (h.groups.valid group g at));
  no_group = λ none. absent (outside none (cases_lt group (length t.groups)));
}
  where
    outside : slice_get d.groups group ≡ None → (group < length t.groups) ⊎ (length t.groups ≤ group) → HasNoGroup t group
    outside none (inl l) =
        let counted = h.groups.count in
        let there = get_there d.groups group (omega (arith, l, counted)) in
        absurd (let bad : None ≡ Some there.0 = sym none ∙ there.1 in cc)
    outside none (inr past) = slice_get_past t.groups group past
