use Rattle.std.proofs.Common.{◌≡◌, ◌∙◌, ◌+◌, ◌++◌, ◌∷◌, [], ap, refl, ℕ, List, Some, length, slice_get, take, sym}
use Rattle.std.proofs.lemmas.Bool.{false≢true}
use Rattle.meta_types.specs.SharedNames.{IsDuplicate}
use Rattle.meta_settings.specs.GroupDeclaration.{GroupDeclaration, Entry, entries_of, names_of_entries}
use Rattle.meta_settings.specs.GroupFaults.{IsWellNamed, EntryNameRule, EntryDuplicateRule, EnumRule, PresetRule, OfEntry}
use Rattle.meta_settings.specs.Searched.{IsGroupCleanBefore}
use Rattle.meta_types.proofs.NamesSoFar.{shared_found, unshared_found, kept_more}
use Rattle.meta_settings.proofs.Rules.{name_at, well_named, not_shared, good_enum, good_preset}
use Rattle.meta_settings.proofs.fault.entry_fault.Goals as goal

-- what the names before the entry at place k and its own tell
module _ (d : GroupDeclaration) (k : ℕ) (x : Entry) (at : slice_get (entries_of d) k ≡ Some x) (name : List ℕ)
    (is : name ≡ x.name) (kept : List (List ℕ)) (are : kept ≡ take k (names_of_entries d)) where
  named : slice_get (names_of_entries d) k ≡ Some name
  named = name_at d k x at ∙ ap Some (sym is)

  duplicate : (j : ℕ) → IsDuplicate (kept ++ name ∷ []) (length kept) j → IsDuplicate (names_of_entries d) k j
  duplicate = shared_found (names_of_entries d) k name named kept are

  to_enum : IsGroupCleanBefore d (OfEntry k EntryNameRule) → IsWellNamed x
      → ((j : ℕ) → IsDuplicate (kept ++ name ∷ []) (length kept) j → ⊥) → IsGroupCleanBefore d (OfEntry k EnumRule)
  to_enum clean well never = not_shared d k x at (well_named d k x at clean well)
      (unshared_found (names_of_entries d) k name named kept are never)

  more_kept : (more : List (List ℕ)) → more ≡ kept ++ name ∷ [] → more ≡ take (k + 1) (names_of_entries d)
  more_kept = kept_more (names_of_entries d) k name named kept are

pub returns-then-not-is_well_named-clause-fault : goal.returns-then-not-is_well_named-clause-fault
returns-then-not-is_well_named-clause-fault c = record {
  position = OfEntry c.args.place EntryNameRule;
  shows = (_, c.entry-entry.ensures, (refl, λ well. false≢true (sym c.if-not-is_well_named.true ∙ c.is_well_named.ensures.1 well)));
  first = c.requires.clean c.args.group;
}

pub returns-in-Some-clause-fault : goal.returns-in-Some-clause-fault
returns-in-Some-clause-fault c =
    let same = ap (λ (e : Entry). e.name) c.entry.view_is in
    let shared = duplicate c.args.builder.now c.args.place _ c.entry-entry.ensures _ same _ c.requires.kept
    _ (rw c.in-Some.is at c.in_ok-earlier.ensures.shared) in
    record {
      position = OfEntry c.args.place EntryDuplicateRule;
      shows = (_, c.entry-entry.ensures, (c.in-Some.earlier, refl, shared));
      first = well_named c.args.builder.now c.args.place _ c.entry-entry.ensures c.requires.clean
          (c.is_well_named.ensures.0 c.if-not-is_well_named.false) c.args.group;
    }

pub returns-then-not-branch-clause-fault : goal.returns-then-not-branch-clause-fault
returns-then-not-branch-clause-fault c =
    let same = ap (λ (e : Entry). e.name) c.entry.view_is in
    let told = rw (ap (λ (e : Entry). e.values) c.entry.view_is) at c.in_ok-has_good_values.ensures in
    record {
      position = OfEntry c.args.place EnumRule;
      shows = (_, c.entry-entry.ensures, (refl, λ good. false≢true (sym c.if-not-branch.true ∙ told.1 good)));
      first = to_enum c.args.builder.now c.args.place _ c.entry-entry.ensures _ same _ c.requires.kept
          c.requires.clean (c.is_well_named.ensures.0 c.if-not-is_well_named.false)
          (rw c.in_default.is at c.in_ok-earlier.ensures.unshared) c.args.group;
    }

pub returns-then-not-are_met-clause-fault : goal.returns-then-not-are_met-clause-fault
returns-then-not-are_met-clause-fault c =
    let same = ap (λ (e : Entry). e.name) c.entry.view_is in
    let told = rw (ap (λ (e : Entry). e.values) c.entry.view_is) at c.in_ok-has_good_values.ensures in
    let count : c.len.result ≡ length c.args.builder.now.settings = c.len.ensures ∙ c.builder.inside.settings.ok.0
    ∙ ap (λ (d : GroupDeclaration). length d.settings) c.builder.view_is in
    let args = ap (λ (e : Entry). e.args) c.entry.view_is in
    let clean = to_enum c.args.builder.now c.args.place _ c.entry-entry.ensures _ same _ c.requires.kept
    c.requires.clean (c.is_well_named.ensures.0 c.if-not-is_well_named.false) (rw c.in_default.is at c.in_ok-earlier.ensures.unshared) in
    record {
      position = OfEntry c.args.place PresetRule;
      shows = (
        _,
        c.entry-entry.ensures,
        (
          refl,
          λ met. false≢true (sym c.if-not-are_met.true
              ∙ c.are_met.ensures.1 (rw (c.boolean_count.ensures, c.saturating_sub-earlier.ensures, count, args) met)),
        ),
      );
      first = good_enum c.args.builder.now c.args.place _ c.entry-entry.ensures clean
          (told.0 c.if-not-branch.false) c.args.group;
    }

pub returns-clause-kept : goal.returns-clause-kept
returns-clause-kept c =
    let same = ap (λ (e : Entry). e.name) c.entry.view_is in
    more_kept c.args.builder.now c.args.place _ c.entry-entry.ensures _ same _
    c.requires.kept _ (rw c.in_default.is at c.in_ok-earlier.ensures.added)

pub returns-clause-fault : goal.returns-clause-fault
returns-clause-fault c =
    let same = ap (λ (e : Entry). e.name) c.entry.view_is in
    let told = rw (ap (λ (e : Entry). e.values) c.entry.view_is) at c.in_ok-has_good_values.ensures in
    let count : c.len.result ≡ length c.args.builder.now.settings = c.len.ensures ∙ c.builder.inside.settings.ok.0
    ∙ ap (λ (d : GroupDeclaration). length d.settings) c.builder.view_is in
    let args = ap (λ (e : Entry). e.args) c.entry.view_is in
    let clean = to_enum c.args.builder.now c.args.place _ c.entry-entry.ensures _ same _ c.requires.kept
    c.requires.clean (c.is_well_named.ensures.0 c.if-not-is_well_named.false) (rw c.in_default.is at c.in_ok-earlier.ensures.unshared) in
    let checked = good_enum c.args.builder.now c.args.place _ c.entry-entry.ensures clean
    (told.0 c.if-not-branch.false) in
    good_preset c.args.builder.now c.args.place _ c.entry-entry.ensures checked
    (rw (c.boolean_count.ensures, c.saturating_sub-earlier.ensures, count, args) at
    (c.are_met.ensures.0 c.if-not-are_met.false))
