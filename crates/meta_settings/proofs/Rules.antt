-- The rules of a group, one after another.
use Rattle.std.proofs.Common.{◌≡◌, ◌∙◌, ◌<◌, ◌+◌, ◌-◌, ℕ, List, [], ◌∷◌, Some, IfSome, length, length-append, slice_get, get_or}
use Rattle.std.proofs.Common.{if◌then◌else◌, ◌==◌, sym, subst, arith}
use Rattle.std.specs.Prelude.{map}
use Rattle.std.proofs.lemmas.List.{length-map}
use Rattle.std.proofs.lemmas.Option.{same_Some, slice_get_within}
use Rattle.meta_lists.proofs.Mapped.{get_map}
use Rattle.meta_types.specs.Name.{IsName}
use Rattle.meta_types.specs.declared.fault.DefinitionError.{DefinitionError}
use Rattle.meta_types.specs.SharedNames.{IsDuplicate}
use Rattle.meta_types.specs.FirstFault.{Key}
use Rattle.meta_types.proofs.SharedNames.{one_earlier}
use Rattle.meta_types.proofs.FirstFault.{IsIn, IsSearchable, none_before_first, passed, next_place, next_part, none_left}
use Rattle.meta_settings.specs.GroupDeclaration.{GroupDeclaration, Entry, entries_of, setting_entry, preset_entry, names_of_entries}
use Rattle.meta_settings.specs.GroupDeclaration.{entry_count, boolean_count}
use Rattle.meta_settings.specs.GroupFaults.{IsWellNamed, IsGoodEnum, AreMet, HasTooMany, EntryRule, EntryNameRule, EntryDuplicateRule}
use Rattle.meta_settings.specs.GroupFaults.{EnumRule, PresetRule, entry_rule_number, GroupPosition, OfGroupName, OfEntry, OfCounts}
use Rattle.meta_settings.specs.GroupFaults.{group_position_key, BreaksRule, GroupHasFaultAt, IsValidGroup}
use Rattle.meta_settings.specs.Searched.{IsGroupCleanBefore}

-- the rules for an entry, in order
abbrev pub rules : List EntryRule
rules = EntryNameRule ∷ EntryDuplicateRule ∷ EnumRule ∷ PresetRule ∷ []

rule_of : (r : EntryRule) → get_or rules (entry_rule_number r) EntryNameRule ≡ r
rule_of r = grind arith

few_rules : (r : EntryRule) → entry_rule_number r < length rules
few_rules r = grind arith

abbrev position_of : Key → GroupPosition
position_of k = if k.part == 0 then OfGroupName else (if k.part == 1 then OfEntry k.place (get_or rules k.rule EntryNameRule) else OfCounts)

known : (p : GroupPosition) → position_of (group_position_key p) ≡ p
known p = grind (arith, rule_of)

pub length-entries : (d : GroupDeclaration) → length (entries_of d) ≡ entry_count d
length-entries d =
    let settings = length-map d.settings setting_entry in
    let presets = length-map d.presets preset_entry in
    omega (arith, length-append (map setting_entry d.settings) (map preset_entry d.presets))

module _ (d : GroupDeclaration) (g : ℕ) where
  -- at a place one fault tells that a rule is broken
  one_broken : (k : ℕ) (x : Entry) (rule : EntryRule) (e f : DefinitionError) → BreaksRule d g k x rule e → BreaksRule d g k x rule f
      → e ≡ f
  one_broken k x rule e f a b = grind (arith, one_earlier)

  one_shown : (p : GroupPosition) (e f : DefinitionError) → GroupHasFaultAt d g p e → GroupHasFaultAt d g p f → e ≡ f
  one_shown OfGroupName e f a b = a.0 ∙ sym b.0
  one_shown (OfEntry k rule) e f a b =
      one_broken k b.0 rule e f (subst (λ (x : Entry). BreaksRule d g k x rule e) (same_Some a.0 b.0 (sym a.1 ∙ b.1)) a.2) b.2
  one_shown OfCounts e f a b = a.0 ∙ sym b.0

  abbrev pub rules_of : ℕ → ℕ
  rules_of part = if part == 1 then length rules else 1

  abbrev pub places_of : ℕ → ℕ
  places_of part = if part == 1 then entry_count d else 1

  within : (p : GroupPosition) (e : DefinitionError) → GroupHasFaultAt d g p e → IsIn 3 places_of rules_of (group_position_key p)
  within p e s = grind (arith, slice_get_within, length-entries, few_rules)

  pub searchable : IsSearchable group_position_key (GroupHasFaultAt d g) 3 places_of rules_of
  searchable = record { position_of = position_of; known = known; one = one_shown; within = within }

module _ (d : GroupDeclaration) where
  -- the search begins
  pub before_all : IsGroupCleanBefore d OfGroupName
  before_all g = none_before_first group_position_key (GroupHasFaultAt d g)

  pub passed_name : IsName d.name → IsGroupCleanBefore d (OfEntry 0 EntryNameRule)
  passed_name named g =
      next_part (searchable d g) 0 (next_place (searchable d g) 0 0 (passed (searchable d g) OfGroupName (before_all g) (λ e s. s.1 named)))

  pub passed_counts : IsGroupCleanBefore d OfCounts → (HasTooMany d → ⊥) → IsValidGroup d
  passed_counts clean few g = none_left (searchable d g)
      (next_part (searchable d g) 2 (next_place (searchable d g) 2 0 (passed (searchable d g) OfCounts (clean g) (λ e s. few s.1))))

-- the rules for the entry at a place, one after another
module _ (d : GroupDeclaration) (k : ℕ) (x : Entry) (at : slice_get (entries_of d) k ≡ Some x) where
  pub name_at : slice_get (names_of_entries d) k ≡ Some x.name
  name_at = get_map (λ (x : Entry). x.name) (entries_of d) k x at

  -- what is shown at the place is shown of the entry
  here : (g : ℕ) (rule : EntryRule) (e : DefinitionError) → GroupHasFaultAt d g (OfEntry k rule) e → BreaksRule d g k x rule e
  here g rule e s = subst (λ (z : Entry). BreaksRule d g k z rule e) (same_Some s.0 x (sym s.1 ∙ at)) s.2

  pub well_named : IsGroupCleanBefore d (OfEntry k EntryNameRule) → IsWellNamed x → IsGroupCleanBefore d (OfEntry k EntryDuplicateRule)
  well_named clean well g = passed (searchable d g) (OfEntry k EntryNameRule) (clean g) (λ e s. (here g EntryNameRule e s).1 well)

  pub not_shared : IsGroupCleanBefore d (OfEntry k EntryDuplicateRule) → ((j : ℕ) → IsDuplicate (names_of_entries d) k j → ⊥)
      → IsGroupCleanBefore d (OfEntry k EnumRule)
  not_shared clean unshared g = passed (searchable d g) (OfEntry k EntryDuplicateRule) (clean g) (λ e s. let (j, is, shared) =
      here g EntryDuplicateRule e s in unshared j shared)

  pub good_enum : IsGroupCleanBefore d (OfEntry k EnumRule) → IfSome x.values IsGoodEnum → IsGroupCleanBefore d (OfEntry k PresetRule)
  good_enum clean good g = passed (searchable d g) (OfEntry k EnumRule) (clean g) (λ e s. (here g EnumRule e s).1 good)

  pub good_preset : IsGroupCleanBefore d (OfEntry k PresetRule) → AreMet (boolean_count d) (k - length d.settings) x.args
      → IsGroupCleanBefore d (OfEntry (k + 1) EntryNameRule)
  good_preset clean met g =
      next_place (searchable d g) 1 k (passed (searchable d g) (OfEntry k PresetRule) (clean g) (λ e s. (here g PresetRule e s).1 met))
