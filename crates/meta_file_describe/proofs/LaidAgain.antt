-- A group that is declared anew of its layout is laid out as before, and what the layout of a valid group has.
--     built_again       the layout is the same
--     comments_again    what is so of each comment is so in the layout
--     names_again       its names are names, and its descriptions need no escape
--     booleans_named    no two booleans of a layout have one name
--     booleans_there    presets turn on booleans of the layout
use Rattle.std.proofs.Common.{◌≡◌, ℕ, ◌+◌, ◌/◌, ◌<◌, Bool, true, false, not, cond, eqb, List, [], ◌∷◌, ◌++◌, map, length}
use Rattle.std.proofs.Common.{length-append, slice_get, Option, Some, None, suc, All, inl, refl, sym, ap, ◌∙◌, subst, arith}
use Rattle.std.specs.Prelude.{option_map, unwrap_or}
use Rattle.std.specs.List.{filter, flat_map}
use Rattle.std.proofs.lemmas.Bool.{cases_eq}
use Rattle.std.proofs.lemmas.Bool.Decides.{Decides-eqb}
use Rattle.std.proofs.lemmas.List.{append-nil, append_assoc, map-append, length-drop}
use Rattle.std.proofs.lemmas.List.Elements.{All-nil, All-cons, All-head, All-tail, All-same, All-append, All-push, All-weaker, All-filter}
use Rattle.std.proofs.lemmas.List.Elements.{filter-append}
use Rattle.meta_lists.proofs.Everywhere.{everywhere, at_place}
use Rattle.meta_lists.proofs.Mapped.{get_map}
use Rattle.meta_lists.proofs.Places.{get_drop, get_stays}
use Rattle.meta_types.specs.Name.{IsName}
use Rattle.meta_types.proofs.Decided.{Decided, so, decided_like, decided_both, decided_not, decided_le, decided_each}
use Rattle.meta_types.proofs.NamesDecided.{name_so, names_so}
use Rattle.meta_settings.specs.declared.index.PresetType.{PresetType}
use Rattle.meta_settings.specs.declared.index.PresetType.TheVariants.{BoolSetting, OtherPreset}
use Rattle.meta_settings.specs.declared.proto.ProtoSpecificSetting.{ProtoSpecificSetting}
use Rattle.meta_settings.specs.declared.proto.ProtoSpecificSetting.TheVariants as proto
use Rattle.meta_settings.specs.declared.setting.SpecificSetting.{SpecificSetting}
use Rattle.meta_settings.specs.declared.setting.SpecificSetting.TheVariants as specific
use Rattle.meta_settings.specs.GroupDeclaration.{SettingDeclaration, PresetDeclaration, GroupDeclaration, Entry, is_bool, has_own_byte}
use Rattle.meta_settings.specs.GroupDeclaration.{booleans_among, others_among, boolean_count, start_of, values_of}
use Rattle.meta_settings.specs.GroupDeclaration.{setting_entry, preset_entry, entries_of}
use Rattle.meta_settings.specs.GroupFaults.{IsPlainByte, IsWellNamed, IsMet, EntryNameRule, PresetRule, OfGroupName, OfEntry, IsValidGroup}
use Rattle.meta_settings.specs.Layout.{PlacedSetting, BuiltPreset, Layout, booleans_in}
use Rattle.meta_settings.specs.LaidOut.{placed_specific, placed_at, in_bytes, in_bits, laid_out, built_of}
use Rattle.meta_settings.specs.TurnedOn.{firsts, meant_by, built_preset, presets_after, built_presets}
use Rattle.meta_settings.proofs.Placing.{length-in_bits}
use Rattle.meta_settings.proofs.Valid.{preset_at, start_length, whole_group}
use Rattle.meta_setting_tables.proofs.BuiltNames.{built_names}
use Rattle.meta_file_describe.proofs.DeclaredAgain.{unplaced_specific, unplaced, preset_again, anew}
use Rattle.meta_file_describe.proofs.Sayable.{values_in}

-- ---- what a layout has

-- a setting and its values have names, and its description needs no escape
pub record IsNamedSetting (s : PlacedSetting) : Type 0 where
  pub name : IsName s.name
  pub description : All IsPlainByte s.description
  pub values : All IsName (values_in s.specific)

-- a preset has a name, and its description needs no escape
pub record IsNamedPreset (p : BuiltPreset) : Type 0 where
  pub name : IsName p.name
  pub description : All IsPlainByte p.description

-- a group, its settings and its presets have names
pub record IsNamedLayout (g : Layout) : Type 0 where
  pub name : IsName g.name
  pub settings : All IsNamedSetting g.settings
  pub presets : All IsNamedPreset g.presets

-- ---- what passes a test, once more

module _ {X : Type 0} (p : X → Bool) where
  -- what passes a test passes it again
  passed_again : (xs : List X) → filter p (filter p xs) ≡ filter p xs
  passed_again [] = refl
  passed_again (x ∷ xs) =
      elim (p x) as (λ b. p x ≡ b → filter p (cond b (x ∷ filter p xs) (filter p xs)) ≡ cond b (x ∷ filter p xs) (filter p xs)) [
        | true ↦ λ t. ap (λ b. cond b (x ∷ filter p (filter p xs)) (filter p (filter p xs))) t ∙ ap (λ z. x ∷ z) (passed_again xs)
        | false ↦ λ f. passed_again xs
      ] refl

  -- nothing that passes the one test passes the other
  none_passes : (q : X → Bool) → ((x : X) → q x ≡ not (p x)) → (xs : List X) → filter q (filter p xs) ≡ []
  none_passes q other [] = refl
  none_passes q other (x ∷ xs) =
      elim (p x) as (λ b. p x ≡ b → filter q (cond b (x ∷ filter p xs) (filter p xs)) ≡ []) [
        | true ↦ λ t. ap (λ b. cond b (x ∷ filter q (filter p xs)) (filter q (filter p xs))) (other x ∙ ap not t)
            ∙ none_passes q other xs
        | false ↦ λ f. none_passes q other xs
      ] refl

  -- two tests in either order
  either_order : (q : X → Bool) (xs : List X) → filter p (filter q xs) ≡ filter q (filter p xs)
  either_order q [] = refl
  either_order q (x ∷ xs) = go (p x) (q x) refl refl (either_order q xs)
    where
      go : (b c : Bool) → p x ≡ b → q x ≡ c → filter p (filter q xs) ≡ filter q (filter p xs)
          → filter p (cond c (x ∷ filter q xs) (filter q xs)) ≡ filter q (cond b (x ∷ filter p xs) (filter p xs))
      go true true t u rest = ap (λ b. cond b (x ∷ filter p (filter q xs)) (filter p (filter q xs))) t ∙ ap (λ z. x ∷ z) rest
          ∙ sym (ap (λ b. cond b (x ∷ filter q (filter p xs)) (filter q (filter p xs))) u)
      go true false t u rest = rest ∙ sym (ap (λ b. cond b (x ∷ filter q (filter p xs)) (filter q (filter p xs))) u)
      go false true t u rest = ap (λ b. cond b (x ∷ filter p (filter q xs)) (filter p (filter q xs))) t ∙ rest
      go false false t u rest = rest

-- ---- numbers that each stand once

-- the numbers other than n
abbrev without : ℕ → List ℕ → List ℕ
without n ys = filter (λ m. not (eqb m n)) ys

-- a number is left out before or after the numbers are each kept once
firsts_without : (n : ℕ) (ys : List ℕ) → firsts (without n ys) ≡ without n (firsts ys)
firsts_without n [] = refl
firsts_without n (y ∷ ys) =
    elim (eqb y n) as (λ b. eqb y n ≡ b → firsts (cond (not b) (y ∷ without n ys) (without n ys))
    ≡ cond (not b) (y ∷ without n (without y (firsts ys))) (without n (without y (firsts ys)))) [
      | true ↦ λ t. firsts_without n ys ∙ sym (passed_again (λ m. not (eqb m n)) (firsts ys))
          ∙ ap (λ z. without n (without z (firsts ys))) (sym ((Decides-eqb y n).0 t))
      | false ↦ λ f. ap (λ z. y ∷ without y z) (firsts_without n ys)
          ∙ ap (λ z. y ∷ z) (either_order (λ m. not (eqb m y)) (λ m. not (eqb m n)) (firsts ys))
    ] refl

-- numbers that each stand once stay as they are
firsts_again : (xs : List ℕ) → firsts (firsts xs) ≡ firsts xs
firsts_again [] = refl
firsts_again (x ∷ xs) = ap (λ z. x ∷ without x z) (firsts_without x (firsts xs))
    ∙ ap (λ z. x ∷ z) (passed_again (λ m. not (eqb m x)) (firsts (firsts xs))) ∙ ap (λ z. x ∷ without x z) (firsts_again xs)

-- ---- presets in order

-- what each preset gets from what is so of its declaration and of the presets before it is so of all
module _ (P : BuiltPreset → Type 0) (Q : PresetDeclaration → Type 0)
    (one : (earlier : List BuiltPreset) (p : PresetDeclaration) → All P earlier → Q p → P (built_preset earlier p)) where
  so_after : (earlier : List BuiltPreset) (ps : List PresetDeclaration) → All P earlier → All Q ps → All P (presets_after earlier ps)
  so_after earlier [] before all = before
  so_after earlier (p ∷ ps) before all =
      so_after (earlier ++ built_preset earlier p ∷ []) ps
      (All-push P earlier (built_preset earlier p) before (one earlier p before (All-head Q p ps all))) (All-tail Q p ps all)

-- each boolean that the preset turns on stands once
abbrev IsOnce : BuiltPreset → Type 0
IsOnce p = firsts p.booleans ≡ p.booleans

-- so it is of each built preset
all_once : (ps : List PresetDeclaration) → All IsOnce (built_presets ps)
all_once ps = so_after IsOnce (λ p. Unit {0}) (λ earlier p before t. firsts_again (flat_map (meant_by earlier) p.args)) [] ps
    (All-nil IsOnce) (λ k d l. tt)

-- booleans that are named stand for themselves
meant_again : (earlier : List BuiltPreset) (bs : List ℕ) → flat_map (meant_by earlier) (map (λ b. BoolSetting b) bs) ≡ bs
meant_again earlier [] = refl
meant_again earlier (b ∷ bs) = ap (λ z. b ∷ z) (meant_again earlier bs)

one_preset_again : (earlier : List BuiltPreset) (p : BuiltPreset) → IsOnce p → built_preset earlier (preset_again p) ≡ p
one_preset_again earlier p once = λ i. record {
  name = p.name;
  description = p.description;
  booleans = (ap firsts (meant_again earlier p.booleans) ∙ once) i;
}

each_preset_again : (earlier ps : List BuiltPreset) → All IsOnce ps → presets_after earlier (map preset_again ps) ≡ earlier ++ ps
each_preset_again earlier [] once = sym (append-nil earlier)
each_preset_again earlier (p ∷ ps) once =
    ap (λ z. presets_after (earlier ++ z ∷ []) (map preset_again ps)) (one_preset_again earlier p (All-head IsOnce p ps once))
    ∙ each_preset_again (earlier ++ p ∷ []) ps (All-tail IsOnce p ps once) ∙ append_assoc earlier (p ∷ []) ps

-- ---- settings in their places

specific_again : (k : ℕ) (x : ProtoSpecificSetting) → unplaced_specific (placed_specific k x) ≡ x
specific_again k (proto.Bool default) = refl
specific_again k (proto.Enum values) = refl
specific_again k (proto.Num default) = refl

setting_again : (s : SettingDeclaration) (byte k : ℕ) → unplaced (placed_at s byte k) ≡ s
setting_again s byte k = λ i. record {
  name = s.name;
  description = s.description;
  comment = s.comment;
  specific = specific_again k s.specific i;
}

bytes_again : (byte : ℕ) (xs : List SettingDeclaration) → map unplaced (in_bytes byte xs) ≡ xs
bytes_again byte [] = refl
bytes_again byte (s ∷ ss) = λ i. setting_again s byte 0 i ∷ bytes_again (byte + 1) ss i

bits_again : (start k : ℕ) (xs : List SettingDeclaration) → map unplaced (in_bits start k xs) ≡ xs
bits_again start k [] = refl
bits_again start k (s ∷ ss) = λ i. setting_again s (start + k / 8) k i ∷ bits_again start (k + 1) ss i

is_not_other : (s : SettingDeclaration) → is_bool s ≡ not (has_own_byte s)
is_not_other s = elim (is_bool s) as (λ b. b ≡ not (not b)) [ true ↦ refl | false ↦ refl ]

module _ (d : GroupDeclaration) where
  -- the settings are declared anew in the order of the layout
  pub settings_again : (anew d).settings ≡ others_among d.settings ++ booleans_among d.settings
  settings_again = map-append unplaced (in_bytes 0 (others_among d.settings)) (in_bits (start_of d) 0 (booleans_among d.settings))
      ∙ (λ i. bytes_again 0 (others_among d.settings) i ++ bits_again (start_of d) 0 (booleans_among d.settings) i)

  pub others_again : others_among (anew d).settings ≡ others_among d.settings
  others_again = ap others_among settings_again ∙ filter-append has_own_byte (others_among d.settings) (booleans_among d.settings)
      ∙ (λ i. passed_again has_own_byte d.settings i ++ none_passes is_bool has_own_byte (λ s. refl) d.settings i)
      ∙ append-nil (others_among d.settings)

  pub booleans_again : booleans_among (anew d).settings ≡ booleans_among d.settings
  booleans_again = ap booleans_among settings_again ∙ filter-append is_bool (others_among d.settings) (booleans_among d.settings)
      ∙ (λ i. none_passes has_own_byte is_bool is_not_other d.settings i ++ passed_again is_bool d.settings i)

  -- the group is laid out as before
  pub built_again : IsValidGroup d → built_of (anew d) ≡ built_of d
  built_again valid =
      whole_group d (built_of (anew d)) refl
      (λ i. in_bytes 0 (others_again i) ++ in_bits (length (others_again i)) 0 (booleans_again i)) (ap length others_again)
      (λ i. length (others_again i) + (length (booleans_again i) + 7) / 8)
      (each_preset_again [] (built_presets d.presets) (all_once d.presets))

-- ---- what is so of what is declared

-- what is so of each setting is so of each that is declared anew
pub moved_again : (Q : SettingDeclaration → Type 0) (d : GroupDeclaration) → All Q d.settings → All Q (anew d).settings
moved_again Q d all = All-same Q (anew d).settings (others_among d.settings ++ booleans_among d.settings) (settings_again d)
    (All-append Q (others_among d.settings) (booleans_among d.settings) (All-filter has_own_byte Q d.settings all)
    (All-filter is_bool Q d.settings all))

-- and of each setting with its place
pub said_again : (Q : SettingDeclaration → Type 0) (d : GroupDeclaration) → All Q d.settings
    → All (λ (s : PlacedSetting). Q (unplaced s)) (built_of d).settings
said_again Q d all = everywhere (laid_out d)
    (λ k s at. at_place Q (anew d).settings k (unplaced s) (moved_again Q d all) (get_map unplaced (laid_out d) k s at))

-- what is so of each comment is so in the layout
pub comments_again : (P : List ℕ → Type 0) (d : GroupDeclaration) → All (λ (s : SettingDeclaration). P s.comment) d.settings
    → All (λ (s : PlacedSetting). P s.comment) (built_of d).settings
comments_again P d all = said_again (λ (s : SettingDeclaration). P s.comment) d all

-- ---- names in a layout

decided_plain : (c : ℕ) → Decided (IsPlainByte c)
decided_plain c = decided_like
    (λ h. record { least = h.0; most = h.1.0; no_quote = h.1.1.0; no_backslash = h.1.1.1 })
    (λ h. (h.least, (h.most, (h.no_quote, h.no_backslash))))
    (decided_both (decided_le 0x20 c)
    (decided_both (decided_le c 0x7e) (decided_both (decided_not (cases_eq c 34)) (decided_not (cases_eq c 92)))))

plain_so : (text : List ℕ) → ((All IsPlainByte text → ⊥) → ⊥) → All IsPlainByte text
plain_so text = so (decided_each IsPlainByte decided_plain text)

-- the values of a setting are those of its declaration
values_kept : (x : SpecificSetting) → All IsName (unwrap_or (values_of (unplaced_specific x)) []) → All IsName (values_in x)
values_kept (specific.Bool b) named = named
values_kept (specific.Enum values) named = named
values_kept (specific.Num default) named = named

-- the entry of a setting stands at its place
pub setting_at : (d : GroupDeclaration) (k : ℕ) (s : SettingDeclaration) → slice_get d.settings k ≡ Some s
    → slice_get (entries_of d) k ≡ Some (setting_entry s)
setting_at d k s at = get_stays (map setting_entry d.settings) (map preset_entry d.presets) k (setting_entry s)
    (get_map setting_entry d.settings k s at)

module _ (d : GroupDeclaration) (valid : IsValidGroup d) where
  group_named : IsName d.name
  group_named = name_so d.name (λ bad. valid 0 OfGroupName _ (refl, bad))

  pub well_named : (k : ℕ) (x : Entry) → slice_get (entries_of d) k ≡ Some x → IsWellNamed x
  well_named k x at = record {
    name = name_so x.name (λ bad. broken (λ w. bad w.name));
    description = plain_so x.description (λ bad. broken (λ w. bad w.description));
    enumerators = names_so (unwrap_or x.values []) (λ bad. broken (λ w. bad w.enumerators));
  }
    where
      broken : (IsWellNamed x → ⊥) → ⊥
      broken bad = valid 0 (OfEntry k EntryNameRule) _ (x, at, (refl, bad))

  pub settings_named : All (λ (s : SettingDeclaration). IsWellNamed (setting_entry s)) d.settings
  settings_named = everywhere d.settings (λ k s at. well_named k (setting_entry s) (setting_at d k s at))

  presets_named : All (λ (p : PresetDeclaration). IsWellNamed (preset_entry p)) d.presets
  presets_named = everywhere d.presets (λ k p at. well_named (length d.settings + k) (preset_entry p) (preset_at d valid k p at))

  -- the layout of a valid group has names
  pub names_again : IsNamedLayout (built_of d)
  names_again = record {
    name = group_named;
    settings = All-weaker (λ (s : PlacedSetting). IsWellNamed (setting_entry (unplaced s))) IsNamedSetting
        (λ s w. record { name = w.name; description = w.description; values = values_kept s.specific w.enumerators }) (laid_out d)
        (said_again (λ (s : SettingDeclaration). IsWellNamed (setting_entry s)) d settings_named);
    presets = so_after IsNamedPreset (λ (p : PresetDeclaration). IsWellNamed (preset_entry p))
        (λ earlier p before w. record { name = w.name; description = w.description }) [] d.presets (All-nil IsNamedPreset)
        presets_named;
  }

-- ---- booleans of a layout

module _ (d : GroupDeclaration) (valid : IsValidGroup d) where
  -- the name of a boolean stands among the names of all entries
  name_there : (i : ℕ) (a : PlacedSetting) → slice_get (booleans_in (built_of d)) i ≡ Some a
      → slice_get (map (λ (s : PlacedSetting). s.name) (laid_out d) ++ map (λ (p : BuiltPreset). p.name) (built_presets d.presets))
      (start_of d + i) ≡ Some a.name
  name_there i a at =
      get_stays (map (λ (s : PlacedSetting). s.name) (laid_out d)) (map (λ (p : BuiltPreset). p.name) (built_presets d.presets))
      (start_of d + i) a.name
      (get_map (λ (s : PlacedSetting). s.name) (laid_out d) (start_of d + i) a (sym (get_drop (laid_out d) (start_of d) i) ∙ at))

  -- no two booleans have one name
  pub booleans_named : (i j : ℕ) (a b : PlacedSetting) → slice_get (booleans_in (built_of d)) i ≡ Some a
      → slice_get (booleans_in (built_of d)) j ≡ Some b → a.name ≡ b.name → i ≡ j
  booleans_named i j a b at_i at_j same =
      let place : start_of d + i ≡ start_of d + j =
      built_names d valid (start_of d + i) (start_of d + j) b.name (name_there i a at_i ∙ ap Some same) (name_there j b at_j) in
      omega (arith, place)

  -- the layout has as many booleans as are declared
  pub booleans_counted : length (booleans_in (built_of d)) ≡ boolean_count d
  booleans_counted =
      let whole = length-append (in_bytes 0 (others_among d.settings)) (in_bits (start_of d) 0 (booleans_among d.settings)) in
      let start = start_length d valid in
      let bits = length-in_bits (start_of d) 0 (booleans_among d.settings) in
      let cut = length-drop (start_of d) (laid_out d) in
      omega (arith, whole, start, bits, cut)

-- ---- what presets turn on is there

module _ (n : ℕ) where
  -- the booleans are below the number
  abbrev AreBelow : List ℕ → Type 0
  AreBelow bs = All (λ b. b < n) bs

  -- the preset turns on booleans below the number
  abbrev TurnsOnBelow : BuiltPreset → Type 0
  TurnsOnBelow p = AreBelow p.booleans

  -- a name means a boolean below the number, or what another preset turns on
  abbrev NamesBelow : PresetType → Type 0
  NamesBelow (BoolSetting b) = b < n
  NamesBelow (OtherPreset q) = Unit {0}

  firsts_below : (xs : List ℕ) → AreBelow xs → AreBelow (firsts xs)
  firsts_below [] below = below
  firsts_below (x ∷ xs) below = All-cons (λ b. b < n) x (without x (firsts xs)) (All-head (λ b. b < n) x xs below)
      (All-filter (λ m. not (eqb m x)) (λ b. b < n) (firsts xs) (firsts_below xs (All-tail (λ b. b < n) x xs below)))

  meant_below : (earlier : List BuiltPreset) → All TurnsOnBelow earlier → (a : PresetType) → NamesBelow a → AreBelow (meant_by earlier a)
  meant_below earlier before (BoolSetting b) l = All-cons (λ b. b < n) b [] l (All-nil (λ b. b < n))
  meant_below earlier before (OtherPreset q) l = go (slice_get earlier q) (λ p at. at_place TurnsOnBelow earlier q p before at)
    where
      go : (o : Option BuiltPreset) → ((p : BuiltPreset) → o ≡ Some p → AreBelow p.booleans)
          → AreBelow (unwrap_or (option_map (λ (p : BuiltPreset). p.booleans) o) [])
      go None each = All-nil (λ b. b < n)
      go (Some p) each = each p refl

  all_meant_below : (earlier : List BuiltPreset) → All TurnsOnBelow earlier → (args : List PresetType) → All NamesBelow args
      → AreBelow (flat_map (meant_by earlier) args)
  all_meant_below earlier before [] named = All-nil (λ b. b < n)
  all_meant_below earlier before (a ∷ args) named =
      All-append (λ b. b < n) (meant_by earlier a) (flat_map (meant_by earlier) args)
      (meant_below earlier before a (All-head NamesBelow a args named))
      (all_meant_below earlier before args (All-tail NamesBelow a args named))

  turned_on_below : (ps : List PresetDeclaration) → All (λ (p : PresetDeclaration). All NamesBelow p.args) ps
      → All TurnsOnBelow (built_presets ps)
  turned_on_below ps named = so_after TurnsOnBelow (λ (p : PresetDeclaration). All NamesBelow p.args)
      (λ earlier p before met. firsts_below (flat_map (meant_by earlier) p.args) (all_meant_below earlier before p.args met)) [] ps
      (All-nil TurnsOnBelow) named

  -- a name that means something is of a boolean below the number, and this can be told
  decided_below : (a : PresetType) → Decided (NamesBelow a)
  decided_below (BoolSetting b) = decided_le (suc b) n
  decided_below (OtherPreset q) = inl tt

  met_below : (earlier : ℕ) (a : PresetType) → IsMet n earlier a → NamesBelow a
  met_below earlier (BoolSetting b) met = met
  met_below earlier (OtherPreset q) met = tt

module _ (d : GroupDeclaration) (valid : IsValidGroup d) where
  named_below : (k : ℕ) (p : PresetDeclaration) → slice_get d.presets k ≡ Some p → All (NamesBelow (boolean_count d)) p.args
  named_below k p at = so (decided_each (NamesBelow (boolean_count d)) (decided_below (boolean_count d)) p.args)
      (λ bad. valid 0 (OfEntry (length d.settings + k) PresetRule) _ (
        preset_entry p,
        preset_at d valid k p at,
        (refl, λ met. bad (λ i x l. met_below (boolean_count d) _ _ (met i x l))),
      ))

  pub presets_below : All (λ (p : BuiltPreset). All (λ b. b < boolean_count d) p.booleans) (built_of d).presets
  presets_below = turned_on_below (boolean_count d) d.presets (everywhere d.presets named_below)

  -- a preset turns on booleans of the group alone
  pub booleans_there : (k : ℕ) (p : BuiltPreset) → slice_get (built_of d).presets k ≡ Some p
      → All (λ b. b < length (booleans_in (built_of d))) p.booleans
  booleans_there k p at = subst (λ n. All (λ b. b < n) p.booleans) (sym (booleans_counted d valid))
      (at_place (TurnsOnBelow (boolean_count d)) (built_presets d.presets) k p presets_below at)
