-- The entries of a group that is built of a valid declaration have different names.
use Rattle.std.proofs.Common.{◌≡◌, ◌⊎◌, inl, inr, ⊎_elim, ℕ, ◌+◌, ◌<◌, zero, suc, Bool, true, false, not, cond, List, [], ◌∷◌, ◌++◌, length}
use Rattle.std.proofs.Common.{map, slice_get, Some, refl, sym, ap, ◌∙◌, subst, arith}
use Rattle.std.specs.Prelude.{filter}
use Rattle.std.proofs.lemmas.Bool.{cases_order}
use Rattle.std.proofs.lemmas.List.{map-append}
use Rattle.std.proofs.lemmas.Option.{slice_get_within, same_Some}
use Rattle.meta_lists.proofs.Places.{get_cases}
use Rattle.meta_lists.proofs.Mapped.{get_map, get_mapped}
use Rattle.meta_types.specs.SharedNames.{SharesName, AreDistinct, AreDifferentNames}
use Rattle.meta_settings.specs.GroupDeclaration.{SettingDeclaration, PresetDeclaration, GroupDeclaration, Entry, is_bool, has_own_byte}
use Rattle.meta_settings.specs.GroupDeclaration.{booleans_among, others_among, start_of, setting_entry, preset_entry, entries_of}
use Rattle.meta_settings.specs.GroupDeclaration.{names_of_entries}
use Rattle.meta_settings.specs.GroupFaults.{EntryDuplicateRule, OfEntry, IsValidGroup}
use Rattle.meta_settings.specs.Layout.{PlacedSetting, BuiltPreset}
use Rattle.meta_settings.specs.LaidOut.{in_bytes, in_bits, laid_out, built_of}
use Rattle.meta_settings.specs.TurnedOn.{built_preset, presets_after, built_presets}
use Rattle.meta_settings.proofs.Valid.{preset_at}
use Rattle.meta_setting_tables.specs.FoundSetting.{entry_names}
use Rattle.meta_types.proofs.SharedNames.{distinct_differ}
use Rattle.meta_setting_tables.proofs.Joining.{filter_from}
use Rattle.meta_setting_tables.proofs.BuiltGroups.{entry_setting, setting_from_declared, preset_from_declared}

-- ---- names that are apart

apart_tail : (n : List ℕ) (names : List (List ℕ)) → AreDifferentNames (n ∷ names) → AreDifferentNames names
apart_tail n names apart i j m e f = let same = apart (suc i) (suc j) m e f in omega (arith, same)

apart_filter : {X : Type 0} (name : X → List ℕ) (p : X → Bool) (xs : List X) → AreDifferentNames (map name xs)
    → AreDifferentNames (map name (filter p xs))
apart_filter name p [] apart = apart
apart_filter {X} name p (x ∷ xs) apart = go (p x) refl (apart_filter name p xs (apart_tail (name x) (map name xs) apart))
  where
    head : (j : ℕ) (m : List ℕ) → name x ≡ m → slice_get (map name (filter p xs)) j ≡ Some m → ⊥
    head j m own e =
        let y = get_mapped name (filter p xs) j m e in
        let f = filter_from p xs j y.0 y.1 in
        let same = apart 0 (suc f.0) m (ap Some own) (get_map name xs f.0 y.0 f.1 ∙ ap Some y.2) in omega (arith, same)

    both : AreDifferentNames (map name (filter p xs)) → AreDifferentNames (name x ∷ map name (filter p xs))
    both below zero zero m e f = refl
    both below zero (suc j) m e f = absurd (head j m (same_Some (name x) m e) f)
    both below (suc i) zero m e f = absurd (head i m (same_Some (name x) m f) e)
    both below (suc i) (suc j) m e f = ap suc (below i j m e f)

    go : (b : Bool) → p x ≡ b → AreDifferentNames (map name (filter p xs))
        → AreDifferentNames (map name (cond b (x ∷ filter p xs) (filter p xs)))
    go true t below = both below
    go false t below = below

apart_append : (xs ys : List (List ℕ)) → AreDifferentNames xs → AreDifferentNames ys
    → ((i j : ℕ) (n : List ℕ) → slice_get xs i ≡ Some n → slice_get ys j ≡ Some n → ⊥) → AreDifferentNames (xs ++ ys)
apart_append xs ys first second across i j n e f = go (get_cases xs ys i n e) (get_cases xs ys j n f)
  where
    go : ((slice_get xs i ≡ Some n) ⊎ ((k : ℕ) × (i ≡ length xs + k) × (slice_get ys k ≡ Some n)))
        → ((slice_get xs j ≡ Some n) ⊎ ((k : ℕ) × (j ≡ length xs + k) × (slice_get ys k ≡ Some n))) → i ≡ j
    go (inl a) (inl b) = first i j n a b
    go (inl a) (inr b) = absurd (across i b.0 n a b.2)
    go (inr a) (inl b) = absurd (across j a.0 n b a.2)
    go (inr a) (inr b) = let same = second a.0 b.0 n a.2 b.2 in let x = a.1 in let y = b.1 in omega (arith, same, x, y)

-- of distinct names no two are shared
module _ (names : List (List ℕ)) (distinct : AreDistinct names) where
  none_earlier : (n j k : ℕ) (a b : List ℕ) → j < n → j < k → slice_get names j ≡ Some a → slice_get names k ≡ Some b → SharesName a b → ⊥
  none_earlier zero j k a b l before at_j at_k shares = omega arith
  none_earlier (suc n) j k a b l before at_j at_k shares = distinct k j (record {
    name = b;
    earlier = a;
    is_name = at_k;
    is_earlier = at_j;
    before = before;
    shares = shares;
    first = λ i other less there s. none_earlier n i k other b (omega arith) (omega arith) there at_k s;
  })

  two_apart : (j k : ℕ) (a b : List ℕ) → slice_get names j ≡ Some a → slice_get names k ≡ Some b → SharesName a b → j ≡ k
  two_apart j k a b at_j at_k shares = elim (cases_order j k) [
    | inl same ↦ same
    | inr other ↦ elim other [
      | inl before ↦ absurd (none_earlier (suc j) j k a b (omega arith) before at_j at_k shares)
      | inr after ↦ absurd (none_earlier (suc k) k j b a (omega arith) after at_k at_j (turned shares))
    ]
  ]
    where
      turned : SharesName a b → SharesName b a
      turned (inl e) = inl (sym e)
      turned (inr e) = inr (sym e)

-- ---- names of what is declared

module _ (d : GroupDeclaration) (valid : IsValidGroup d) where
  declared_distinct : AreDistinct (names_of_entries d)
  declared_distinct k j shared =
      let entry = get_mapped (λ (x : Entry). x.name) (entries_of d) k shared.name shared.is_name in
      valid 0 (OfEntry k EntryDuplicateRule) _ (entry.0, entry.1, (j, refl, shared))

  declared_apart : AreDifferentNames (names_of_entries d)
  declared_apart = distinct_differ (names_of_entries d) declared_distinct

  setting_named : (k : ℕ) (s : SettingDeclaration) → slice_get d.settings k ≡ Some s → slice_get (names_of_entries d) k ≡ Some s.name
  setting_named k s e = get_map (λ (x : Entry). x.name) (entries_of d) k (setting_entry s) (entry_setting d valid k s e)

  preset_named : (k : ℕ) (p : PresetDeclaration) → slice_get d.presets k ≡ Some p
      → slice_get (names_of_entries d) (length d.settings + k) ≡ Some p.name
  preset_named k p e = get_map (λ (x : Entry). x.name) (entries_of d) (length d.settings + k) (preset_entry p) (preset_at d valid k p e)

  -- the name of a built entry is that of a declared one
  declared_name : (e : ℕ) (n : List ℕ) → slice_get (entry_names (built_of d)) e ≡ Some n
      → (k : ℕ) × (slice_get (names_of_entries d) k ≡ Some n)
  declared_name e n at =
      go (get_cases (map (λ (s : PlacedSetting). s.name) (laid_out d)) (map (λ (p : BuiltPreset). p.name) (built_presets d.presets)) e n at)
    where
      go : (slice_get (map (λ (s : PlacedSetting). s.name) (laid_out d)) e ≡ Some n)
          ⊎ ((j : ℕ) × (e ≡ length (map (λ (s : PlacedSetting). s.name) (laid_out d)) + j)
          × (slice_get (map (λ (p : BuiltPreset). p.name) (built_presets d.presets)) j ≡ Some n))
          → (k : ℕ) × (slice_get (names_of_entries d) k ≡ Some n)
      go (inl own) =
          let s = get_mapped (λ (s : PlacedSetting). s.name) (laid_out d) e n own in
          let f = setting_from_declared d e s.0 s.1 in
          (f.place, setting_named f.place f.declared f.there ∙ ap Some (sym (ap (λ (s : PlacedSetting). s.name) f.is) ∙ s.2))
      go (inr other) =
          let p = get_mapped (λ (p : BuiltPreset). p.name) (built_presets d.presets) other.0 n other.2 in
          let f = preset_from_declared d.presets other.0 p.0 p.1 in
          (length d.settings + f.place, preset_named f.place f.declared f.there ∙ ap Some (sym f.name ∙ p.2))

  settings_apart : AreDifferentNames (map (λ (s : SettingDeclaration). s.name) d.settings)
  settings_apart i j n e f =
      let x = get_mapped (λ (s : SettingDeclaration). s.name) d.settings i n e in
      let y = get_mapped (λ (s : SettingDeclaration). s.name) d.settings j n f in
      declared_apart i j n (setting_named i x.0 x.1 ∙ ap Some x.2) (setting_named j y.0 y.1 ∙ ap Some y.2)

  presets_apart : AreDifferentNames (map (λ (p : PresetDeclaration). p.name) d.presets)
  presets_apart i j n e f =
      let x = get_mapped (λ (p : PresetDeclaration). p.name) d.presets i n e in
      let y = get_mapped (λ (p : PresetDeclaration). p.name) d.presets j n f in
      let same = declared_apart (length d.settings + i) (length d.settings + j) n (preset_named i x.0 x.1
      ∙ ap Some x.2) (preset_named j y.0 y.1 ∙ ap Some y.2) in omega (arith, same)

  -- a setting by its name among those that pass a test
  setting_from : (p : SettingDeclaration → Bool) (i : ℕ) (n : List ℕ)
      → slice_get (map (λ (s : SettingDeclaration). s.name) (filter p d.settings)) i ≡ Some n
      → (k : ℕ) × ((s : SettingDeclaration) × (slice_get d.settings k ≡ Some s) × (p s ≡ true) × (s.name ≡ n))
  setting_from p i n e =
      let x = get_mapped (λ (s : SettingDeclaration). s.name) (filter p d.settings) i n e in
      let f = filter_from p d.settings i x.0 x.1 in (f.0, (x.0, f.1, f.2, x.2))

  kinds_apart : (i j : ℕ) (n : List ℕ) → slice_get (map (λ (s : SettingDeclaration). s.name) (others_among d.settings)) i ≡ Some n
      → slice_get (map (λ (s : SettingDeclaration). s.name) (booleans_among d.settings)) j ≡ Some n → ⊥
  kinds_apart i j n e f =
      let x = setting_from has_own_byte i n e in
      let y = setting_from is_bool j n f in
      let same = declared_apart x.0 y.0 n (setting_named x.0 x.1.0 x.1.1 ∙ ap Some x.1.3) (setting_named y.0 y.1.0 y.1.1 ∙ ap Some y.1.3) in
      let one : x.1.0 ≡ y.1.0 = same_Some x.1.0 y.1.0 (sym x.1.1 ∙ ap (slice_get d.settings) same ∙ y.1.1) in
      let bad : not true ≡ true = ap not (sym (ap is_bool one ∙ y.1.2)) ∙ x.1.2 in (cc)

  preset_apart : (p : SettingDeclaration → Bool) (i j : ℕ) (n : List ℕ)
      → slice_get (map (λ (s : SettingDeclaration). s.name) (filter p d.settings)) i ≡ Some n
      → slice_get (map (λ (p : PresetDeclaration). p.name) d.presets) j ≡ Some n → ⊥
  preset_apart p i j n e f =
      let x = setting_from p i n e in
      let y = get_mapped (λ (p : PresetDeclaration). p.name) d.presets j n f in
      let same = declared_apart x.0 (length d.settings + j) n (setting_named x.0 x.1.0 x.1.1 ∙ ap Some x.1.3) (preset_named j y.0 y.1
      ∙ ap Some y.2) in
      let l = slice_get_within d.settings x.0 x.1.0 x.1.1 in omega (arith, same, l)

-- ---- the same names in the order of the layout

names_in_bytes : (byte : ℕ) (settings : List SettingDeclaration)
    → map (λ (s : PlacedSetting). s.name) (in_bytes byte settings) ≡ map (λ (s : SettingDeclaration). s.name) settings
names_in_bytes byte [] = refl
names_in_bytes byte (s ∷ settings) = ap (λ w. s.name ∷ w) (names_in_bytes (byte + 1) settings)

names_in_bits : (start k : ℕ) (settings : List SettingDeclaration)
    → map (λ (s : PlacedSetting). s.name) (in_bits start k settings) ≡ map (λ (s : SettingDeclaration). s.name) settings
names_in_bits start k [] = refl
names_in_bits start k (s ∷ settings) = ap (λ w. s.name ∷ w) (names_in_bits start (k + 1) settings)

names_after : (earlier : List BuiltPreset) (presets : List PresetDeclaration)
    → map (λ (p : BuiltPreset). p.name) (presets_after earlier presets) ≡ map (λ (p : BuiltPreset). p.name) earlier
    ++ map (λ (p : PresetDeclaration). p.name) presets
names_after earlier [] = sym (nothing_after (map (λ (p : BuiltPreset). p.name) earlier))
  where
    nothing_after : (xs : List (List ℕ)) → xs ++ [] ≡ xs
    nothing_after [] = refl
    nothing_after (x ∷ xs) = ap (λ w. x ∷ w) (nothing_after xs)
names_after earlier (p ∷ presets) =
    names_after (earlier ++ built_preset earlier p ∷ []) presets
    ∙ ap (λ w. w ++ map (λ (p : PresetDeclaration). p.name) presets)
    (map-append (λ (p : BuiltPreset). p.name) earlier (built_preset earlier p ∷ []))
    ∙ regroup (map (λ (p : BuiltPreset). p.name) earlier) p.name (map (λ (p : PresetDeclaration). p.name) presets)
  where
    regroup : (xs : List (List ℕ)) (y : List ℕ) (zs : List (List ℕ)) → (xs ++ y ∷ []) ++ zs ≡ xs ++ y ∷ zs
    regroup [] y zs = refl
    regroup (x ∷ xs) y zs = ap (λ w. x ∷ w) (regroup xs y zs)

pub built_names : (d : GroupDeclaration) → IsValidGroup d → AreDifferentNames (entry_names (built_of d))
built_names d valid =
    let others = map (λ (s : SettingDeclaration). s.name) (others_among d.settings) in
    let booleans = map (λ (s : SettingDeclaration). s.name) (booleans_among d.settings) in
    let presets = map (λ (p : PresetDeclaration). p.name) d.presets in
    let settings : map (λ (s : PlacedSetting). s.name) (laid_out d) ≡ others ++ booleans =
    map-append (λ (s : PlacedSetting). s.name) (in_bytes 0 (others_among d.settings)) (in_bits (start_of d) 0 (booleans_among d.settings))
    ∙ ap (λ w. w ++ map (λ (s : PlacedSetting). s.name) (in_bits (start_of d) 0 (booleans_among d.settings)))
    (names_in_bytes 0 (others_among d.settings)) ∙ ap (λ w. others ++ w) (names_in_bits (start_of d) 0 (booleans_among d.settings)) in
    let all : entry_names (built_of d) ≡ (others ++ booleans) ++ presets =
    ap (λ w. w ++ map (λ (p : BuiltPreset). p.name) (built_presets d.presets)) settings
    ∙ ap (λ w. (others ++ booleans) ++ w) (names_after [] d.presets) in
    let kinds = apart_append others booleans (apart_filter (λ (s : SettingDeclaration). s.name) has_own_byte d.settings
    (settings_apart d valid)) (apart_filter (λ (s : SettingDeclaration). s.name) is_bool d.settings (settings_apart d valid))
    (kinds_apart d valid) in
    subst AreDifferentNames (sym all) (apart_append (others ++ booleans) presets kinds (presets_apart d valid) (λ i j n e f. ⊎_elim
    (λ own. preset_apart d valid has_own_byte i j n own f)
    (λ other. preset_apart d valid is_bool other.0 j n other.2 f)
    (get_cases others booleans i n e)))

pub built_distinct : (d : GroupDeclaration) → IsValidGroup d → AreDistinct (entry_names (built_of d))
built_distinct d valid k j shared =
    let m = declared_name d valid j shared.earlier shared.is_earlier in
    let n = declared_name d valid k shared.name shared.is_name in
    let before = shared.before in
    let one : m.0 ≡ n.0 =
    two_apart (names_of_entries d) (declared_distinct d valid) m.0 n.0 shared.earlier shared.name m.1 n.1 shared.shares in
    let same : shared.earlier ≡ shared.name = same_Some shared.earlier shared.name (sym m.1 ∙ ap (slice_get (names_of_entries d)) one
    ∙ n.1) in
    let place : j ≡ k = built_names d valid j k shared.name (shared.is_earlier ∙ ap Some same) shared.is_name in
    omega (arith, before, place)
