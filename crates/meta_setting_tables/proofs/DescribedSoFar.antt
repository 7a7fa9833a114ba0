-- The descriptors of a group's entries, one after another.
use Rattle.std.proofs.Common.{◌≡◌, ◌⊎◌, inl, inr, ℕ, ◌+◌, ◌-◌, ◌*◌, ◌<◌, ◌≤◌, List, [], ◌∷◌, ◌++◌, length, take, drop, map, slice_get, Some}
use Rattle.std.proofs.Common.{refl, sym, ap, ◌∙◌, subst, arith}
use Rattle.std.proofs.lemmas.List.{take_all, length-map, length-take-le, length-take, length-drop, drop-take, take-take, map-append}
use Rattle.std.proofs.lemmas.Bool.{cases_lt}
use Rattle.std.proofs.lemmas.List.Sums.{fold-append}
use Rattle.std.proofs.lemmas.Option.{slice_get_within, same_Some}
use Rattle.meta_lists.proofs.Places.{get_left, take_next}
use Rattle.meta_lists.proofs.Pushed.{get_pushed, get_end}
use Rattle.meta_settings.specs.declared.setting.SpecificSetting.{SpecificSetting}
use Rattle.meta_settings.specs.declared.setting.SpecificSetting.TheVariants.{Bool as ABool, Enum as AnEnum, Num as ANum}
use Rattle.meta_settings.specs.Layout.{PlacedSetting, BuiltPreset}
use Rattle.meta_setting_tables.specs.declared.descriptor.Detail.{Detail}
use Rattle.meta_setting_tables.specs.declared.descriptor.Descriptor.{Descriptor}
use Rattle.meta_setting_tables.specs.Descriptor.{IsDetailOf, DescribesSetting, setting_descriptor, preset_descriptor}
use Rattle.meta_setting_tables.specs.EnumeratorList.{enumerators_of, built_values_of, with_values, StandAt, HasGrown}
use Rattle.meta_setting_tables.specs.GroupTables.{names_in}

-- as many descriptors as things, by their names
as_many : {X : Type 0} (name : X → List ℕ) (xs : List X) (k : ℕ) (ds : List Descriptor) → k ≤ length xs
    → names_in ds ≡ map name (take k xs) → length ds ≡ k
as_many name xs k ds l e = sym (length-map ds (λ (d : Descriptor). d.name)) ∙ ap length e ∙ length-map (take k xs) name
    ∙ length-take-le k xs l

names_next : {X : Type 0} (name : X → List ℕ) (xs : List X) (k : ℕ) (x : X) (d : Descriptor) (old new : List Descriptor)
    → slice_get xs k ≡ Some x → d.name ≡ name x → new ≡ old ++ d ∷ [] → names_in old ≡ map name (take k xs)
    → names_in new ≡ map name (take (k + 1) xs)
names_next name xs k x d old new at own more so =
    ap names_in more ∙ map-append (λ (d : Descriptor). d.name) old (d ∷ []) ∙ ap (λ w. w ++ d.name ∷ []) so
    ∙ ap (λ w. map name (take k xs) ++ w ∷ []) own
    ∙ sym (ap (map name) (take_next xs k x at) ∙ map-append name (take k xs) (x ∷ []))

-- ---- presets

pub record PresetsTo (presets : List BuiltPreset) (size k : ℕ) (ds : List Descriptor) : Type 0 where
  pub names : names_in ds ≡ map (λ (p : BuiltPreset). p.name) (take k presets)
  pub described : (j : ℕ) (p : BuiltPreset) → j < k → slice_get presets j ≡ Some p → slice_get ds j ≡ Some (preset_descriptor size j p)

pub presets_next : (presets : List BuiltPreset) (size k : ℕ) (p : BuiltPreset) (d : Descriptor) (old new : List Descriptor)
    → slice_get presets k ≡ Some p → d ≡ preset_descriptor size k p → new ≡ old ++ d ∷ [] → PresetsTo presets size k old
    → PresetsTo presets size (k + 1) new
presets_next presets size k p d old new at own more so =
    let long = as_many (λ (p : BuiltPreset). p.name) presets k old (let l = slice_get_within presets k p at in omega (arith, l)) so.names in
    record {
      names = names_next (λ (p : BuiltPreset). p.name) presets k p d old new at (ap (λ (d : Descriptor). d.name) own) more so.names;
      described = λ j q l at'. place j q l at' (cases_lt j k) long;
    }
  where
    place : (j : ℕ) (q : BuiltPreset) → j < k + 1 → slice_get presets j ≡ Some q → (j < k) ⊎ (k ≤ j) → length old ≡ k
        → slice_get new j ≡ Some (preset_descriptor size j q)
    place j q l at' (inl before) long = ap (λ w. slice_get w j) more ∙ get_left old (d ∷ []) j (omega (arith, before, long))
        ∙ so.described j q before at'
    place j q l at' (inr after) long =
        let here : j ≡ k = omega arith in
        let one : p ≡ q = same_Some p q (sym at ∙ ap (slice_get presets) (sym here) ∙ at') in
        ap (λ w. slice_get w j) more ∙ ap (slice_get (old ++ d ∷ [])) (here ∙ sym long) ∙ get_end old d
        ∙ ap Some (own ∙ ap (λ (r : BuiltPreset). preset_descriptor size k r) one ∙ ap (λ n. preset_descriptor size n q) (sym here))

-- ---- settings

stand_kept : (old new values : List (List ℕ)) (place : ℕ) → take (length old) new ≡ old → StandAt old values place
    → StandAt new values place
stand_kept old new [] place kept s = record { values_are = refl }
stand_kept old new (x ∷ values) place kept s =
    let n : ℕ = length (x ∷ values) in
    let room : ℕ = length old - place in
    let long = ap length s.values_are in
    let cut = length-take n (drop place old) in
    let rest = length-drop place old in
    let inside : place + n ≤ length old = omega (arith, long, cut, rest) in
    let e : drop place old ≡ take room (drop place new) = ap (drop place) (sym kept) ∙ ap (λ m. drop place (take m new)) (omega arith)
    ∙ drop-take place room new in
    record { values_are = sym (ap (take n) e ∙ take-take n room (drop place new) (omega arith)) ∙ s.values_are }

detail_kept : (old new : List (List ℕ)) (before : List PlacedSetting) (s : PlacedSetting) (d : Descriptor) → take (length old) new ≡ old
    → DescribesSetting old before s d → DescribesSetting new before s d
detail_kept old new before s d kept h = record {
  name = h.name;
  description = h.description;
  offset = h.offset;
  detail = of s.specific h.detail;
}
  where
    of : (x : SpecificSetting) → IsDetailOf old before x d.detail → IsDetailOf new before x d.detail
    of (ABool b) e = e
    of (AnEnum values) e = record {
      last = e.last;
      place = e.place;
      is = e.is;
      count = e.count;
      place_is = e.place_is;
      stand = stand_kept old new values e.place kept e.stand;
    }
    of (ANum default) e = e

pub enumerators_next : (settings : List PlacedSetting) (k : ℕ) (s : PlacedSetting) (old new : List (List ℕ))
    → slice_get settings k ≡ Some s → old ≡ enumerators_of (take k settings) → new ≡ with_values old (built_values_of s.specific)
    → new ≡ enumerators_of (take (k + 1) settings)
enumerators_next settings k s old new at so more =
    more ∙ ap (λ w. with_values w (built_values_of s.specific)) so
    ∙ sym (ap enumerators_of (take_next settings k s at)
    ∙ fold-append (λ enumerators (s : PlacedSetting). with_values enumerators (built_values_of s.specific)) [] (take k settings) (s ∷ []))

pub record SettingsTo (settings : List PlacedSetting) (k : ℕ) (enumerators : List (List ℕ)) (ds : List Descriptor) : Type 0 where
  pub names : names_in ds ≡ map (λ (s : PlacedSetting). s.name) (take k settings)
  pub enumerators_are : enumerators ≡ enumerators_of (take k settings)
  pub most : k ≤ 255 → length enumerators ≤ 256 * k
  pub described : (j : ℕ) (s : PlacedSetting) (d : Descriptor) → j < k → slice_get settings j ≡ Some s → slice_get ds j ≡ Some d
      → DescribesSetting enumerators (take j settings) s d

pub settings_next : (settings : List PlacedSetting) (k : ℕ) (s : PlacedSetting) (detail : Detail) (d : Descriptor)
    (before after : List (List ℕ)) (old new : List Descriptor) → slice_get settings k ≡ Some s
    → IsDetailOf after (take k settings) s.specific detail → after ≡ with_values before (built_values_of s.specific) → HasGrown before after
    → d ≡ setting_descriptor s detail → new ≡ old ++ d ∷ [] → SettingsTo settings k before old → SettingsTo settings (k + 1) after new
settings_next settings k s detail d before after old new at is made grown own more so =
    let long = as_many (λ (s : PlacedSetting). s.name) settings k old (let l = slice_get_within settings k s at
    in omega (arith, l)) so.names in
    record {
      names = names_next (λ (s : PlacedSetting). s.name) settings k s d old new at (ap (λ (d : Descriptor). d.name) own) more so.names;
      enumerators_are = enumerators_next settings k s before after at so.enumerators_are made;
      most = λ l. let m = so.most (omega arith) in let g = grown.most in omega (arith, m, g);
      described = λ j t e l at' there. place j t e l at' there long (get_pushed old d j e (sym (ap (λ w. slice_get w j) more) ∙ there));
    }
  where
    place : (j : ℕ) (t : PlacedSetting) (e : Descriptor) → j < k + 1 → slice_get settings j ≡ Some t → slice_get new j ≡ Some e
        → length old ≡ k → (slice_get old j ≡ Some e) ⊎ ((j ≡ length old) × (d ≡ e)) → DescribesSetting after (take j settings) t e
    place j t e l at' there long (inl was) =
        let inside = slice_get_within old j e was in
        detail_kept before after (take j settings) t e grown.kept (so.described j t e (omega (arith, inside, long)) at' was)
    place j t e l at' there long (inr new_one) =
        let here : j ≡ k = new_one.0 ∙ long in
        let one : s ≡ t = same_Some s t (sym at ∙ ap (slice_get settings) (sym here) ∙ at') in
        let mine : DescribesSetting after (take k settings) s d = record {
          name = ap (λ (d : Descriptor). d.name) own;
          description = ap (λ (d : Descriptor). d.description) own;
          offset = ap (λ (d : Descriptor). d.offset) own;
          detail = subst (IsDetailOf after (take k settings) s.specific) (sym (ap (λ (d : Descriptor). d.detail) own)) is;
        } in
        subst (λ n. DescribesSetting after (take n settings) t e) (sym here)
        (subst (λ (x : PlacedSetting). DescribesSetting after (take k settings) x e) one
        (subst (DescribesSetting after (take k settings) s) new_one.1 mine))

-- ---- all of them

pub presets_done : (presets : List BuiltPreset) (size k : ℕ) (ds : List Descriptor) → length presets ≤ k → PresetsTo presets size k ds
    → (names_in ds ≡ map (λ (p : BuiltPreset). p.name) presets) × ((j : ℕ) (p : BuiltPreset) → slice_get presets j ≡ Some p
    → slice_get ds j ≡ Some (preset_descriptor size j p))
presets_done presets size k ds past so = (
  so.names ∙ ap (map (λ (p : BuiltPreset). p.name)) (take_all k presets past),
  λ j p at. so.described j p (let l = slice_get_within presets j p at in omega (arith, l, past)) at,
)

pub settings_done : (settings : List PlacedSetting) (k : ℕ) (enumerators : List (List ℕ)) (ds : List Descriptor) → length settings ≤ k
    → SettingsTo settings k enumerators ds
    → (names_in ds ≡ map (λ (s : PlacedSetting). s.name) settings) × (enumerators ≡ enumerators_of settings)
    × ((j : ℕ) (s : PlacedSetting) (d : Descriptor) → slice_get settings j ≡ Some s → slice_get ds j ≡ Some d
    → DescribesSetting enumerators (take j settings) s d)
settings_done settings k enumerators ds past so = (
  so.names ∙ ap (map (λ (s : PlacedSetting). s.name)) (take_all k settings past),
  so.enumerators_are
      ∙ ap enumerators_of (take_all k settings past),
  λ j s d at there. so.described j s d (let l = slice_get_within settings j s at
      in omega (arith, l, past)) at there,
)
