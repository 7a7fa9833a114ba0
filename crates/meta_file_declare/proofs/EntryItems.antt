-- The items that are entries of a group, and the entries that they are.
use Rattle.std.proofs.Common.{◌≡◌, ℕ, zero, suc, ◌+◌, Bool, true, false, cond, List, [], ◌∷◌, ◌++◌, Option, Some, None, length, map, take}
use Rattle.std.proofs.Common.{slice_get, refl, sym, ap, ◌∙◌, subst, ⊎_elim, arith}
use Rattle.std.specs.Prelude.{option_map}
use Rattle.std.specs.List.{count_by, filter_map, cons_option}
use Rattle.std.proofs.lemmas.List.{append_assoc, append-nil, length-map}
use Rattle.meta_lists.proofs.Places.{get_stays, get_right, get_cases}
use Rattle.meta_lists.proofs.Mapped.{get_mapped}
use Rattle.meta_file_syntax.specs.declared.name.Name.{Name}
use Rattle.meta_file_syntax.specs.declared.items.PresetItem.{PresetItem}
use Rattle.meta_file_syntax.specs.declared.items.Item.{Item}
use Rattle.meta_file_syntax.specs.declared.items.Item.TheVariants as item
use Rattle.meta_settings.specs.GroupDeclaration.{SettingDeclaration, PresetDeclaration, GroupDeclaration, Entry, setting_entry}
use Rattle.meta_settings.specs.GroupDeclaration.{preset_entry}
use Rattle.meta_settings.specs.GroupDeclaration.{entries_of}
use Rattle.meta_file_declare.specs.Named.{Known, known_below}
use Rattle.meta_file_declare.specs.Places.{is_setting, is_preset, places_from, places_of, entry_places}
use Rattle.meta_file_declare.specs.Said.{setting_of, preset_of, preset_by, presets_below, group_with}
use Rattle.meta_file_declare.specs.Entries.{entry_below, number_below}
use Rattle.meta_file_declare.proofs.NthPlaces.{nth_is}

-- ---- settings

no_setting : (i : Item) → setting_of i ≡ None → is_setting i ≡ false
no_setting (item.Group n) e = refl
no_setting (item.Type i) e = refl
no_setting (item.Alias i) e = refl
no_setting (item.Kind i) e = refl
no_setting (item.Format i) e = refl
no_setting (item.Inst i) e = refl
no_setting (item.Bool i) e = absurd (cc)
no_setting (item.Num i) e = absurd (cc)
no_setting (item.Enum i) e = absurd (cc)
no_setting (item.Preset i) e = refl

a_setting : (i : Item) (d : SettingDeclaration) → setting_of i ≡ Some d → is_setting i ≡ true
a_setting (item.Group n) d e = absurd (cc)
a_setting (item.Type i) d e = absurd (cc)
a_setting (item.Alias i) d e = absurd (cc)
a_setting (item.Kind i) d e = absurd (cc)
a_setting (item.Format i) d e = absurd (cc)
a_setting (item.Inst i) d e = absurd (cc)
a_setting (item.Bool i) d e = refl
a_setting (item.Num i) d e = refl
a_setting (item.Enum i) d e = refl
a_setting (item.Preset i) d e = absurd (cc)

-- the places of settings, where the first item stands at place s
setting_places : (s : ℕ) (i : Item) (items : List Item) (b : Bool) → is_setting i ≡ b
    → places_from is_setting s (i ∷ items) ≡ cond b (s ∷ places_from is_setting (s + 1) items) (places_from is_setting (s + 1) items)
setting_places s i items b e =
    ap (λ (c : Bool). cond c (s ∷ places_from is_setting (s + 1) items) (places_from is_setting (s + 1) items)) e

-- the n-th setting is declared by an item
record IsSetFrom (s : ℕ) (items : List Item) (n : ℕ) (d : SettingDeclaration) : Type 0 where
  pub after : ℕ
  pub item : Item
  pub place : slice_get (places_from is_setting s items) n ≡ Some (s + after)
  pub at : slice_get items after ≡ Some item
  pub says : setting_of item ≡ Some d

set_later : (s : ℕ) (i : Item) (items : List Item) (n m : ℕ) (d : SettingDeclaration) → IsSetFrom (s + 1) items n d
    → slice_get (places_from is_setting s (i ∷ items)) m ≡ slice_get (places_from is_setting (s + 1) items) n → IsSetFrom s (i ∷ items) m d
set_later s i items n m d h same =
    let next : (s + 1) + h.after ≡ s + suc h.after = omega arith in
    record {
      after = suc h.after;
      item = h.item;
      place = same ∙ h.place ∙ ap (λ (k : ℕ). Some k) next;
      at = h.at;
      says = h.says;
    }

set_step : (s : ℕ) (i : Item) (items : List Item) (d : SettingDeclaration) (o : Option SettingDeclaration) (n : ℕ) → setting_of i ≡ o
    → ((m : ℕ) → slice_get (filter_map setting_of items) m ≡ Some d → IsSetFrom (s + 1) items m d)
    → slice_get (cons_option o (filter_map setting_of items)) n ≡ Some d → IsSetFrom s (i ∷ items) n d
set_step s i items d None n e rest h =
    set_later s i items n n d (rest n h) (ap (λ (ks : List ℕ). slice_get ks n) (setting_places s i items false (no_setting i e)))
set_step s i items d (Some x) zero e rest h =
    let here : s ≡ s + 0 = omega arith in
    record {
      after = 0;
      item = i;
      place = ap (λ (ks : List ℕ). slice_get ks 0) (setting_places s i items true (a_setting i x e)) ∙ ap (λ (k : ℕ). Some k) here;
      at = refl;
      says = e ∙ h;
    }
set_step s i items d (Some x) (suc m) e rest h =
    set_later s i items m (suc m) d (rest m h)
    (ap (λ (ks : List ℕ). slice_get ks (suc m)) (setting_places s i items true (a_setting i x e)))

set_from : (s : ℕ) (items : List Item) (n : ℕ) (d : SettingDeclaration) → slice_get (filter_map setting_of items) n ≡ Some d
    → IsSetFrom s items n d
set_from s [] n d h = absurd (cc)
set_from s (i ∷ items) n d h = set_step s i items d (setting_of i) n refl (λ m g. set_from (s + 1) items m d g) h

-- there is a place for each setting
count_step : (s : ℕ) (i : Item) (items : List Item) (o : Option SettingDeclaration) → setting_of i ≡ o
    → length (places_from is_setting (s + 1) items) ≡ length (filter_map setting_of items)
    → length (places_from is_setting s (i ∷ items)) ≡ length (cons_option o (filter_map setting_of items))
count_step s i items None e rest = ap (λ (ks : List ℕ). length ks) (setting_places s i items false (no_setting i e)) ∙ rest
count_step s i items (Some x) e rest =
    ap (λ (ks : List ℕ). length ks) (setting_places s i items true (a_setting i x e)) ∙ ap (λ (n : ℕ). suc n) rest

settings_count : (s : ℕ) (items : List Item) → length (places_from is_setting s items) ≡ length (filter_map setting_of items)
settings_count s [] = refl
settings_count s (i ∷ items) = count_step s i items (setting_of i) refl (settings_count (s + 1) items)

-- ---- presets

preset_named : (i : Item) → is_preset i ≡ true → (p : PresetItem) × (i ≡ item.Preset p)
preset_named (item.Group n) e = absurd (cc)
preset_named (item.Type i) e = absurd (cc)
preset_named (item.Alias i) e = absurd (cc)
preset_named (item.Kind i) e = absurd (cc)
preset_named (item.Format i) e = absurd (cc)
preset_named (item.Inst i) e = absurd (cc)
preset_named (item.Bool i) e = absurd (cc)
preset_named (item.Num i) e = absurd (cc)
preset_named (item.Enum i) e = absurd (cc)
preset_named (item.Preset i) e = (i, refl)

no_preset : (known : Known) (i : Item) → is_preset i ≡ false → preset_by known i ≡ []
no_preset known (item.Group n) e = refl
no_preset known (item.Type i) e = refl
no_preset known (item.Alias i) e = refl
no_preset known (item.Kind i) e = refl
no_preset known (item.Format i) e = refl
no_preset known (item.Inst i) e = refl
no_preset known (item.Bool i) e = refl
no_preset known (item.Num i) e = refl
no_preset known (item.Enum i) e = refl
no_preset known (item.Preset i) e = absurd (cc)

-- the n-th preset is declared by an item after these
record IsPresetFrom (s : ℕ) (above items : List Item) (n : ℕ) (p : PresetDeclaration) : Type 0 where
  pub after : ℕ
  pub preset : PresetItem
  pub place : slice_get (places_from is_preset s items) n ≡ Some (s + after)
  pub at : slice_get items after ≡ Some (item.Preset preset)
  pub says : p ≡ preset_of (known_below (above ++ take after items)) preset

preset_later : (s : ℕ) (above : List Item) (i : Item) (items : List Item) (n m : ℕ) (p : PresetDeclaration)
    → IsPresetFrom (s + 1) (above ++ i ∷ []) items n p
    → slice_get (places_from is_preset s (i ∷ items)) m ≡ slice_get (places_from is_preset (s + 1) items) n
    → IsPresetFrom s above (i ∷ items) m p
preset_later s above i items n m p h same =
    let next : (s + 1) + h.after ≡ s + suc h.after = omega arith in
    record {
      after = suc h.after;
      preset = h.preset;
      place = same ∙ h.place ∙ ap (λ (k : ℕ). Some k) next;
      at = h.at;
      says = h.says ∙ ap (λ (es : List Item). preset_of (known_below es) h.preset) (append_assoc above (i ∷ []) (take h.after items));
    }

-- the first item is a preset
preset_here : (s : ℕ) (above : List Item) (i : PresetItem) (items : List Item) (p : PresetDeclaration) (n : ℕ)
    → ((m : ℕ) → slice_get (presets_below (above ++ item.Preset i ∷ []) items) m ≡ Some p
    → IsPresetFrom (s + 1) (above ++ item.Preset i ∷ []) items m p)
    → slice_get (presets_below above (item.Preset i ∷ items)) n ≡ Some p → IsPresetFrom s above (item.Preset i ∷ items) n p
preset_here s above i items p zero rest h =
    let here : s ≡ s + 0 = omega arith in
    let this : preset_of (known_below above) i ≡ p = cc in
    record {
      after = 0;
      preset = i;
      place = ap (λ (k : ℕ). Some k) here;
      at = refl;
      says = sym this ∙ ap (λ (es : List Item). preset_of (known_below es) i) (sym (append-nil above));
    }
preset_here s above i items p (suc m) rest h = preset_later s above (item.Preset i) items m (suc m) p (rest m h) refl

preset_step : (s : ℕ) (above : List Item) (i : Item) (items : List Item) (p : PresetDeclaration) (b : Bool) (n : ℕ) → is_preset i ≡ b
    → ((m : ℕ) → slice_get (presets_below (above ++ i ∷ []) items) m ≡ Some p → IsPresetFrom (s + 1) (above ++ i ∷ []) items m p)
    → slice_get (presets_below above (i ∷ items)) n ≡ Some p → IsPresetFrom s above (i ∷ items) n p
preset_step s above i items p true n e rest h =
    let it = preset_named i e in
    subst (λ (x : Item). ((m : ℕ) → slice_get (presets_below (above ++ x ∷ []) items) m ≡ Some p
    → IsPresetFrom (s + 1) (above ++ x ∷ []) items m p)
    → slice_get (presets_below above (x ∷ items)) n ≡ Some p → IsPresetFrom s above (x ∷ items) n p) (sym it.1)
    (preset_here s above it.0 items p n) rest h
preset_step s above i items p false n e rest h =
    let none : presets_below above (i ∷ items) ≡ presets_below (above ++ i ∷ []) items =
    ap (λ (ps : List PresetDeclaration). ps ++ presets_below (above ++ i ∷ []) items) (no_preset (known_below above) i e) in
    preset_later s above i items n n p (rest n (ap (λ (ps : List PresetDeclaration). slice_get ps n) (sym none) ∙ h))
    (ap (λ (b : Bool). slice_get (cond b (s ∷ places_from is_preset (s + 1) items) (places_from is_preset (s + 1) items)) n) e)

preset_from : (s : ℕ) (above items : List Item) (n : ℕ) (p : PresetDeclaration) → slice_get (presets_below above items) n ≡ Some p
    → IsPresetFrom s above items n p
preset_from s above [] n p h = absurd (cc)
preset_from s above (i ∷ items) n p h =
    preset_step s above i items p (is_preset i) n refl (λ m g. preset_from (s + 1) (above ++ i ∷ []) items m p g) h

-- ---- entries

setting_is : (above : List Item) (i : Item) (d : SettingDeclaration) → setting_of i ≡ Some d → entry_below above i ≡ Some (setting_entry d)
setting_is above (item.Group n) d e = absurd (cc)
setting_is above (item.Type i) d e = absurd (cc)
setting_is above (item.Alias i) d e = absurd (cc)
setting_is above (item.Kind i) d e = absurd (cc)
setting_is above (item.Format i) d e = absurd (cc)
setting_is above (item.Inst i) d e = absurd (cc)
setting_is above (item.Bool i) d e = ap (option_map setting_entry) e
setting_is above (item.Num i) d e = ap (option_map setting_entry) e
setting_is above (item.Enum i) d e = ap (option_map setting_entry) e
setting_is above (item.Preset i) d e = absurd (cc)

setting_number : (g : GroupDeclaration) (above : List Item) (i : Item) (d : SettingDeclaration) → setting_of i ≡ Some d
    → number_below g above i ≡ Some (count_by is_setting above)
setting_number g above (item.Group n) d e = absurd (cc)
setting_number g above (item.Type i) d e = absurd (cc)
setting_number g above (item.Alias i) d e = absurd (cc)
setting_number g above (item.Kind i) d e = absurd (cc)
setting_number g above (item.Format i) d e = absurd (cc)
setting_number g above (item.Inst i) d e = absurd (cc)
setting_number g above (item.Bool i) d e = refl
setting_number g above (item.Num i) d e = refl
setting_number g above (item.Enum i) d e = refl
setting_number g above (item.Preset i) d e = absurd (cc)

-- the e-th entry of the group with these items is declared by one of them
pub record IsEntryItem (name : Name) (items : List Item) (e : ℕ) (x : Entry) : Type 0 where
  pub place : ℕ
  pub item : Item
  pub is_place : slice_get (entry_places items) e ≡ Some place
  pub at : slice_get items place ≡ Some item
  pub number : number_below (group_with name items) (take place items) item ≡ Some e
  pub says : entry_below (take place items) item ≡ Some x

setting_item : (name : Name) (items : List Item) (e : ℕ) (x : Entry)
    → slice_get (map setting_entry (filter_map setting_of items)) e ≡ Some x
    → IsEntryItem name items e x
setting_item name items e x h =
    let declared = get_mapped setting_entry (filter_map setting_of items) e x h in
    let from = set_from 0 items e declared.0 declared.1 in
    let same : 0 + from.after ≡ from.after = omega arith in
    let place : slice_get (places_of is_setting items) e ≡ Some from.after = from.place ∙ ap (λ (k : ℕ). Some k) same in
    record {
      place = from.after;
      item = from.item;
      is_place = get_stays (places_of is_setting items) (places_of is_preset items) e from.after place;
      at = from.at;
      number = setting_number (group_with name items) (take from.after items) from.item declared.0 from.says
          ∙ ap (λ (n : ℕ). Some n) (nth_is is_setting items e from.after place).above;
      says = setting_is (take from.after items) from.item declared.0 from.says ∙ ap (λ (y : Entry). Some y) declared.2;
    }

preset_item : (name : Name) (items : List Item) (j : ℕ) (x : Entry) → slice_get (map preset_entry (presets_below [] items)) j ≡ Some x
    → (e : ℕ) → e ≡ length (filter_map setting_of items) + j → IsEntryItem name items e x
preset_item name items j x h e is =
    let declared = get_mapped preset_entry (presets_below [] items) j x h in
    let from = preset_from 0 [] items j declared.0 declared.1 in
    let same : 0 + from.after ≡ from.after = omega arith in
    let place : slice_get (places_of is_preset items) j ≡ Some from.after = from.place ∙ ap (λ (k : ℕ). Some k) same in
    let after : e ≡ length (places_of is_setting items) + j = is ∙ ap (λ (n : ℕ). n + j) (sym (settings_count 0 items)) in
    record {
      place = from.after;
      item = item.Preset from.preset;
      is_place = ap (slice_get (entry_places items)) after ∙ get_right (places_of is_setting items) (places_of is_preset items) j ∙ place;
      at = from.at;
      number = ap (λ (n : ℕ). Some (length (filter_map setting_of items) + n)) (nth_is is_preset items j from.after place).above
          ∙ ap (λ (n : ℕ). Some n) (sym is);
      says = ap (λ (p : PresetDeclaration). Some (preset_entry p)) (sym from.says) ∙ ap (λ (y : Entry). Some y) declared.2;
    }

pub entry_item : (name : Name) (items : List Item) (e : ℕ) (x : Entry) → slice_get (entries_of (group_with name items)) e ≡ Some x
    → IsEntryItem name items e x
entry_item name items e x h =
    ⊎_elim (λ at. setting_item name items e x at)
    (λ j. preset_item name items j.0 x j.2 e
    (j.1 ∙ ap (λ (n : ℕ). n + j.0) (length-map (filter_map setting_of items) setting_entry)))
    (get_cases (map setting_entry (filter_map setting_of items)) (map preset_entry (presets_below [] items)) e x h)
