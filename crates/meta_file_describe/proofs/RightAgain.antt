-- Nothing is wrong with items that are made of groups.
use Rattle.std.proofs.Common.{◌≡◌, ℕ, zero, suc, ◌<◌, Bool, true, cond, List, [], ◌∷◌, ◌++◌, All, Option, Some, None, length, map}
use Rattle.std.proofs.Common.{take, slice_get, refl, sym, ap, ◌∙◌, subst, arith}
use Rattle.std.specs.Prelude.{option_map, option_and_then, is_none}
use Rattle.std.specs.List.{find}
use Rattle.std.specs.Option.{option_or}
use Rattle.std.proofs.lemmas.List.{append-nil, append_assoc}
use Rattle.std.proofs.lemmas.List.Elements.{All-head, All-tail}
use Rattle.meta_file_syntax.specs.declared.name.Name.{Name}
use Rattle.meta_file_syntax.specs.declared.items.Item.{Item}
use Rattle.meta_file_syntax.specs.declared.items.Item.TheVariants as item
use Rattle.meta_file_syntax.specs.Named.{name_bytes}
use Rattle.meta_settings.specs.declared.setting.SpecificSetting.{SpecificSetting}
use Rattle.meta_settings.specs.declared.setting.SpecificSetting.TheVariants as specific
use Rattle.meta_settings.specs.Layout.{PlacedSetting, BuiltPreset, Layout, booleans_in}
use Rattle.meta_settings.specs.PresetLayout.{boolean_name, names_turned_on}
use Rattle.meta_file_types.specs.Texts.{are_texts}
use Rattle.meta_file_declare.specs.SaidOfInsts.{Above, said}
use Rattle.meta_file_types.specs.declared.refused.Reason.{Reason}
use Rattle.meta_file_types.specs.declared.refused.Reason.TheVariants.{NoEntry}
use Rattle.meta_file_declare.specs.Texts.{item_texts}
use Rattle.meta_file_declare.specs.Named.{Known, known_below, meant}
use Rattle.meta_file_declare.specs.Places.{IsOfGroup}
use Rattle.meta_file_declare.specs.Wrong.{missing_in, misplaced, wrong_if, last_entries, known_after}
use Rattle.meta_file_declare.specs.Wrong as groups
use Rattle.meta_file_declare.specs.AllItems.{wrong_of_set, wrong_below, AllRight}
use Rattle.meta_file_declare.proofs.Growing.{more_entries, last_more}
use Rattle.meta_file_describe.specs.Wording.{name_for}
use Rattle.meta_file_describe.specs.SettingItems.{item_as, item_of_setting, item_of_preset, items_of_group, items_of_groups}
use Rattle.meta_file_describe.proofs.Sayable.{IsSayableSetting, IsSayablePreset, IsSayable}
use Rattle.meta_file_describe.proofs.Wording.{name_said}
use Rattle.meta_file_describe.proofs.NamesMeant.{names_of, meant_again}
use Rattle.meta_file_describe.proofs.GroupsAgain.{booleans_again, same_booleans}
use Rattle.meta_file_describe.proofs.TextsAgain.{name_alone, setting_texts, preset_texts}

-- ---- items after others

-- nothing is wrong with these after those above them
abbrev pub AreRight : List Item → List Item → Type 0
AreRight above [] = Unit {0}
AreRight above (i ∷ is) = (wrong_below above i ≡ None) × AreRight (above ++ i ∷ []) is

right_at : (above is : List Item) → AreRight above is → (k : ℕ) → k < length is
    → option_and_then (wrong_below (above ++ take k is)) (slice_get is k) ≡ None
right_at above [] h k l = absurd (omega (arith, l))
right_at above (i ∷ is) h zero l = ap (λ (a : List Item). wrong_below a i) (append-nil above) ∙ h.0
right_at above (i ∷ is) h (suc k) l =
    ap (λ (a : List Item). option_and_then (wrong_below a) (slice_get is k)) (sym (append_assoc above (i ∷ []) (take k is)))
    ∙ right_at (above ++ i ∷ []) is h.1 k (omega (arith, l))

-- nothing is wrong with any of them
pub all_right : (items : List Item) → AreRight [] items → AllRight items (length items)
all_right items h = λ k l. right_at [] items h k l

right_joined : (above xs ys : List Item) → AreRight above xs → AreRight (above ++ xs) ys → AreRight above (xs ++ ys)
right_joined above [] ys h k = subst (λ (a : List Item). AreRight a ys) (append-nil above) k
right_joined above (x ∷ xs) ys h k = (
  h.0,
  right_joined (above ++ x ∷ []) xs ys h.1 (subst (λ (a : List Item). AreRight a ys) (sym (append_assoc above (x ∷ []) xs)) k),
)

-- ---- one item

-- an item of a group is no type, kind, format or instruction that is wrong
set_right : (a : Above) (i : Item) → IsOfGroup i → wrong_of_set a i ≡ None
set_right a (item.Group n) h = refl
set_right a (item.Type i) h = absurd h
set_right a (item.Alias i) h = absurd h
set_right a (item.Kind i) h = absurd h
set_right a (item.Format i) h = absurd h
set_right a (item.Inst i) h = absurd h
set_right a (item.Bool i) h = refl
set_right a (item.Num i) h = refl
set_right a (item.Enum i) h = refl
set_right a (item.Preset i) h = refl

-- its texts are UTF-8, and it can stand there
right_by : (above : List Item) (i : Item) → IsOfGroup i → are_texts (item_texts i) ≡ true → misplaced (known_after above) i ≡ None
    → wrong_below above i ≡ None
right_by above i of texts placed =
    ap (λ (o : Option Reason). option_or o (groups.wrong_with (known_after above) i)) (set_right (said above) i of)
    ∙ ap (λ (b : Bool). wrong_if b (misplaced (known_after above) i)) texts ∙ placed

-- an entry stands after a `group`
placed_by : (above es : List Item) (i : Item) → last_entries above ≡ Some es → misplaced (Some (known_below es)) i ≡ None
    → misplaced (known_after above) i ≡ None
placed_by above es i last h = ap (λ (o : Option (List Item)). misplaced (option_map known_below o) i) last ∙ h

-- ---- settings

pub setting_of_group : (s : PlacedSetting) (k : SpecificSetting) → IsOfGroup (item_as s k)
setting_of_group s (specific.Bool b) = tt
setting_of_group s (specific.Enum values) = tt
setting_of_group s (specific.Num default) = tt

setting_placed : (known : Known) (s : PlacedSetting) (k : SpecificSetting) → misplaced (Some known) (item_as s k) ≡ None
setting_placed known s (specific.Bool b) = refl
setting_placed known s (specific.Enum values) = refl
setting_placed known s (specific.Num default) = refl

setting_comes : (es : List Item) (s : PlacedSetting) (k : SpecificSetting)
    → more_entries (Some es) (item_as s k) ≡ Some (es ++ item_as s k ∷ [])
setting_comes es s (specific.Bool b) = refl
setting_comes es s (specific.Enum values) = refl
setting_comes es s (specific.Num default) = refl

last_setting : (above es : List Item) (s : PlacedSetting) → last_entries above ≡ Some es
    → last_entries (above ++ item_of_setting s ∷ []) ≡ Some (es ++ item_of_setting s ∷ [])
last_setting above es s last =
    last_more above (item_of_setting s) ∙ ap (λ (o : Option (List Item)). more_entries o (item_of_setting s)) last
    ∙ setting_comes es s s.specific

settings_right : (above es : List Item) (ss : List PlacedSetting) → last_entries above ≡ Some es → All IsSayableSetting ss
    → AreRight above (map item_of_setting ss)
settings_right above es [] last h = tt
settings_right above es (s ∷ ss) last h =
    let here = All-head IsSayableSetting s ss h in
    let i = item_of_setting s in (
      right_by above i (setting_of_group s s.specific) (setting_texts s s.specific here here.values)
          (placed_by above es i last (setting_placed (known_below es) s s.specific)),
      settings_right (above ++ i ∷ []) (es ++ i ∷ []) ss (last_setting above es s last) (All-tail IsSayableSetting s ss h),
    )

settings_last : (above es : List Item) (ss : List PlacedSetting) → last_entries above ≡ Some es
    → last_entries (above ++ map item_of_setting ss) ≡ Some (es ++ map item_of_setting ss)
settings_last above es [] last =
    ap last_entries (append-nil above) ∙ last ∙ ap (λ (is : List Item). Some is) (sym (append-nil es))
settings_last above es (s ∷ ss) last =
    let i = item_of_setting s in
    let more = map item_of_setting ss in
    ap last_entries (sym (append_assoc above (i ∷ []) more))
    ∙ settings_last (above ++ i ∷ []) (es ++ i ∷ []) ss (last_setting above es s last)
    ∙ ap (λ (is : List Item). Some is) (append_assoc es (i ∷ []) more)

-- ---- presets

-- whether a name stands for nothing
abbrev is_missing : Known → Name → Bool
is_missing known n = is_none (meant known (name_bytes n))

module _ (g : Layout) (good : IsSayable g) where
  -- no name of a boolean is missing
  none_in : (known : Known) → known.booleans ≡ names_of (booleans_in g) → (bs : List ℕ)
      → All (λ b. b < length (booleans_in g)) bs
      → find (is_missing known) (map name_for (map (boolean_name (booleans_in g)) bs)) ≡ None
  none_in known is [] h = refl
  none_in known is (b ∷ bs) h =
      let w = boolean_name (booleans_in g) b in
      let rest = find (is_missing known) (map name_for (map (boolean_name (booleans_in g)) bs)) in
      let there = All-head (λ n. n < length (booleans_in g)) b bs h in
      ap (λ (t : List ℕ). cond (is_none (meant known t)) (Some (name_for w)) rest) (name_said w)
      ∙ ap (λ (o : _). cond (is_none o) (Some (name_for w)) rest) (meant_again (booleans_in g) good.apart known is b there)
      ∙ none_in known is bs (All-tail (λ n. n < length (booleans_in g)) b bs h)

  none_missing : (known : Known) → known.booleans ≡ names_of (booleans_in g) → (p : BuiltPreset)
      → IsSayablePreset (length (booleans_in g)) p → missing_in known (map name_for (names_turned_on g p)) ≡ None
  none_missing known is p h = none_in known is p.booleans h.there

  presets_right : (above es : List Item) (ps : List BuiltPreset) → last_entries above ≡ Some es
      → (known_below es).booleans ≡ names_of (booleans_in g) → All (IsSayablePreset (length (booleans_in g))) ps
      → AreRight above (map (item_of_preset g) ps)
  presets_right above es [] last is h = tt
  presets_right above es (p ∷ ps) last is h =
      let sayable = IsSayablePreset (length (booleans_in g)) in
      let here = All-head sayable p ps h in
      let i = item_of_preset g p in (
        right_by above i tt (preset_texts g good p here)
            (placed_by above es i last (ap (option_map NoEntry) (none_missing (known_below es) is p here))),
        presets_right (above ++ i ∷ []) (es ++ i ∷ []) ps
            (last_more above i ∙ ap (λ (o : Option (List Item)). more_entries o i) last) (same_booleans g es p ∙ is)
            (All-tail sayable p ps h),
      )

  -- ---- one group

  group_right : (above : List Item) → AreRight above (items_of_group g)
  group_right above =
      let n = item.Group (name_for g.name) in
      let ss = map item_of_setting g.settings in
      let ps = map (item_of_preset g) g.presets in
      let opened : last_entries (above ++ n ∷ []) ≡ Some [] = last_more above n in (
        right_by above n tt (name_alone g.name good.name) refl,
        right_joined (above ++ n ∷ []) ss ps (settings_right (above ++ n ∷ []) [] g.settings opened good.settings)
            (presets_right ((above ++ n ∷ []) ++ ss) ss g.presets (settings_last (above ++ n ∷ []) [] g.settings opened)
            (booleans_again g good) good.presets),
      )

-- ---- all groups

groups_right : (above : List Item) (gs : List Layout) → All IsSayable gs → AreRight above (items_of_groups gs)
groups_right above [] h = tt
groups_right above (g ∷ gs) h =
    right_joined above (items_of_group g) (items_of_groups gs) (group_right g (All-head IsSayable g gs h) above)
    (groups_right (above ++ items_of_group g) gs (All-tail IsSayable g gs h))

-- nothing is wrong with any of the items
pub right_again : (gs : List Layout) → All IsSayable gs → AllRight (items_of_groups gs) (length (items_of_groups gs))
right_again gs h = all_right (items_of_groups gs) (groups_right [] gs h)
