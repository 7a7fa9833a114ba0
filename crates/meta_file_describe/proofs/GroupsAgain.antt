-- Items that are made of groups declare them.
use Rattle.std.proofs.Common.{◌≡◌, ℕ, suc, ◌+◌, Bool, true, false, cond, List, [], ◌∷◌, ◌++◌, All, Some, None, length, map, take, drop}
use Rattle.std.proofs.Common.{refl, sym, ap, ◌∙◌, arith}
use Rattle.std.specs.Prelude.{Option, not}
use Rattle.std.specs.List.{position_or_len, filter_map, cons_option}
use Rattle.std.proofs.lemmas.List.{append-nil, append_assoc, map-append, take-append-drop}
use Rattle.std.proofs.lemmas.List.Elements.{All-head, All-tail, filter_map-append}
use Rattle.meta_file_syntax.specs.declared.items.Item.{Item}
use Rattle.meta_settings.specs.declared.setting.SpecificSetting.{SpecificSetting}
use Rattle.meta_settings.specs.declared.setting.SpecificSetting.TheVariants as specific
use Rattle.meta_settings.specs.declared.proto.ProtoSpecificSetting.{ProtoSpecificSetting}
use Rattle.meta_settings.specs.declared.proto.ProtoSpecificSetting.TheVariants as proto
use Rattle.meta_settings.specs.GroupDeclaration.{SettingDeclaration, PresetDeclaration, GroupDeclaration}
use Rattle.meta_settings.specs.Layout.{PlacedSetting, BuiltPreset, Layout, booleans_in}
use Rattle.meta_settings.specs.PresetLayout.{names_turned_on}
use Rattle.meta_file_declare.specs.Texts.{text_of}
use Rattle.meta_file_declare.specs.Named.{Known, boolean_declared, known_below, meant}
use Rattle.meta_file_declare.specs.Places.{is_group, before_group}
use Rattle.meta_file_declare.specs.Said.{setting_of, preset_by, presets_below, group_with, groups_of}
use Rattle.meta_file_declare.proofs.Growing.{no_group_more}
use Rattle.meta_file_describe.specs.Wording.{name_for}
use Rattle.meta_file_describe.specs.SettingItems.{comment_for, item_as, item_of_setting, item_of_preset, items_of_groups}
use Rattle.meta_file_describe.proofs.DeclaredAgain.{unplaced_specific, unplaced, preset_again, group_again}
use Rattle.meta_file_describe.proofs.Sayable.{is_boolean, IsSayableSetting, IsSayablePreset, AreNamedApart, IsSayable}
use Rattle.meta_file_describe.proofs.Wording.{name_said, doc_said}
use Rattle.meta_file_describe.proofs.PlainTexts.{names_said}
use Rattle.meta_file_describe.proofs.NamesMeant.{names_of, all_meant}

-- ---- settings

-- the comment says the text that it is made of
pub comment_again : (c : List ℕ) → text_of (comment_for c) ≡ c
comment_again [] = refl
comment_again (c ∷ cs) = refl

-- what is declared by this name and these texts
abbrev declared_as : PlacedSetting → ProtoSpecificSetting → SettingDeclaration
declared_as s k = record { name = s.name; description = s.description; comment = s.comment; specific = k }

-- the item of a setting declares it
setting_as : (s : PlacedSetting) (k : SpecificSetting) → IsSayableSetting s
    → setting_of (item_as s k) ≡ Some (declared_as s (unplaced_specific k))
setting_as s (specific.Bool b) h = λ i. Some (let d : SettingDeclaration = record {
  name = name_said s.name i;
  description = doc_said s.description i;
  comment = comment_again s.comment i;
  specific = proto.Bool b.default;
} in d)
setting_as s (specific.Enum values) h = λ i. Some (let d : SettingDeclaration = record {
  name = name_said s.name i;
  description = doc_said s.description i;
  comment = comment_again s.comment i;
  specific = proto.Enum (names_said values i);
} in d)
setting_as s (specific.Num default) h = λ i. Some (let d : SettingDeclaration = record {
  name = name_said s.name i;
  description = doc_said s.description i;
  comment = comment_again s.comment i;
  specific = proto.Num default;
} in d)

settings_again : (ss : List PlacedSetting) → All IsSayableSetting ss
    → filter_map setting_of (map item_of_setting ss) ≡ map unplaced ss
settings_again [] h = refl
settings_again (s ∷ ss) h =
    ap (λ (o : Option SettingDeclaration). cons_option o (filter_map setting_of (map item_of_setting ss)))
    (setting_as s s.specific (All-head IsSayableSetting s ss h))
    ∙ ap (λ (ds : List SettingDeclaration). unplaced s ∷ ds) (settings_again ss (All-tail IsSayableSetting s ss h))

-- that of a preset declares no setting
no_settings : (g : Layout) (ps : List BuiltPreset) → filter_map setting_of (map (item_of_preset g) ps) ≡ []
no_settings g [] = refl
no_settings g (p ∷ ps) = no_settings g ps

-- ---- the names of the booleans

boolean_as : (s : PlacedSetting) (k : SpecificSetting) → is_boolean k ≡ true → boolean_declared (item_as s k) ≡ Some s.name
boolean_as s (specific.Bool b) e = ap (λ (n : List ℕ). Some n) (name_said s.name)
boolean_as s (specific.Enum values) e = absurd (cc)
boolean_as s (specific.Num default) e = absurd (cc)

other_as : (s : PlacedSetting) (k : SpecificSetting) → is_boolean k ≡ false → boolean_declared (item_as s k) ≡ None
other_as s (specific.Bool b) e = absurd (cc)
other_as s (specific.Enum values) e = refl
other_as s (specific.Num default) e = refl

booleans_named : (ss : List PlacedSetting) → All (λ s. is_boolean s.specific ≡ true) ss
    → filter_map boolean_declared (map item_of_setting ss) ≡ names_of ss
booleans_named [] h = refl
booleans_named (s ∷ ss) h =
    ap (λ (o : Option (List ℕ)). cons_option o (filter_map boolean_declared (map item_of_setting ss)))
    (boolean_as s s.specific (All-head (λ x. is_boolean x.specific ≡ true) s ss h))
    ∙ ap (λ (ns : List (List ℕ)). s.name ∷ ns) (booleans_named ss (All-tail (λ x. is_boolean x.specific ≡ true) s ss h))

others_named : (ss : List PlacedSetting) → All (λ s. is_boolean s.specific ≡ false) ss
    → filter_map boolean_declared (map item_of_setting ss) ≡ []
others_named [] h = refl
others_named (s ∷ ss) h =
    ap (λ (o : Option (List ℕ)). cons_option o (filter_map boolean_declared (map item_of_setting ss)))
    (other_as s s.specific (All-head (λ x. is_boolean x.specific ≡ false) s ss h))
    ∙ others_named ss (All-tail (λ x. is_boolean x.specific ≡ false) s ss h)

-- the settings of a group name its booleans, in order
pub booleans_again : (g : Layout) → IsSayable g → filter_map boolean_declared (map item_of_setting g.settings) ≡ names_of (booleans_in g)
booleans_again g h =
    let n = g.bool_start_byte_offset in
    let others = take n g.settings in
    let booleans = drop n g.settings in
    ap (λ (ss : List PlacedSetting). filter_map boolean_declared (map item_of_setting ss)) (sym (take-append-drop n g.settings))
    ∙ ap (filter_map boolean_declared) (map-append item_of_setting others booleans)
    ∙ filter_map-append boolean_declared (map item_of_setting others) (map item_of_setting booleans)
    ∙ ap (λ (ns : List (List ℕ)). ns ++ filter_map boolean_declared (map item_of_setting booleans)) (others_named others h.others)
    ∙ booleans_named booleans h.booleans

-- ---- presets

no_preset : (known : Known) (s : PlacedSetting) (k : SpecificSetting) → preset_by known (item_as s k) ≡ []
no_preset known s (specific.Bool b) = refl
no_preset known s (specific.Enum values) = refl
no_preset known s (specific.Num default) = refl

after_settings : (above : List Item) (ss : List PlacedSetting) (es : List Item)
    → presets_below above (map item_of_setting ss ++ es) ≡ presets_below (above ++ map item_of_setting ss) es
after_settings above [] es = ap (λ (is : List Item). presets_below is es) (sym (append-nil above))
after_settings above (s ∷ ss) es =
    let more = above ++ item_of_setting s ∷ [] in
    ap (λ (ps : List PresetDeclaration). ps ++ presets_below more (map item_of_setting ss ++ es))
    (no_preset (known_below above) s s.specific)
    ∙ after_settings more ss es
    ∙ ap (λ (is : List Item). presets_below is es) (append_assoc above (item_of_setting s ∷ []) (map item_of_setting ss))

-- an entry more that is a preset names no boolean more
pub same_booleans : (g : Layout) (above : List Item) (p : BuiltPreset)
    → (known_below (above ++ item_of_preset g p ∷ [])).booleans ≡ (known_below above).booleans
same_booleans g above p = filter_map-append boolean_declared above (item_of_preset g p ∷ []) ∙ append-nil _

module _ (g : Layout) (apart : AreNamedApart (booleans_in g)) where
  -- the item of a preset declares it, where the booleans of the group are known
  preset_as : (known : Known) → known.booleans ≡ names_of (booleans_in g) → (p : BuiltPreset) → IsSayablePreset (length (booleans_in g)) p
      → preset_by known (item_of_preset g p) ≡ preset_again p ∷ []
  preset_as known is p h =
      let args = ap (filter_map (meant known)) (names_said (names_turned_on g p))
      ∙ all_meant (booleans_in g) apart known is p.booleans h.there in
      λ i. (let d : PresetDeclaration = record {
        name = name_said p.name i;
        description = doc_said p.description i;
        args = args i;
      } in d) ∷ []

  presets_again : (above : List Item) (ps : List BuiltPreset) → (known_below above).booleans ≡ names_of (booleans_in g)
      → All (IsSayablePreset (length (booleans_in g))) ps → presets_below above (map (item_of_preset g) ps) ≡ map preset_again ps
  presets_again above [] is h = refl
  presets_again above (p ∷ ps) is h =
      let more = above ++ item_of_preset g p ∷ [] in
      let good = IsSayablePreset (length (booleans_in g)) in
      ap (λ (ds : List PresetDeclaration). ds ++ presets_below more (map (item_of_preset g) ps))
      (preset_as (known_below above) is p (All-head good p ps h))
      ∙ ap (λ (ds : List PresetDeclaration). preset_again p ∷ ds)
      (presets_again more ps (same_booleans g above p ∙ is) (All-tail good p ps h))

-- ---- one group

-- the entries of a group
abbrev pub entries_again : Layout → List Item
entries_again g = map item_of_setting g.settings ++ map (item_of_preset g) g.presets

group_is : (g : Layout) → IsSayable g → group_with (name_for g.name) (entries_again g) ≡ group_again g
group_is g h =
    let ss = map item_of_setting g.settings in
    let ps = map (item_of_preset g) g.presets in
    let settings : filter_map setting_of (entries_again g) ≡ map unplaced g.settings =
    filter_map-append setting_of ss ps ∙ ap (λ (ds : List SettingDeclaration). filter_map setting_of ss ++ ds) (no_settings g g.presets)
    ∙ append-nil _ ∙ settings_again g.settings h.settings in
    let presets : presets_below [] (entries_again g) ≡ map preset_again g.presets =
    after_settings [] g.settings ps ∙ presets_again g h.apart ss g.presets (booleans_again g h) h.presets in
    λ i. let d : GroupDeclaration = record { name = name_said g.name i; settings = settings i; presets = presets i } in d

-- ---- entries in front of the next group

-- none of them opens a group
abbrev pub AreEntries : List Item → Type 0
AreEntries [] = Unit {0}
AreEntries (i ∷ is) = (is_group i ≡ false) × AreEntries is

pub no_group : (s : PlacedSetting) (k : SpecificSetting) → is_group (item_as s k) ≡ false
no_group s (specific.Bool b) = refl
no_group s (specific.Enum values) = refl
no_group s (specific.Num default) = refl

presets_enter : (g : Layout) (ps : List BuiltPreset) → AreEntries (map (item_of_preset g) ps)
presets_enter g [] = tt
presets_enter g (p ∷ ps) = (refl, presets_enter g ps)

settings_enter : (ss : List PlacedSetting) (es : List Item) → AreEntries es → AreEntries (map item_of_setting ss ++ es)
settings_enter [] es h = h
settings_enter (s ∷ ss) es h = (no_group s s.specific, settings_enter ss es h)

pub all_enter : (g : Layout) → AreEntries (entries_again g)
all_enter g = settings_enter g.settings (map (item_of_preset g) g.presets) (presets_enter g g.presets)

before_entry : (i : Item) (is : List Item) → is_group i ≡ false → before_group (i ∷ is) ≡ i ∷ before_group is
before_entry i is e =
    let one : 1 + position_or_len is_group is ≡ suc (position_or_len is_group is) = omega arith in
    ap (λ (b : Bool). take (cond (not b) (1 + position_or_len is_group is) 0) (i ∷ is)) e
    ∙ ap (λ (n : ℕ). take n (i ∷ is)) one

before_entries : (es rest : List Item) → AreEntries es → before_group (es ++ rest) ≡ es ++ before_group rest
before_entries [] rest h = refl
before_entries (i ∷ es) rest h = before_entry i (es ++ rest) h.0 ∙ ap (λ (is : List Item). i ∷ is) (before_entries es rest h.1)

groups_past : (es rest : List Item) → AreEntries es → groups_of (es ++ rest) ≡ groups_of rest
groups_past [] rest h = refl
groups_past (i ∷ es) rest h = no_group_more i (es ++ rest) h.0 ∙ groups_past es rest h.1

-- ---- all groups

nothing_before : (gs : List Layout) → before_group (items_of_groups gs) ≡ []
nothing_before [] = refl
nothing_before (g ∷ gs) = refl

pub said_again : (gs : List Layout) → All IsSayable gs → groups_of (items_of_groups gs) ≡ map group_again gs
said_again [] h = refl
said_again (g ∷ gs) h =
    let n = name_for g.name in
    let es = entries_again g in
    let rest = items_of_groups gs in
    let mine : before_group (es ++ rest) ≡ es =
    before_entries es rest (all_enter g) ∙ ap (λ (is : List Item). es ++ is) (nothing_before gs) ∙ append-nil es in
    ap (λ (is : List Item). group_with n is ∷ groups_of (es ++ rest)) mine
    ∙ ap (λ (ds : List GroupDeclaration). group_with n es ∷ ds) (groups_past es rest (all_enter g))
    ∙ ap (λ (d : GroupDeclaration). d ∷ groups_of rest) (group_is g (All-head IsSayable g gs h))
    ∙ ap (λ (ds : List GroupDeclaration). group_again g ∷ ds) (said_again gs (All-tail IsSayable g gs h))
