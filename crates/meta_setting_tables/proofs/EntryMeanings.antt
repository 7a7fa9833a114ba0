-- What the tables of a group say of its entries is what the group means.
use Rattle.std.proofs.Common.{◌≡◌, ℕ, ◌+◌, ◌-◌, List, length, take, drop, slice_get, Some, sym, ap, ◌∙◌, arith}
use Rattle.std.proofs.lemmas.Option.{slice_get_within, same_Some}
use Rattle.meta_lists.proofs.Places.{get_there}
use Rattle.meta_settings.specs.declared.setting.SpecificSetting.{SpecificSetting}
use Rattle.meta_settings.specs.declared.setting.SpecificSetting.TheVariants.{Bool as ABool, Enum as AnEnum, Num as ANum}
use Rattle.meta_settings.specs.GroupDeclaration.{GroupDeclaration}
use Rattle.meta_settings.specs.LaidOut.{built_of}
use Rattle.meta_settings.specs.Layout.{PlacedSetting, BuiltPreset, Layout}
use Rattle.meta_setting_tables.specs.declared.descriptor.Detail.{Detail}
use Rattle.meta_setting_tables.specs.declared.descriptor.Detail.TheVariants.{Enum as EnumDetail}
use Rattle.meta_setting_tables.specs.declared.descriptor.Descriptor.{Descriptor}
use Rattle.meta_setting_tables.specs.Descriptor.{IsDetailOf}
use Rattle.meta_setting_tables.specs.EntryValues.{values_in, masks_from, names_on, names_enabled}
use Rattle.meta_setting_tables.specs.EnumeratorList.{built_values_of}
use Rattle.meta_setting_tables.specs.GroupTables.{GroupContents, IsPresetIn, IsPresetOf, AreTablesOfGroup}
use Rattle.meta_setting_tables.proofs.Enabled.{same_enabled_names}
use Rattle.meta_setting_tables.proofs.EntriesRead.{preset_entry, preset_there}

-- the values that a detail points to are those of the setting
same_values : (enumerators : List (List ℕ)) (before : List PlacedSetting) (specific : SpecificSetting) (detail : Detail)
    → IsDetailOf enumerators before specific detail → values_in enumerators detail ≡ built_values_of specific
same_values enumerators before (ABool b) detail is = ap (values_in enumerators) is
same_values enumerators before (AnEnum values) detail is = ap (values_in enumerators) is.is
    ∙ ap (λ n. take n (drop is.place enumerators)) (sym is.count) ∙ is.stand.values_are
same_values enumerators before (ANum default) detail is = ap (values_in enumerators) is

-- the values where those of an enum stand
pub enum_values : (enumerators lent : List (List ℕ)) (from count last place : ℕ) (detail : Detail) → lent ≡ enumerators → from ≡ place
    → count ≡ last → detail ≡ EnumDetail last place → take (from + (count + 1) - from) (drop from lent) ≡ values_in enumerators detail
enum_values enumerators lent from count last place detail e f l is =
    let all : from + (count + 1) - from ≡ count + 1 = omega arith in
    ap (λ n. take n (drop from lent)) all ∙ (λ i. take (l i + 1) (drop (f i) (e i))) ∙ sym (ap (values_in enumerators) is)

-- an entry is one
pub for_entry : (ds : List Descriptor) (enumerators given : List (List ℕ)) (index : ℕ) (own : Descriptor) → slice_get ds index ≡ Some own
    → given ≡ values_in enumerators own.detail → (d : Descriptor) → slice_get ds index ≡ Some d → given ≡ values_in enumerators d.detail
for_entry ds enumerators given index own there is d at = is
    ∙ ap (λ (x : Descriptor). values_in enumerators x.detail) (same_Some own d (sym there ∙ at))

-- the values that are given for an entry that is a setting are those of the setting
pub values_meant : (g : Layout) (t : GroupContents) (index : ℕ) (given : List (List ℕ))
    → ((d : Descriptor) → slice_get t.descriptors index ≡ Some d → given ≡ values_in t.enumerators d.detail)
    → (s : PlacedSetting) → AreTablesOfGroup g t → slice_get g.settings index ≡ Some s → given ≡ built_values_of s.specific
values_meant g t index given entry s made at =
    let within = slice_get_within g.settings index s at in
    let count = made.count in
    let d = get_there t.descriptors index (omega (arith, within, count)) in
    entry d.0 d.1 ∙ same_values t.enumerators (take index g.settings) s.specific d.0.detail
    ((made.entries index d.0 d.1).setting s at).detail

-- the names that are on in the masks of a preset are those that it turns on
pub names_meant : (g : GroupDeclaration) (t : GroupContents) (e : ℕ) (p : BuiltPreset) → AreTablesOfGroup (built_of g) t
    → IsPresetOf (built_of g) e p
    → (d : Descriptor) × IsPresetIn t.descriptors e d
    × (names_on t.descriptors (masks_from (length t.defaults) t.preset_masks d.offset) ≡ names_enabled (built_of g) p)
names_meant g t e p made is =
    let d = preset_there (built_of g) t e p made is in
    let same = preset_entry (built_of g) t e p d.0 made is d.1.there in (
      d.0,
      d.1,
      ap (λ (x : Descriptor). names_on t.descriptors (masks_from (length t.defaults) t.preset_masks x.offset)) same
          ∙ same_enabled_names g t made is.number p is.there,
    )
