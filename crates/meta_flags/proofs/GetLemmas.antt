-- What the value at the place of an entry says.
use Rattle.std.proofs.Common.{◌≡◌, ℕ, ◌<◌, ◌≤◌, Bool, true, false, List, length, slice_get, Some, refl, sym, ap, arith}
use Rattle.std.proofs.lemmas.Bool.{false≢true}
use Rattle.meta_lists.proofs.Mapped.{get_mapped}
use Rattle.meta_setting_tables.specs.declared.descriptor.Detail.{Detail}
use Rattle.meta_setting_tables.specs.declared.descriptor.Detail.TheVariants.{Bool as BoolDetail, Enum as EnumDetail, Num as NumDetail}
use Rattle.meta_setting_tables.specs.declared.descriptor.Detail.TheVariants.{Preset as PresetDetail}
use Rattle.meta_setting_tables.specs.declared.descriptor.Descriptor.{Descriptor}
use Rattle.meta_setting_tables.specs.FoundSetting.{FindsEntry}
use Rattle.meta_setting_tables.specs.GroupTables.{GroupContents, names_in}
use Rattle.meta_setting_tables.specs.WellFormed.{is_preset}
use Rattle.meta_flags.specs.Served.{SettingValue, State, EntryKind, BoolKind, NumKind, EnumKind, PresetKind, kind_in, served_in}
use Rattle.meta_flags.specs.Changes.{HasValue, IsOfPreset, IsPresetKind}
use Rattle.meta_flags.specs.Held.{AreSettings}
use Rattle.meta_flags.proofs.Entries.{is_entry}

-- whether a kind is a preset's
abbrev is_preset_kind : EntryKind → Bool
is_preset_kind (BoolKind default) = false
is_preset_kind (NumKind default) = false
is_preset_kind (EnumKind values) = false
is_preset_kind (PresetKind marks) = true

-- a setting is no preset
pub no_preset : (t : GroupContents) (offset : ℕ) (detail : Detail) → is_preset detail ≡ false → IsPresetKind (kind_in t offset detail) → ⊥
no_preset t offset (BoolDetail bit) is (marks, e) = false≢true (ap is_preset_kind e)
no_preset t offset (EnumDetail last place) is (marks, e) = false≢true (ap is_preset_kind e)
no_preset t offset NumDetail is (marks, e) = false≢true (ap is_preset_kind e)
no_preset t offset PresetDetail is p = false≢true (sym is)

-- what is no setting is one
a_preset : (t : GroupContents) (offset : ℕ) (detail : Detail) → (is_preset detail ≡ false → ⊥) → IsPresetKind (kind_in t offset detail)
a_preset t offset (BoolDetail bit) other = absurd (other refl)
a_preset t offset (EnumDetail last place) other = absurd (other refl)
a_preset t offset NumDetail other = absurd (other refl)
a_preset t offset PresetDetail other = (_, refl)

module _ (t : GroupContents) (name : List ℕ) (state : State) (settings : AreSettings t.descriptors (length state)) (e : ℕ)
    (found : FindsEntry (names_in t.descriptors) name (Some e)) where
  -- the entry that is found
  descriptor : (d : Descriptor) × (slice_get t.descriptors e ≡ Some d) × (d.name ≡ name)
  descriptor = get_mapped (λ (x : Descriptor). x.name) t.descriptors e name found.holds

  -- where it has a value, that is the setting's
  pub has_value : (v : SettingValue) → slice_get state e ≡ Some v → e < length state → HasValue (served_in t) name state v
  has_value v there less =
      let (d, at, _) = descriptor in
      record {
        place = e;
        kind = kind_in t d.offset d.detail;
        entry = is_entry t name e d found at;
        setting = no_preset t d.offset d.detail ((settings e d at).1 less);
        there = there;
      }

  -- if there is no value at its place, the entry is a preset
  pub of_preset : length state ≤ e → IsOfPreset (served_in t) name
  of_preset past =
      let (d, at, _) = descriptor in
      record {
        place = e;
        kind = kind_in t d.offset d.detail;
        entry = is_entry t name e d found at;
        is_preset = a_preset t d.offset d.detail (λ is. let less = (settings e d at).0 is in omega (arith, less, past));
      }
