-- What is known of an entry by its detail.
use Rattle.std.proofs.Common.{◌≡◌, ℕ, false, List, refl, sym, subst}
use Rattle.meta_setting_tables.specs.declared.descriptor.Detail.{Detail}
use Rattle.meta_setting_tables.specs.declared.descriptor.Detail.TheVariants.{Bool as BoolDetail, Enum as EnumDetail, Num as NumDetail}
use Rattle.meta_setting_tables.specs.declared.descriptor.Detail.TheVariants.{Preset as PresetDetail}
use Rattle.meta_setting_tables.specs.GroupTables.{GroupContents}
use Rattle.meta_setting_tables.specs.WellFormed.{is_preset}
use Rattle.meta_flags.specs.Served.{SettingValue, kind_in}
use Rattle.meta_flags.specs.Changes.{IsPresetKind, IsText}
use Rattle.meta_flags.proofs.GetLemmas.{no_preset}

-- a preset is of a preset's kind
pub preset_kind : (t : GroupContents) (offset : ℕ) (detail : Detail) → detail ≡ PresetDetail → IsPresetKind (kind_in t offset detail)
preset_kind t offset detail e = subst (λ (x : Detail). IsPresetKind (kind_in t offset x)) (sym e) (_, refl)

-- what is no preset is a setting
pub setting_detail : (detail : Detail) → (detail ≡ PresetDetail → ⊥) → is_preset detail ≡ false
setting_detail (BoolDetail bit) other = refl
setting_detail (EnumDetail last place) other = refl
setting_detail NumDetail other = refl
setting_detail PresetDetail other = absurd (other refl)

-- an entry that is no preset isn't of a preset's kind
pub setting_kind : (t : GroupContents) (offset : ℕ) (detail : Detail) → (detail ≡ PresetDetail → ⊥)
    → IsPresetKind (kind_in t offset detail) → ⊥
setting_kind t offset detail other = no_preset t offset detail (setting_detail detail other)

-- what a word writes for a detail, it writes for the entry that has it
pub is_text_of : (t : GroupContents) (offset : ℕ) (detail other : Detail) (word : List ℕ) (v : SettingValue)
    → detail ≡ other → IsText (kind_in t offset other) word v → IsText (kind_in t offset detail) word v
is_text_of t offset detail other word v is text = subst (λ (x : Detail). IsText (kind_in t offset x) word v) (sym is) text

pub no_text_of : (t : GroupContents) (offset : ℕ) (detail other : Detail) (word : List ℕ) → detail ≡ other
    → ((v : SettingValue) → IsText (kind_in t offset other) word v → ⊥) → (v : SettingValue) → IsText (kind_in t offset detail) word v → ⊥
no_text_of t offset detail other word is none v text = none v (subst (λ (x : Detail). IsText (kind_in t offset x) word v) is text)
