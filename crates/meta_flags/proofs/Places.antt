-- Settings come before presets, so the number of a setting is its place among the values.
use Rattle.std.proofs.Common.{◌≡◌, ◌↔◌, ℕ, zero, suc, ◌+◌, ◌<◌, ◌≤◌, Bool, true, false, not, List, [], ◌∷◌, ◌++◌, length, map, take, refl}
use Rattle.std.proofs.Common.{sym, ap, ◌∙◌, length-append, arith}
use Rattle.std.specs.List.{flat_map}
use Rattle.std.proofs.lemmas.Bool.{false≢true, cond-true, cond-false}
use Rattle.meta_setting_tables.specs.declared.descriptor.Detail.{Detail}
use Rattle.meta_setting_tables.specs.declared.descriptor.Detail.TheVariants.{Bool as BoolDetail, Enum as EnumDetail, Num as NumDetail}
use Rattle.meta_setting_tables.specs.declared.descriptor.Detail.TheVariants.{Preset as PresetDetail}
use Rattle.meta_setting_tables.specs.declared.descriptor.Descriptor.{Descriptor}
use Rattle.meta_setting_tables.specs.GroupTables.{GroupContents}
use Rattle.meta_setting_tables.specs.WellFormed.{is_preset, own_byte_count, described_boolean_count, described_byte_count, IsPlaced}
use Rattle.meta_setting_tables.specs.WellFormed.{IsWellFormedGroup}
use Rattle.meta_flags.specs.Served.{ServedEntry, State, default_of, settings_in, kind_in, served_entry}
use Rattle.meta_flags.specs.Held.{AreSettings}

-- how many settings there are
abbrev pub setting_count : List Descriptor → ℕ
setting_count ds = own_byte_count ds + described_boolean_count ds

-- an entry that is placed is a setting exactly where it stands among the first
placed_setting : (own booleans size e offset : ℕ) (detail : Detail) → IsPlaced own booleans size e offset detail
    → ((is_preset detail ≡ false) ↔ (e < own + booleans))
placed_setting own booleans size e offset (BoolDetail bit) at =
    ((λ x. let w = at.within in let b = at.after in omega (arith, w, b)), (λ l. refl))
placed_setting own booleans size e offset (EnumDetail last place) at = ((λ x. let f = at.first in omega (arith, f)), (λ l. refl))
placed_setting own booleans size e offset NumDetail at = ((λ x. let f = at.first in omega (arith, f)), (λ l. refl))
placed_setting own booleans size e offset PresetDetail at =
    ((λ x. absurd (false≢true (sym x))), (λ l. let b = at.after in absurd (omega (arith, l, b))))

-- in well-formed tables the settings are the first entries
pub settings_first : (t : GroupContents) → IsWellFormedGroup t → AreSettings t.descriptors (setting_count t.descriptors)
settings_first t well e d at = placed_setting (own_byte_count t.descriptors) (described_boolean_count t.descriptors)
    (described_byte_count t.descriptors) e d.offset d.detail (well.placed e d at)

-- a setting has one default
pub one_default : (t : GroupContents) (offset : ℕ) (detail : Detail) → is_preset detail ≡ false
    → length (default_of (kind_in t offset detail)) ≡ 1
one_default t offset (BoolDetail bit) is = refl
one_default t offset (EnumDetail last place) is = refl
one_default t offset NumDetail is = refl
one_default t offset PresetDetail is = absurd (false≢true (sym is))

-- what is no setting has none
no_default : (t : GroupContents) (offset : ℕ) (detail : Detail) → (is_preset detail ≡ false → ⊥) → default_of (kind_in t offset detail) ≡ []
no_default t offset (BoolDetail bit) other = absurd (other refl)
no_default t offset (EnumDetail last place) other = absurd (other refl)
no_default t offset NumDetail other = absurd (other refl)
no_default t offset PresetDetail other = refl

-- the defaults of some entries
abbrev pub defaults : GroupContents → List Descriptor → State
defaults t ds = flat_map (λ (e : ServedEntry). default_of e.kind) (map (served_entry t) ds)

-- if none of the entries is a setting, neither are those after the first
none_after : (d : Descriptor) (ds : List Descriptor) → AreSettings (d ∷ ds) 0 → AreSettings ds 0
none_after d ds first e x at = ((λ is. let l = (first (suc e) x at).0 is in absurd (omega (arith, l))), (λ l. absurd (omega (arith, l))))

-- after the first setting there is one less
pub one_less : (d : Descriptor) (ds : List Descriptor) (n : ℕ) → AreSettings (d ∷ ds) (suc n) → AreSettings ds n
one_less d ds n first e x at =
    ((λ is. let l = (first (suc e) x at).0 is in omega (arith, l)), (λ l. (first (suc e) x at).1 (omega (arith, l))))

no_first : (d : Descriptor) (ds : List Descriptor) → AreSettings (d ∷ ds) 0 → is_preset d.detail ≡ false → ⊥
no_first d ds first is = let l = (first 0 d refl).0 is in omega (arith, l)

-- there are as many defaults as settings
pub counted : (t : GroupContents) (ds : List Descriptor) (n : ℕ) → n ≤ length ds → AreSettings ds n → length (defaults t ds) ≡ n
counted t [] n few first = omega arith
counted t (d ∷ ds) zero few first =
    let none = no_default t d.offset d.detail (no_first d ds first) in
    ap (λ (vs : State). length (vs ++ defaults t ds)) none ∙ counted t ds 0 (omega arith) (none_after d ds first)
counted t (d ∷ ds) (suc n) few first =
    let one = one_default t d.offset d.detail ((first 0 d refl).1 (omega arith)) in
    let rest = counted t ds n (omega (arith, few)) (one_less d ds n first) in
    length-append (default_of (kind_in t d.offset d.detail)) (defaults t ds) ∙ (let a = one in let b = rest in omega (arith, a, b))

-- what is not false is true
is_true : (b : Bool) → (b ≡ false → ⊥) → b ≡ true
is_true true other = refl
is_true false other = absurd (other refl)

-- the settings are the first n entries
pub settings_taken : (ds : List Descriptor) (n : ℕ) → AreSettings ds n → settings_in ds ≡ take n ds
settings_taken [] zero first = refl
settings_taken [] (suc n) first = refl
settings_taken (d ∷ ds) zero first =
    let preset = is_true (is_preset d.detail) (no_first d ds first) in
    cond-false (not (is_preset d.detail)) _ _ (ap not preset) ∙ settings_taken ds 0 (none_after d ds first)
settings_taken (d ∷ ds) (suc n) first =
    let setting = (first 0 d refl).1 (omega arith) in
    cond-true (not (is_preset d.detail)) _ _ (ap not setting)
    ∙ ap (λ (xs : List Descriptor). d ∷ xs) (settings_taken ds n (one_less d ds n first))
