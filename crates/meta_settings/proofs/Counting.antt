-- How many of some settings are booleans.
use Rattle.std.proofs.Common.{◌≡◌, ℕ, ◌+◌, ◌-◌, ◌/◌, List, length, refl, arith}
use Rattle.std.proofs.lemmas.List.Filters.{length-filter_both}
use Rattle.meta_settings.specs.GroupDeclaration.{SettingDeclaration, is_bool, has_own_byte, booleans_among, others_among}

pub all_counted : (settings : List SettingDeclaration) → length (booleans_among settings) + length (others_among settings) ≡ length settings
all_counted settings = length-filter_both is_bool has_own_byte (λ s. refl) settings

-- the count of the bytes, from those of all settings and of the booleans
pub bytes_counted : (settings : List SettingDeclaration) (n b : ℕ) → n ≡ length settings → b ≡ length (booleans_among settings)
    → n - b + (b + 7) / 8 ≡ length (others_among settings) + (length (booleans_among settings) + 7) / 8
bytes_counted settings n b e f = let counted = all_counted settings in omega (arith, counted, e, f)
