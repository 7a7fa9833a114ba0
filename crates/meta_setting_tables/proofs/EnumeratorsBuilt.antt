-- The enumerators of a group that is built: how many there are, and that they are names.
use Rattle.std.proofs.Common.{◌≡◌, ℕ, ◌+◌, ◌*◌, ◌<◌, ◌≤◌, zero, suc, List, [], ◌∷◌, All, length, slice_get, Some, refl, ap, arith}
use Rattle.std.specs.Prelude.{fold}
use Rattle.std.proofs.lemmas.List.Elements.{All-nil}
use Rattle.meta_settings.specs.declared.setting.SpecificSetting.{SpecificSetting}
use Rattle.meta_settings.specs.declared.setting.SpecificSetting.TheVariants.{Bool as ABool, Enum as AnEnum, Num as ANum}
use Rattle.meta_settings.specs.Layout.{PlacedSetting}
use Rattle.meta_setting_tables.specs.EnumeratorList.{same_text, with_values, built_values_of}
use Rattle.meta_setting_tables.proofs.Renaming.{added_most, added_all}

-- the enumerators of some settings, after others
abbrev enumerators_after : List (List ℕ) → List PlacedSetting → List (List ℕ)
enumerators_after enumerators settings =
    fold (λ enumerators (s : PlacedSetting). with_values enumerators (built_values_of s.specific)) enumerators settings

-- they are so where each value is so
pub all_after : (P : List ℕ → Type 0) (settings : List PlacedSetting) (enumerators : List (List ℕ)) → All P enumerators
    → ((k : ℕ) (s : PlacedSetting) (values : List (List ℕ)) → slice_get settings k ≡ Some s → s.specific ≡ AnEnum values → All P values)
    → All P (enumerators_after enumerators settings)
all_after P [] enumerators a each = a
all_after P (s ∷ settings) enumerators a each =
    all_after P settings (with_values enumerators (built_values_of s.specific))
    (added_all same_text P enumerators (built_values_of s.specific) a (of_one s.specific refl))
    (λ k t values at is. each (suc k) t values at is)
  where
    of_one : (x : SpecificSetting) → s.specific ≡ x → All P (built_values_of x)
    of_one (ABool b) is = All-nil P
    of_one (AnEnum values) is = each 0 s values refl is
    of_one (ANum default) is = All-nil P

-- there are at most 256 for each enum among the first settings
pub most_after : (settings : List PlacedSetting) (enumerators : List (List ℕ)) (enums : ℕ)
    → ((k : ℕ) (s : PlacedSetting) (values : List (List ℕ)) → slice_get settings k ≡ Some s → s.specific ≡ AnEnum values
    → (k < enums) × (length values ≤ 256)) → length (enumerators_after enumerators settings) ≤ length enumerators + 256 * enums
most_after [] enumerators enums each = omega arith
most_after (s ∷ settings) enumerators zero each =
    of_one s.specific refl (most_after settings enumerators zero (λ k t values at is. let e = each (suc k) t values at is in let bad = e.0
    in absurd (omega (arith, bad))))
  where
    of_one : (x : SpecificSetting) → s.specific ≡ x → length (enumerators_after enumerators settings) ≤ length enumerators + 256 * 0
        → length (enumerators_after (with_values enumerators (built_values_of s.specific)) settings) ≤ length enumerators + 256 * 0
    of_one (ABool b) is rest = rw (ap (λ y. length (enumerators_after (with_values enumerators (built_values_of y)) settings)) is) rest
    of_one (AnEnum values) is rest = let e = each 0 s values refl is in let bad = e.0 in absurd (omega (arith, bad))
    of_one (ANum default) is rest = rw (ap (λ y. length (enumerators_after (with_values enumerators (built_values_of y)) settings)) is) rest
most_after (s ∷ settings) enumerators (suc enums) each =
    let more = added_most same_text enumerators (built_values_of s.specific) in
    let few = of_one s.specific refl in
    let rest = most_after settings (with_values enumerators (built_values_of s.specific)) enums (λ k t values at is. let e =
    each (suc k) t values at is in let l = e.0 in (omega (arith, l), e.1)) in
    omega (arith, more, few, rest)
  where
    of_one : (x : SpecificSetting) → s.specific ≡ x → length (built_values_of s.specific) ≤ 256
    of_one (ABool b) is = rw (ap (λ y. length (built_values_of y)) is) (omega arith)
    of_one (AnEnum values) is = rw (ap (λ y. length (built_values_of y)) is) ((each 0 s values refl is).1)
    of_one (ANum default) is = rw (ap (λ y. length (built_values_of y)) is) (omega arith)
