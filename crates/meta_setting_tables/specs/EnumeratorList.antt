-- The one list of a group that holds the values of all its enums.
--     enumerators_of settings       the list
--     values_at enumerators values  where the values of an enum stand once they are added
use Rattle.std.specs.Prelude.{ℕ, ◌≡◌, ◌==◌, ◌+◌, ◌≤◌, Bool, List, [], length, take, drop, fold}
use Rattle.std.specs.Cmp.Lexicographic.{pointwise}
use Rattle.meta_unique.specs.Overlap.{added, added_at}
use Rattle.meta_settings.specs.declared.setting.SpecificSetting.{SpecificSetting}
use Rattle.meta_settings.specs.declared.setting.SpecificSetting.TheVariants.{Bool as ABool, Enum as AnEnum, Num as ANum}
use Rattle.meta_settings.specs.Layout.{PlacedSetting}

-- whether two texts are the same, byte by byte
abbrev pub same_text : List ℕ → List ℕ → Bool
same_text a b = pointwise ◌==◌ a b

-- the enumerators with these values: unchanged where there is no value or the values stand there in one piece, and else with
-- what follows the longest tail of the enumerators that is a proper prefix of the values
abbrev pub with_values : List (List ℕ) → List (List ℕ) → List (List ℕ)
with_values enumerators values = added same_text enumerators values

-- where the values then stand
abbrev pub values_at : List (List ℕ) → List (List ℕ) → ℕ
values_at enumerators values = added_at same_text enumerators values

-- the values of a setting, which only an enum has
abbrev pub built_values_of : SpecificSetting → List (List ℕ)
built_values_of (ABool b) = []
built_values_of (AnEnum values) = values
built_values_of (ANum default) = []

-- the enumerators of some settings: the values of each enum are added in order
abbrev pub enumerators_of : List PlacedSetting → List (List ℕ)
enumerators_of settings = fold (λ enumerators s. with_values enumerators (built_values_of s.specific)) [] settings

-- the values stand in the list one after another, from the place on
pub record StandAt (enumerators values : List (List ℕ)) (place : ℕ) : Type 0 where
  pub values_are : take (length values) (drop place enumerators) ≡ values

-- the old enumerators keep their places, and there are at most 256 more
pub record HasGrown (old new : List (List ℕ)) : Type 0 where
  pub kept : take (length old) new ≡ old
  pub most : length new ≤ length old + 256
