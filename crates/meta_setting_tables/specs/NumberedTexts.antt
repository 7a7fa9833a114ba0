-- Texts that are named by their numbers.
use Rattle.std.specs.Prelude.{ℕ, ◌≡◌, ◌<◌, List, [], length, take, map, All, slice_index_or}
use Rattle.meta_unique.specs.Interning.{AreDifferent}
use Rattle.meta_setting_tables.specs.EnumeratorList.{same_text}

-- the texts that have these numbers
abbrev pub texts_numbered : List (List ℕ) → List ℕ → List (List ℕ)
texts_numbered texts numbers = map (λ number. slice_index_or texts number []) numbers

-- no two of the texts are the same, and each of the numbers is that of a text
pub record AreNumbered (texts : List (List ℕ)) (numbers : List ℕ) : Type 0 where
  pub different : AreDifferent same_text texts
  pub within : All (λ number. number < length texts) numbers

-- these are the numbers of the values
pub record AreNumbersOfTexts (texts values : List (List ℕ)) (numbers : List ℕ) : Type 0 where
  pub within : All (λ number. number < length texts) numbers
  pub values_are : texts_numbered texts numbers ≡ values

-- the old texts keep their numbers
pub record KeepsNumbers (old new : List (List ℕ)) : Type 0 where
  pub kept : take (length old) new ≡ old
