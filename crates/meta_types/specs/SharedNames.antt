-- Names that can't stand side by side.
--     SharesName a b             two names that can't
--     IsDuplicate names k j      an earlier name is shared by the one at place k, and the first such is at place j
--     AreDistinct names          no two of the names are shared
--     Keeps places names         the map finds the places of the names by their camel cases
use Rattle.std.specs.Prelude.{◌≡◌, ◌==◌, ◌<◌, ◌⊎◌, ℕ, List, Option, Some, slice_get}
use Rattle.std.specs.List.{position}
use Rattle.std.specs.Cmp.Lexicographic.{slice_cmp, pointwise}
use Rattle.std.specs.Ordering.{nat_cmp}
use Rattle.std.specs.BTreeMap.{BTreeMap, get}
use Rattle.meta_types.specs.CamelCase.{camel_case_of}

-- two names that can't stand side by side: they are the same, or their camel cases are
abbrev pub SharesName : List ℕ → List ℕ → Type 0
SharesName a b = (a ≡ b) ⊎ (camel_case_of a ≡ camel_case_of b)

-- the name at place k is shared by an earlier one, the first of which is at place j
pub record IsDuplicate (names : List (List ℕ)) (k j : ℕ) : Type 0 where
  pub name : List ℕ
  pub earlier : List ℕ
  pub is_name : slice_get names k ≡ Some name
  pub is_earlier : slice_get names j ≡ Some earlier
  pub before : j < k
  pub shares : SharesName earlier name
  pub first : (i : ℕ) (other : List ℕ) → i < j → slice_get names i ≡ Some other → SharesName other name → ⊥

-- no two of the names are shared
abbrev pub AreDistinct : List (List ℕ) → Type 0
AreDistinct names = (k j : ℕ) → IsDuplicate names k j → ⊥

-- no name stands twice
abbrev pub AreDifferentNames : List (List ℕ) → Type 0
AreDifferentNames names = (j k : ℕ) (name : List ℕ) → slice_get names j ≡ Some name → slice_get names k ≡ Some name → j ≡ k

-- the place of the first of the names that has this camel case
abbrev pub place_of : List ℕ → List (List ℕ) → Option ℕ
place_of camel names = position (λ name. pointwise ◌==◌ (camel_case_of name) camel) names

-- the map leads from a camel case to the place of the first of the names that has it
abbrev pub Keeps : BTreeMap (List ℕ) ℕ → List (List ℕ) → Type 0
Keeps places names = (camel : List ℕ) → get (slice_cmp nat_cmp) places camel ≡ place_of camel names
