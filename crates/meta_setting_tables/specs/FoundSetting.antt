-- What the name of an entry finds.
use Rattle.std.specs.Prelude.{ℕ, ◌≡◌, List, ◌++◌, ◌+◌, length, map, slice_get, Option, Some, None}
use Rattle.meta_lists.specs.First.{IsFirst}
use Rattle.meta_settings.specs.Layout.{Layout}

-- the names of the entries of a group: its settings, then its presets
abbrev pub entry_names : Layout → List (List ℕ)
entry_names g = map (λ s. s.name) g.settings ++ map (λ p. p.name) g.presets

-- how many entries it has
abbrev pub laid_entry_count : Layout → ℕ
laid_entry_count g = length g.settings + length g.presets

-- the entry has the name
abbrev pub IsEntryNamed : List (List ℕ) → List ℕ → ℕ → Type 0
IsEntryNamed names name e = slice_get names e ≡ Some name

-- nothing is found exactly where no entry has the name, and else the first that has it
abbrev pub FindsEntry : List (List ℕ) → List ℕ → Option ℕ → Type 0
FindsEntry names name None = (e : ℕ) → IsEntryNamed names name e → ⊥
FindsEntry names name (Some e) = IsFirst (IsEntryNamed names name) e
