-- Formats in use, and how each is found among them.
use Rattle.std.specs.Prelude.{◌≡◌, ◌⊎◌, ◌≤◌, ℕ, Bool, MatchBool, List, length, slice_get, Option, Some}
use Rattle.std.specs.Borrow.{Bor}
use Rattle.std.specs.Ordering.{nat_cmp}
use Rattle.std.specs.Cmp.Lexicographic.{slice_cmp}
use Rattle.std.specs.HashMap.{get}
use Rattle.std.specs.BTreeMap.{get as get_ordered}
use Rattle.meta_operands.specs.Structure.{same_structure}
use Rattle.meta_operands.specs.declared.format.InstructionFormat.{InstructionFormat}
use Rattle.meta_operands.specs.declared.structure.FormatStructure.{FormatStructure}
use Rattle.meta_build.specs.declared.formats.UsedFormat.{UsedFormat}
use Rattle.meta_build.specs.declared.formats_in_use.FormatsInUse.{FormatsInUse}
use Rattle.meta_build.specs.FormatsUsed.{IsAmong, IsNotAmong, AreOfTable}

-- there is a mark for each format of the table, which tells whether it is one of these
pub record AreMarked (formats : List InstructionFormat) (used : List UsedFormat) (marks : List Bool) : Type 0 where
  pub one_each : length marks ≡ length formats
  pub told : (f : ℕ) (mark : Bool) → slice_get marks f ≡ Some mark → MatchBool mark (IsAmong used f) (IsNotAmong used f)

-- the format at the place has the key
pub record IsPlaceOf {K : Type 0} (has : UsedFormat → K → Type 0) (used : List UsedFormat) (key : K) (place : ℕ) : Type 0 where
  pub format : UsedFormat
  pub at : slice_get used place ≡ Some format
  pub is : has format key

-- a look-up gives each key the place of the format that has it, and nothing if there is no such format
pub record ArePlaces {K : Type 0} (has : UsedFormat → K → Type 0) (used : List UsedFormat) (look_up : K → Option ℕ) : Type 0 where
  pub sound : (key : K) (place : ℕ) → look_up key ≡ Some place → IsPlaceOf has used key place
  pub complete : (key : K) (place : ℕ) → IsPlaceOf has used key place → look_up key ≡ Some place

-- the format has the name
pub record HasName (formats : List InstructionFormat) (used : UsedFormat) (name : Bor (List ℕ)) : Type 0 where
  pub format : InstructionFormat
  pub at : slice_get formats used.id ≡ Some format
  pub is : format.name ≡ name.now

-- the format has the structure
abbrev pub HasStructure : UsedFormat → FormatStructure → Type 0
HasStructure used structure = used.structure ≡ structure

-- each format is one of the table, and is found by its mark, its name and its structure
pub record AreIndexed (f : FormatsInUse) : Type 0 where
  pub of_table : AreOfTable f.formats.now f.used.items
  pub marked : AreMarked f.formats.now f.used.items f.is_used.items
  pub named : ArePlaces (HasName f.formats.now) f.used.items (get_ordered (λ a b. slice_cmp nat_cmp a.now b.now) f.by_name)
  pub structured : ArePlaces HasStructure f.used.items (get same_structure f.by_structure)

-- the first of two places, where there is one
pub record IsFirstOf (one other : Option ℕ) (place : ℕ) : Type 0 where
  pub is : (one ≡ Some place) ⊎ (other ≡ Some place)
  pub not_after_one : (p : ℕ) → one ≡ Some p → place ≤ p
  pub not_after_other : (p : ℕ) → other ≡ Some p → place ≤ p
