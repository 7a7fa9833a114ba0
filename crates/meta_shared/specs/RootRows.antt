-- Rows of the table of root variables.
--     root_row_content row n   what is kept of the root that a row describes, whose number is n
--     AreRootRows rows         the rows have the sets of the roots in order, and each can be built
use Rattle.std.specs.Prelude.{◌≡◌, ℕ, ◌&&◌, ◌+◌, nat_le, nat_eq, Bool, true, false, List, [], ◌∷◌, length, map}
use Rattle.std.specs.List.{list_any, list_all}
use Rattle.meta_types.specs.Lane.{lane_parts}
use Rattle.meta_types.specs.TypeParts.{IntKind, FloatKind, name_of, widths, lane_counts}
use Rattle.meta_types.specs.TypeText.{type_doc}
use Rattle.meta_typevar.specs.TypeSetParts.{TypeSetParts}
use Rattle.meta_typevar.specs.Derivation.{singleton_sets}
use Rattle.meta_typevar.specs.Intervals.{Intervals, sets_between}
use Rattle.meta_typevar.specs.Registry.{root_content}
use Rattle.meta_typevar.specs.declared.content.TypeVarContent.{TypeVarContent}
use Rattle.meta_typevar.specs.declared.interval.Interval.{Interval}
use Rattle.meta_typevar.specs.declared.interval.Interval.TheVariants.{None as NoInterval, All as Full, Range as Ranged}
use Rattle.meta_shared.specs.declared.root.Root.{Root}
use Rattle.meta_shared.specs.declared.root.Root.TheVariants.{ST1, ST2, I32, A1, A2, V1, B1, B2, Int1, Int4, IxN, I8, F16, F32, F64}
use Rattle.meta_shared.specs.declared.root.Root.TheVariants.{F128, Int2, NarrowInt, NarrowScalar, IB, Truthy, AtomicMem, IntTo1}
use Rattle.meta_shared.specs.declared.root.Root.TheVariants.{IntTo2, Int3, ISwappable, WideInt, V2, Any, Bits, Mem, IExt8, IExt16}
use Rattle.meta_shared.specs.declared.root.Root.TheVariants.{I32_64, IExt32, I16x8, I32x4, I64x2, Tx16, I16or32, Float, W, N}
use Rattle.meta_shared.specs.declared.root.Root.TheVariants.{FloatScalar, F64x2, F32x4, IntTo3, FloatTo, V3}
use Rattle.meta_shared.specs.declared.root_rows.Span.{Span}
use Rattle.meta_shared.specs.declared.root_rows.Span.TheVariants.{Nothing, Everything, Between}
use Rattle.meta_shared.specs.declared.root_rows.SetRow.{SetRow}
use Rattle.meta_shared.specs.declared.root_rows.RootRow.{RootRow}
use Rattle.meta_shared.specs.declared.root_rows.RootRow.TheVariants.{Set, Single}
use Rattle.meta_shared.specs.Formats.{AreNumbered}
use Rattle.meta_shared.specs.Roots.{set_of_root}

-- the roots of the table
abbrev pub roots_in_order : List Root
roots_in_order =
    ST1 ∷ ST2 ∷ I32 ∷ A1 ∷ A2 ∷ V1 ∷ B1 ∷ B2 ∷ Int1 ∷ Int4 ∷
    IxN ∷ I8 ∷ F16 ∷ F32 ∷ F64 ∷ F128 ∷ Int2 ∷ NarrowInt ∷ NarrowScalar ∷ IB ∷
    Truthy ∷ AtomicMem ∷ IntTo1 ∷ IntTo2 ∷ Int3 ∷ ISwappable ∷ WideInt ∷ V2 ∷ Any ∷ Bits ∷
    Mem ∷ IExt8 ∷ IExt16 ∷ I32_64 ∷ IExt32 ∷ I16x8 ∷ I32x4 ∷ I64x2 ∷ Tx16 ∷ I16or32 ∷
    Float ∷ W ∷ N ∷ FloatScalar ∷ F64x2 ∷ F32x4 ∷ IntTo3 ∷ FloatTo ∷ V3 ∷
    []

-- the interval that is meant
abbrev pub interval_meant : Span → Interval
interval_meant Nothing = NoInterval
interval_meant Everything = Full
interval_meant (Between low high) = Ranged (record { start = low; end = high })

-- the parts of a set
abbrev pub parts_of : SetRow → Intervals
parts_of row = record {
  ints = interval_meant row.ints;
  floats = interval_meant row.floats;
  simd_lanes = interval_meant row.lanes;
  dynamic_simd_lanes = interval_meant row.dynamic_lanes;
  includes_scalars = true;
}

-- the set of a row
abbrev pub sets_of_row : RootRow → TypeSetParts
sets_of_row (Set row) = sets_between (parts_of row)
sets_of_row (Single lane) = singleton_sets (lane_parts lane)

-- what is kept of the root that a row describes
abbrev pub root_row_content : RootRow → ℕ → TypeVarContent
root_row_content (Set row) n = root_content row.name.now row.doc.now (sets_between (parts_of row)) n
root_row_content (Single lane) n = root_content (name_of (lane_parts lane)) (type_doc (lane_parts lane))
    (singleton_sets (lane_parts lane)) n

-- the contents of rows, numbered from n
abbrev pub contents_of : ℕ → List RootRow → List TypeVarContent
contents_of n [] = []
contents_of n (row ∷ rows) = root_row_content row n ∷ contents_of (n + 1) rows

-- whether an interval may be built over the numbers
abbrev pub is_within : List ℕ → Span → Bool
is_within all Nothing = true
is_within all Everything = true
is_within all (Between low high) = list_any (nat_eq low) all && (list_any (nat_eq high) all && nat_le low high)

-- whether a row can be built
abbrev pub can_build_row : RootRow → Bool
can_build_row (Set row) = is_within (widths IntKind) row.ints
    && (is_within (widths FloatKind) row.floats
    && (is_within (lane_counts false) row.lanes && is_within (lane_counts true) row.dynamic_lanes))
can_build_row (Single lane) = true

abbrev pub CanBuildRow : RootRow → Type 0
CanBuildRow row = can_build_row row ≡ true

-- the rows have the sets of the roots in order, and each can be built
pub record AreRootRows (rows : List RootRow) : Type 0 where
  pub sets : map sets_of_row rows ≡ map set_of_root roots_in_order
  pub buildable : list_all can_build_row rows ≡ true

-- the variables are those of the rows, and what was found are their numbers
pub record AreAdded (rows : List RootRow) (vars : List TypeVarContent) (found : List ℕ) : Type 0 where
  pub contents : vars ≡ contents_of 0 rows
  pub numbers : AreNumbered 0 (length rows) found

-- the variables are those of the whole table
pub record AreFirstRoots (vars : List TypeVarContent) (found : List ℕ) : Type 0 where
  pub rows : List RootRow
  pub are_rows : AreRootRows rows
  pub added : AreAdded rows vars found
