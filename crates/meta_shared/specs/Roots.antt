-- The root variables.
--     root_place w             the place of the root w among the 50, from 0
--     root_of r w              its number
--     set_of_root w            its set
--     AreRoots vars r          each is a variable without a parent, with its set
use Rattle.std.specs.Prelude.{◌≡◌, ◌<◌, ℕ, List, [], ◌∷◌, length}
use Rattle.meta_typevar.specs.TypeSetParts.{TypeSetParts}
use Rattle.meta_typevar.specs.Variable.{underived}
use Rattle.meta_typevar.specs.Registry.{variable_at, sets_of}
use Rattle.meta_typevar.specs.declared.content.TypeVarContent.{TypeVarContent}
use Rattle.meta_shared.specs.declared.root.Root.{Root}
use Rattle.meta_shared.specs.declared.root.Root.TheVariants.{ST1, ST2, I32, A1, A2, V1, B1, B2, Int1, Int4, IxN, I8, F16, F32, F64}
use Rattle.meta_shared.specs.declared.root.Root.TheVariants.{F128, Int2, NarrowInt, NarrowScalar, IB, Truthy, AtomicMem, IntTo1}
use Rattle.meta_shared.specs.declared.root.Root.TheVariants.{IntTo2, Int3, ISwappable, WideInt, V2, Any, Bits, Mem, IExt8, IExt16}
use Rattle.meta_shared.specs.declared.root.Root.TheVariants.{I32_64, IExt32, I16x8, I32x4, I64x2, Tx16, I16or32, Float, W, N}
use Rattle.meta_shared.specs.declared.root.Root.TheVariants.{FloatScalar, F64x2, F32x4, IntTo3, FloatTo, V3, MemTo}
use Rattle.meta_shared.specs.declared.roots.Roots.{Roots}

-- the place of a root among the 50
abbrev pub root_place : Root → ℕ
root_place ST1 = 0
root_place ST2 = 1
root_place I32 = 2
root_place A1 = 3
root_place A2 = 4
root_place V1 = 5
root_place B1 = 6
root_place B2 = 7
root_place Int1 = 8
root_place Int4 = 9
root_place IxN = 10
root_place I8 = 11
root_place F16 = 12
root_place F32 = 13
root_place F64 = 14
root_place F128 = 15
root_place Int2 = 16
root_place NarrowInt = 17
root_place NarrowScalar = 18
root_place IB = 19
root_place Truthy = 20
root_place AtomicMem = 21
root_place IntTo1 = 22
root_place IntTo2 = 23
root_place Int3 = 24
root_place ISwappable = 25
root_place WideInt = 26
root_place V2 = 27
root_place Any = 28
root_place Bits = 29
root_place Mem = 30
root_place IExt8 = 31
root_place IExt16 = 32
root_place I32_64 = 33
root_place IExt32 = 34
root_place I16x8 = 35
root_place I32x4 = 36
root_place I64x2 = 37
root_place Tx16 = 38
root_place I16or32 = 39
root_place Float = 40
root_place W = 41
root_place N = 42
root_place FloatScalar = 43
root_place F64x2 = 44
root_place F32x4 = 45
root_place IntTo3 = 46
root_place FloatTo = 47
root_place V3 = 48
root_place MemTo = 49

-- its number
abbrev pub root_of : Roots → Root → ℕ
root_of r ST1 = r.tv_st1
root_of r ST2 = r.tv_st2
root_of r I32 = r.tv_i32
root_of r A1 = r.tv_a1
root_of r A2 = r.tv_a2
root_of r V1 = r.tv_v1
root_of r B1 = r.tv_b1
root_of r B2 = r.tv_b2
root_of r Int1 = r.tv_int1
root_of r Int4 = r.tv_int4
root_of r IxN = r.tv_ixn
root_of r I8 = r.tv_i8
root_of r F16 = r.tv_f16
root_of r F32 = r.tv_f32
root_of r F64 = r.tv_f64
root_of r F128 = r.tv_f128
root_of r Int2 = r.tv_int2
root_of r NarrowInt = r.tv_narrowint
root_of r NarrowScalar = r.tv_narrowscalar
root_of r IB = r.tv_ib
root_of r Truthy = r.tv_truthy
root_of r AtomicMem = r.tv_atomicmem
root_of r IntTo1 = r.tv_intto1
root_of r IntTo2 = r.tv_intto2
root_of r Int3 = r.tv_int3
root_of r ISwappable = r.tv_iswappable
root_of r WideInt = r.tv_wideint
root_of r V2 = r.tv_v2
root_of r Any = r.tv_any
root_of r Bits = r.tv_bits
root_of r Mem = r.tv_mem
root_of r IExt8 = r.tv_iext8
root_of r IExt16 = r.tv_iext16
root_of r I32_64 = r.tv_i32_64
root_of r IExt32 = r.tv_iext32
root_of r I16x8 = r.tv_i16x8
root_of r I32x4 = r.tv_i32x4
root_of r I64x2 = r.tv_i64x2
root_of r Tx16 = r.tv_tx16
root_of r I16or32 = r.tv_i16or32
root_of r Float = r.tv_float
root_of r W = r.tv_w
root_of r N = r.tv_n
root_of r FloatScalar = r.tv_floatscalar
root_of r F64x2 = r.tv_f64x2
root_of r F32x4 = r.tv_f32x4
root_of r IntTo3 = r.tv_intto3
root_of r FloatTo = r.tv_floatto
root_of r V3 = r.tv_v3
root_of r MemTo = r.tv_memto

abbrev pub set : List ℕ → List ℕ → List ℕ → List ℕ → TypeSetParts
set lanes dynamic_lanes ints floats = record { lanes = lanes; dynamic_lanes = dynamic_lanes; ints = ints; floats = floats }

abbrev pub scalars_alone : List ℕ
scalars_alone = 1 ∷ []

abbrev pub vectors : List ℕ
vectors = 2 ∷ 4 ∷ 8 ∷ 16 ∷ 32 ∷ 64 ∷ 128 ∷ 256 ∷ []

abbrev pub all_lanes : List ℕ
all_lanes = 1 ∷ vectors

abbrev pub all_floats : List ℕ
all_floats = 16 ∷ 32 ∷ 64 ∷ 128 ∷ []

abbrev pub all_ints : List ℕ
all_ints = 8 ∷ all_floats

-- the set of a root: lanes, dynamic lanes, ints, floats
abbrev pub set_of_root : Root → TypeSetParts
set_of_root ST1 = set scalars_alone [] all_ints []
set_of_root ST2 = set scalars_alone [] all_ints []
set_of_root I32 = set scalars_alone [] (32 ∷ []) []
set_of_root A1 = set scalars_alone [] (32 ∷ 64 ∷ []) []
set_of_root A2 = set scalars_alone [] (32 ∷ 64 ∷ []) []
set_of_root V1 = set vectors vectors all_ints all_floats
set_of_root B1 = set (16 ∷ []) [] (8 ∷ []) []
set_of_root B2 = set (16 ∷ []) [] (8 ∷ []) []
set_of_root Int1 = set all_lanes [] all_ints []
set_of_root Int4 = set all_lanes [] all_ints []
set_of_root IxN = set vectors [] all_ints []
set_of_root I8 = set scalars_alone [] (8 ∷ []) []
set_of_root F16 = set scalars_alone [] [] (16 ∷ [])
set_of_root F32 = set scalars_alone [] [] (32 ∷ [])
set_of_root F64 = set scalars_alone [] [] (64 ∷ [])
set_of_root F128 = set scalars_alone [] [] (128 ∷ [])
set_of_root Int2 = set all_lanes vectors all_ints []
set_of_root NarrowInt = set scalars_alone [] (8 ∷ 16 ∷ 32 ∷ 64 ∷ []) []
set_of_root NarrowScalar = set scalars_alone [] (8 ∷ 16 ∷ 32 ∷ 64 ∷ []) []
set_of_root IB = set scalars_alone [] all_ints []
set_of_root Truthy = set scalars_alone [] all_ints []
set_of_root AtomicMem = set scalars_alone [] all_ints []
set_of_root IntTo1 = set scalars_alone [] all_ints []
set_of_root IntTo2 = set scalars_alone [] all_ints []
set_of_root Int3 = set scalars_alone [] all_ints []
set_of_root ISwappable = set scalars_alone [] (16 ∷ 32 ∷ 64 ∷ 128 ∷ []) []
set_of_root WideInt = set scalars_alone [] (16 ∷ 32 ∷ 64 ∷ 128 ∷ []) []
set_of_root V2 = set vectors [] all_ints all_floats
set_of_root Any = set all_lanes [] all_ints all_floats
set_of_root Bits = set all_lanes [] all_ints all_floats
set_of_root Mem = set all_lanes vectors all_ints all_floats
set_of_root IExt8 = set scalars_alone [] (16 ∷ 32 ∷ 64 ∷ []) []
set_of_root IExt16 = set scalars_alone [] (32 ∷ 64 ∷ []) []
set_of_root I32_64 = set scalars_alone [] (32 ∷ 64 ∷ []) []
set_of_root IExt32 = set scalars_alone [] (64 ∷ []) []
set_of_root I16x8 = set (8 ∷ []) [] (16 ∷ []) []
set_of_root I32x4 = set (4 ∷ []) [] (32 ∷ []) []
set_of_root I64x2 = set (2 ∷ []) [] (64 ∷ []) []
set_of_root Tx16 = set (16 ∷ []) [] (8 ∷ []) []
set_of_root I16or32 = set (4 ∷ 8 ∷ []) [] (16 ∷ 32 ∷ []) []
set_of_root Float = set all_lanes vectors [] all_floats
set_of_root W = set (2 ∷ 4 ∷ 8 ∷ []) (2 ∷ 4 ∷ 8 ∷ []) (16 ∷ 32 ∷ 64 ∷ []) []
set_of_root N = set (2 ∷ 4 ∷ 8 ∷ 16 ∷ []) (2 ∷ 4 ∷ 8 ∷ 16 ∷ []) (8 ∷ 16 ∷ 32 ∷ []) []
set_of_root FloatScalar = set scalars_alone [] [] all_floats
set_of_root F64x2 = set (2 ∷ []) [] [] (64 ∷ [])
set_of_root F32x4 = set (4 ∷ []) [] [] (32 ∷ [])
set_of_root IntTo3 = set all_lanes [] all_ints []
set_of_root FloatTo = set all_lanes [] [] all_floats
set_of_root V3 = set scalars_alone vectors all_ints all_floats
set_of_root MemTo = set all_lanes vectors all_ints all_floats

-- v is a variable without a parent, and has the set s
pub record IsRootWith (vars : List TypeVarContent) (v : ℕ) (s : TypeSetParts) : Type 0 where
  pub of : v < length vars
  pub root : variable_at vars v ≡ underived v
  pub set_is : sets_of vars v ≡ s

-- each root is one, with its set
abbrev pub AreRoots : List TypeVarContent → Roots → Type 0
AreRoots vars r = (root : Root) → IsRootWith vars (root_of r root) (set_of_root root)

-- the roots are numbered in the order of their names
abbrev pub AreNumberedRoots : Roots → Type 0
AreNumberedRoots r = (root : Root) → root_of r root ≡ root_place root
