-- The texts of types beside their names.
--     type_doc t              the documentation of a type
--     rust_name_of t          its name in Rust source
--     debug_of t              a lane or a vector as a programmer sees it
use Rattle.std.specs.Prelude.{ℕ, ◌==◌, List, ◌++◌, map, codes, if◌then◌else◌}
use Rattle.std.specs.Char.{to_ascii_uppercase}
use Rattle.std.specs.Fmt.{decimal}
use Rattle.meta_types.specs.TypeParts.{NumberKind, IntKind, FloatKind, TypeParts, lane_name, name_of}

-- `An integer type with 32 bits.`, `A 32-bit floating point type.`
abbrev pub lane_doc : NumberKind → ℕ → List ℕ
lane_doc IntKind width = codes "An integer type with " ++ (decimal width ++ codes " bits.")
lane_doc FloatKind width = codes "A " ++ (decimal width ++ codes "-bit floating point type.")

-- ``A SIMD vector with 4 lanes containing a `i32` each.``
abbrev pub vector_doc : TypeParts → List ℕ
vector_doc t = codes "A SIMD vector with "
    ++ (decimal t.lanes ++ (codes " lanes containing a `" ++ (lane_name t.kind t.width ++ codes "` each.")))

-- ``A dynamically-scaled SIMD vector with a minimum of 4 lanes containing `i32` bits each.``
abbrev pub dynamic_doc : TypeParts → List ℕ
dynamic_doc t = codes "A dynamically-scaled SIMD vector with a minimum of "
    ++ (decimal t.lanes ++ (codes " lanes containing `" ++ (lane_name t.kind t.width ++ codes "` bits each.")))

-- the documentation of a type: of its lane where it has one lane, else of its vector
abbrev pub type_doc : TypeParts → List ℕ
type_doc t = if t.lanes == 1 then lane_doc t.kind t.width else (if t.is_dynamic then dynamic_doc t else vector_doc t)

-- `ir::types::` and the name in capitals: `ir::types::I32X4XN`
abbrev pub rust_name_of : TypeParts → List ℕ
rust_name_of t = codes "ir::types::" ++ map to_ascii_uppercase (name_of t)

-- what `{:?}` writes of a lane: `IntType(bits=32)`, `FloatType(bits=32)`
abbrev pub lane_debug : NumberKind → ℕ → List ℕ
lane_debug IntKind width = codes "IntType(bits=" ++ (decimal width ++ codes ")")
lane_debug FloatKind width = codes "FloatType(bits=" ++ (decimal width ++ codes ")")

-- and of a vector: `VectorType(base=i32, lanes=4)`, `DynamicVectorType(base=i32, lanes=4)`
abbrev pub vector_debug : TypeParts → List ℕ
vector_debug t = (if t.is_dynamic then codes "DynamicVectorType(base=" else codes "VectorType(base=")
    ++ (lane_name t.kind t.width ++ (codes ", lanes=" ++ (decimal t.lanes ++ codes ")")))

abbrev pub debug_of : TypeParts → List ℕ
debug_of t = if t.lanes == 1 then lane_debug t.kind t.width else vector_debug t
