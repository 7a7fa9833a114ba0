-- The words that have a meaning before a file declares any.
--     plain_type w           the plain type of this name, if there is one
--     given_kind w           the kind that a word given already stands for
--     has_own_meaning w      whether no item can declare the word
--     set_of_one t           the set that has the type t alone
use Rattle.std.specs.Prelude.{ℕ, ◌==◌, ◌||◌, Bool, List, [], ◌∷◌, Option, Some, None, codes, is_some, if◌then◌else◌}
use Rattle.std.specs.List.{find, list_any}
use Rattle.std.specs.Cmp.Lexicographic.{pointwise}
use Rattle.meta_types.specs.AllTypes.{all_types}
use Rattle.meta_types.specs.TypeParts.{TypeParts, name_of}
use Rattle.meta_typevar.specs.TypeSetParts.{TypeSetParts}
use Rattle.meta_typevar.specs.Derivation.{int_width_of, float_width_of}
use Rattle.meta_file_types.specs.declared.given.GivenKind.{GivenKind}
use Rattle.meta_file_types.specs.declared.given.GivenKind.TheVariants as given

-- whether two words are the same
abbrev pub same_word : List ℕ → List ℕ → Bool
same_word v w = pointwise ◌==◌ v w

-- the plain type that has this name: `i32`, `f32x4`, `i8x16xN`
unfoldable pub plain_type : List ℕ → Option TypeParts
plain_type w = find (λ t. same_word (name_of t) w) all_types

-- the kind that a word stands for before any item declares one
unfoldable pub given_kind : List ℕ → Option GivenKind
given_kind w =
    if same_word w (codes "block") then Some given.Block
    else (if same_word w (codes "raw_block") then Some given.RawBlock
    else (if same_word w (codes "varargs") then Some given.Varargs else None))

-- the words, beside the names of plain types, that a place of a file gives a meaning of its own
unfoldable pub is_own_word : List ℕ → Bool
is_own_word w = list_any (same_word w) (codes "value" ∷ codes "designated" ∷ codes "block" ∷ codes "raw_block" ∷ codes "varargs"
    ∷ codes "none" ∷ [])

abbrev pub has_own_meaning : List ℕ → Bool
has_own_meaning w = is_some (plain_type w) || is_own_word w

-- the set that has the type alone: its width, and its lane count, which a dynamic vector has among the dynamic ones
abbrev pub set_of_one : TypeParts → TypeSetParts
set_of_one t = record {
  lanes = if t.is_dynamic then [] else (t.lanes ∷ []);
  dynamic_lanes = if t.is_dynamic then (t.lanes ∷ []) else [];
  ints = int_width_of t.kind t.width;
  floats = float_width_of t.kind t.width;
}
