-- The words that a place gives a meaning of its own.
use Rattle.std.specs.Prelude.{ℕ, ◌==◌, List, [], ◌∷◌, map, Option, Some, None, if◌then◌else◌}
use Rattle.std.specs.Cmp.Lexicographic.{pointwise}
use denote.Enum.Declared.{tag_of}
use Rattle.meta_types.specs.DerivedFunc.{function_of, function_name}
use Rattle.meta_types.specs.declared.derived_func.DerivedFunc.{DerivedFunc}
use Rattle.meta_types.specs.declared.derived_func.TheConstants.{DERIVED_FUNCS}
use Rattle.meta_file_syntax.specs.WordTables.{with_word, word_at}
use Rattle.meta_file_syntax.specs.contracts.types.Dimension.{the_type as the_dimension}
use Rattle.meta_file_syntax.specs.contracts.insts.Property.{the_type as the_property}
use Rattle.meta_file_syntax.specs.declared.types.TheConstants.{DIMENSIONS}
use Rattle.meta_file_syntax.specs.declared.types.Dimension.{Dimension}
use Rattle.meta_file_syntax.specs.declared.insts.TheConstants.{PROPERTIES}
use Rattle.meta_file_syntax.specs.declared.insts.Property.{Property}

-- the word of a function that derives a type
abbrev pub function_text : DerivedFunc → List ℕ
function_text f = function_name (function_of f)

-- the first of these that is written so
abbrev pub written_so : {A : Type 0} → (A → List ℕ) → List A → List ℕ → Option A
written_so text [] w = None
written_so text (x ∷ xs) w = if pointwise ◌==◌ w (text x) then Some x else written_so text xs w

-- the function that a word is, if it is one
unfoldable pub function_named : List ℕ → Option DerivedFunc
function_named w = written_so function_text DERIVED_FUNCS w

-- the table of the parts of a set of types and their words
abbrev pub dimension_table : List (Dimension × List ℕ)
dimension_table = map (λ row. (row.0, row.1.now)) DIMENSIONS

-- the word of a part of a set of types
abbrev pub dimension_text : Dimension → List ℕ
dimension_text d = word_at dimension_table (tag_of the_dimension d)

-- the part that a word is, if it is one
unfoldable pub dimension_of : List ℕ → Option Dimension
dimension_of w = with_word dimension_table w

-- the table of the marks and their words
abbrev pub property_table : List (Property × List ℕ)
property_table = map (λ row. (row.0, row.1.now)) PROPERTIES

-- the word of a mark
abbrev pub property_text : Property → List ℕ
property_text p = word_at property_table (tag_of the_property p)

-- the mark that a word is, if it is one
unfoldable pub property_of : List ℕ → Option Property
property_of w = with_word property_table w
