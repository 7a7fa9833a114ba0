-- The names of types in Rust source, read.
use Rattle.std.proofs.Common.{◌≡◌, ℕ, eqb, Bool, true, List, map, refl}
use Rattle.std.specs.Char.{to_ascii_uppercase}
use Rattle.std.specs.Cmp.Lexicographic.{bytes_decides}
use Rattle.std.specs.Fmt.{digits}
use lib.Pointwise.{pointwise}
use Rattle.meta_types.specs.TypeParts.{TypeParts, IsType, number_of, name_of}
use Rattle.meta_types.specs.TypeText.{rust_name_of}
use Rattle.meta_types.proofs.AllTypes.{at_all, at_all_types}
use Rattle.meta_table_text.specs.ConstraintText.{type_numbered, type_text}
use Rattle.meta_table_reader.specs.Spans.{lacks}
use Rattle.meta_table_reader.specs.Words.{small_letter}

abbrev pub capitals : TypeParts → List ℕ
capitals t = map to_ascii_uppercase (name_of t)

-- the name of a type comes back from its capitals
abbrev comes_back : TypeParts → Bool
comes_back t = pointwise eqb (map small_letter (capitals t)) (name_of t)

all_come_back : at_all comes_back ≡ true
unfolding digits
all_come_back = refl

pub come_back : (t : TypeParts) → IsType t → map small_letter (capitals t) ≡ name_of t
come_back t is = (bytes_decides (map small_letter (capitals t)) (name_of t)).0 (at_all_types comes_back all_come_back t is)

-- no parenthesis stands in a name, nor an end of a line
all_lack_parenthesis : at_all (λ t. lacks 41 (capitals t)) ≡ true
unfolding digits
all_lack_parenthesis = refl

pub capitals_lack_parenthesis : (t : TypeParts) → IsType t → lacks 41 (capitals t) ≡ true
capitals_lack_parenthesis t is = at_all_types (λ t. lacks 41 (capitals t)) all_lack_parenthesis t is

all_lack_end : at_all (λ t. lacks 10 (rust_name_of t)) ≡ true
unfolding digits
all_lack_end = refl

pub rust_name_lacks : (t : TypeParts) → IsType t → lacks 10 (rust_name_of t) ≡ true
rust_name_lacks t is = at_all_types (λ t. lacks 10 (rust_name_of t)) all_lack_end t is

-- the text of a type's number is its name in Rust source
abbrev is_text : TypeParts → Bool
is_text t = pointwise eqb (type_text (number_of t)) (rust_name_of t)

all_texts : at_all is_text ≡ true
unfolding digits type_text type_numbered
all_texts = refl

pub type_text_is : (t : TypeParts) → IsType t → type_text (number_of t) ≡ rust_name_of t
type_text_is t is = (bytes_decides (type_text (number_of t)) (rust_name_of t)).0 (at_all_types is_text all_texts t is)
