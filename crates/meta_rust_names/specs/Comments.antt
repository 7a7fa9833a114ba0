-- What can't stand in a comment that ends with its line.
--     breaks_comment text    the text ends the comment, or the compiler refuses it there
use Rattle.std.specs.Prelude.{ℕ, ◌==◌, Bool, false, ◌||◌, ◌&&◌, nat_lt, List, [], ◌∷◌, Option, None, Some, if◌then◌else◌}
use Rattle.std.specs.Str.{trim}
use Rattle.meta_rust_text.specs.Docs.{has_text, first_line}
use Rattle.meta_rust_names.specs.declared.refused.Why.{Why}
use Rattle.meta_rust_names.specs.declared.refused.Why.TheVariants.{BreaksComment, NoType}

-- the bytes begin with a character that turns the direction of text: one of U+202A to U+202E, or of U+2066 to U+2069
abbrev pub begins_turn : List ℕ → Bool
begins_turn [] = false
begins_turn (a ∷ []) = false
begins_turn (a ∷ b ∷ []) = false
begins_turn (a ∷ b ∷ c ∷ cs) =
    a == 0xe2
    && ((b == 0x80 && (nat_lt 0xa9 c && nat_lt c 0xaf))
    || (b == 0x81 && (nat_lt 0xa5 c && nat_lt c 0xaa)))

-- they begin with a line feed, a carriage return, or such a character
abbrev pub begins_break : List ℕ → Bool
begins_break [] = false
begins_break (c ∷ cs) = (c == 10) || ((c == 13) || begins_turn (c ∷ cs))

-- A line feed ends the comment, and the compiler refuses a carriage return within a line and a character that turns the direction
-- of text.
abbrev pub breaks_comment : List ℕ → Bool
breaks_comment [] = false
breaks_comment (c ∷ cs) = begins_break (c ∷ cs) || breaks_comment cs

-- why what stands in a comment as it is can't
unfoldable pub comment_why : List ℕ → Option Why
comment_why text = if breaks_comment text then Some BreaksComment else None

-- the same of a documentation, of which the first line stands in a comment
unfoldable pub doc_why : List ℕ → Option Why
doc_why doc = comment_why (first_line doc)

-- why a text can't be a type: it has nothing but white space
unfoldable pub type_why : List ℕ → Option Why
type_why rust_type = if has_text (trim rust_type) then None else Some NoType
