-- Names as words of Rust.
--     is_keyword name        a strict or reserved keyword
--     is_identifier name     what may name a parameter, a field or a variable
--     word_why name          why a name can be none of these
use Rattle.std.specs.Prelude.{ℕ, ◌==◌, Bool, false, not, ◌||◌, ◌&&◌, List, [], ◌∷◌, take, drop, Option, None, Some, if◌then◌else◌, codes}
use Rattle.std.specs.List.{list_any, list_all}
use Rattle.std.specs.Char.{is_ascii_alphabetic, is_ascii_alphanumeric}
use Rattle.meta_operands.specs.Texts.{same_text}
use Rattle.meta_rust_names.specs.Forms.{is_named}
use Rattle.meta_rust_names.specs.declared.refused.Why.{Why}
use Rattle.meta_rust_names.specs.declared.refused.Why.TheVariants.{Keyword, NoIdentifier, InScope}

-- ---- keywords, of which the 2024 edition has 52 that are no identifiers, `_` beside them; an earlier edition has some of these

-- those that stand for a place of their own, and can't be written after `r#` either
unfoldable pub is_path_word : List ℕ → Bool
is_path_word name =
    same_text name (codes "crate")
    || (same_text name (codes "self")
    || (same_text name (codes "Self")
    || same_text name (codes "super")))

-- the others, strict and reserved: words of items, of statements, of expressions and of types, and those with which nothing is written yet
abbrev pub keywords : List (List ℕ)
keywords =
    codes "abstract" ∷ codes "as" ∷ codes "async" ∷ codes "await" ∷ codes "become" ∷ codes "box" ∷ codes "break" ∷ codes "const"
    ∷ codes "continue" ∷ codes "do" ∷ codes "dyn" ∷ codes "else" ∷ codes "enum" ∷ codes "extern" ∷ codes "false" ∷ codes "final"
    ∷ codes "fn" ∷ codes "for" ∷ codes "gen" ∷ codes "if" ∷ codes "impl" ∷ codes "in" ∷ codes "let" ∷ codes "loop"
    ∷ codes "macro" ∷ codes "match" ∷ codes "mod" ∷ codes "move" ∷ codes "mut" ∷ codes "override" ∷ codes "priv" ∷ codes "pub"
    ∷ codes "ref" ∷ codes "return" ∷ codes "static" ∷ codes "struct" ∷ codes "trait" ∷ codes "true" ∷ codes "try" ∷ codes "type"
    ∷ codes "typeof" ∷ codes "unsafe" ∷ codes "unsized" ∷ codes "use" ∷ codes "virtual" ∷ codes "where" ∷ codes "while"
    ∷ codes "yield" ∷ []

-- A strict or reserved keyword of the 2024 edition. The editions before have fewer: of these `gen` is one in 2024 alone.
unfoldable pub is_keyword : List ℕ → Bool
is_keyword name = is_path_word name || list_any (same_text name) keywords

-- ---- identifiers

-- what an identifier begins with, and what may stand in one
abbrev pub begins_word : ℕ → Bool
begins_word c = is_ascii_alphabetic c || (c == 95)

abbrev pub is_in_word : ℕ → Bool
is_in_word c = is_ascii_alphanumeric c || (c == 95)

-- ASCII letters, digits and `_`, and no digit first; but not `_` alone, which names nothing
unfoldable pub is_word : List ℕ → Bool
is_word [] = false
is_word (c ∷ cs) = not (same_text (c ∷ cs) (codes "_")) && (begins_word c && list_all is_in_word cs)

-- `r#` and such a word, but for those that stand for a place
unfoldable pub is_raw_identifier : List ℕ → Bool
is_raw_identifier name =
    if same_text (take 2 name) (codes "r#") then (not (is_path_word (drop 2 name)) && is_word (drop 2 name)) else false

-- An identifier of ASCII, raw or not. Rust takes letters of other scripts too: those are told as no identifier.
abbrev pub is_identifier : List ℕ → Bool
is_identifier name = is_word name || is_raw_identifier name

-- the prelude's variants, raw or not, which no parameter, field or variable of a pattern can hide
unfoldable pub is_prelude_variant : List ℕ → Bool
is_prelude_variant name =
    is_named (codes "None") name
    || (is_named (codes "Some") name
    || (is_named (codes "Ok") name
    || is_named (codes "Err") name))

-- why a parameter, a field or a variable can't have the name, whatever stands beside it
unfoldable pub word_why : List ℕ → Option Why
word_why name =
    if is_keyword name then Some Keyword
    else (if not (is_identifier name) then Some NoIdentifier
    else (if is_prelude_variant name then Some InScope
    else None))
