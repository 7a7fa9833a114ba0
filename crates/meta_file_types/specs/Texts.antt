-- The texts that an item about types or kinds holds.
use Rattle.std.specs.Prelude.{ℕ, Bool, List, [], ◌∷◌, ◌++◌, Option, Some, None}
use Rattle.std.specs.List.{list_all, flat_map}
use Rattle.std.specs.Str.{is_utf8}
use Rattle.meta_file_syntax.specs.declared.name.Name.{Name}
use Rattle.meta_file_syntax.specs.declared.kinds.EnumValue.{EnumValue}
use Rattle.meta_file_syntax.specs.declared.kinds.Sort.{Sort}
use Rattle.meta_file_syntax.specs.declared.kinds.Sort.TheVariants as sorts
use Rattle.meta_file_syntax.specs.declared.types.TypeItem.{TypeItem}
use Rattle.meta_file_syntax.specs.declared.types.AliasItem.{AliasItem}
use Rattle.meta_file_syntax.specs.declared.kinds.KindItem.{KindItem}
use Rattle.meta_file_syntax.specs.Named.{name_bytes}

-- a text that is the word itself where it is left out
abbrev pub shown_or : List ℕ → Option (List ℕ) → List ℕ
shown_or word None = word
shown_or word (Some t) = t

abbrev pub field_or : List ℕ → Option Name → List ℕ
field_or word None = word
field_or word (Some n) = name_bytes n

-- the names of an enum's values, each with its name in Rust
abbrev pub value_texts : List EnumValue → List (List ℕ)
value_texts values = flat_map (λ v. name_bytes v.name ∷ name_bytes v.rust ∷ []) values

abbrev pub sort_texts : Sort → List (List ℕ)
sort_texts sorts.Entity = []
sort_texts sorts.Imm = []
sort_texts (sorts.ImmEnum values) = value_texts values
sort_texts sorts.Varargs = []
sort_texts (sorts.Value t) = []

-- the texts that an item holds: its word, the text that is shown, the lines of its documentation, and of a kind the Rust type, the field
-- and the names of the values
abbrev pub type_texts : TypeItem → List (List ℕ)
type_texts i = i.word ∷ (shown_or i.word i.shown ∷ i.docs)

abbrev pub alias_texts : AliasItem → List (List ℕ)
alias_texts i = i.word ∷ i.docs

abbrev pub kind_texts : KindItem → List (List ℕ)
kind_texts i = i.word ∷ (i.rust ∷ (field_or i.word i.field ∷ (i.docs ++ sort_texts i.sort)))

-- whether all of these are UTF-8
abbrev pub are_texts : List (List ℕ) → Bool
are_texts texts = list_all is_utf8 texts
