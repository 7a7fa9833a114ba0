-- What items declare of types and kinds.
--     Said                   the words with what they stand for, the type variables, each in order, and the symbols that are mentioned
--     after s place i        what is declared where the item i, which stands at this place among all items, comes after what is declared
--     wrong_with s i         what is wrong with an item after what the items above it declare, if anything is
use Rattle.std.specs.Prelude.{ℕ, List, [], ◌∷◌, ◌++◌, length, Option, Some, None, Result, Ok, Err, if◌then◌else◌}
use Rattle.meta_typevar.specs.TypeSetParts.{TypeSetParts}
use Rattle.meta_file_syntax.specs.declared.types.TypeExpr.{TypeExpr}
use Rattle.meta_file_syntax.specs.declared.types.SetExpr.{SetExpr}
use Rattle.meta_file_syntax.specs.declared.types.SetExpr.TheVariants as sets
use Rattle.meta_file_syntax.specs.declared.kinds.Sort.{Sort}
use Rattle.meta_file_syntax.specs.declared.kinds.Sort.TheVariants as sorts
use Rattle.meta_file_syntax.specs.declared.types.TypeItem.{TypeItem}
use Rattle.meta_file_syntax.specs.declared.types.AliasItem.{AliasItem}
use Rattle.meta_file_syntax.specs.declared.kinds.KindItem.{KindItem}
use Rattle.meta_file_syntax.specs.declared.items.Item.{Item}
use Rattle.meta_file_syntax.specs.declared.items.Item.TheVariants as item
use Rattle.meta_file_syntax.specs.Named.{doc_text}
use Rattle.meta_file_types.specs.declared.refused.Reason.{Reason}
use Rattle.meta_file_types.specs.declared.refused.Reason.TheVariants.{NotText, DocumentedAlias}
use Rattle.meta_file_types.specs.Texts.{shown_or, field_or, type_texts, alias_texts, kind_texts, are_texts}
use Rattle.meta_file_types.specs.Meant.{MeantType, MeantSort, MeantKind, MeantRoot, Declared, Sense, TypeSense, KindSense, root_type}
use Rattle.meta_file_types.specs.Telling.{◌>>=◌, unless, reason_in}
use Rattle.meta_file_types.specs.Symbols.{Symbol, symbol, with_type}
use Rattle.meta_file_types.specs.Words.{Entry, wrong_word, type_named, type_of, set_of, sort_of}

-- what items declare: words, and type variables. And the type variables that a registry has for them, in the order in which the items first
-- mention them
pub record Said : Type 0 where
  pub words : List Entry
  pub roots : List MeantRoot
  pub symbols : List Symbol

-- ---- what is mentioned

abbrev pub with_meant : List Symbol → Result MeantType Reason → List Symbol
with_meant symbols (Ok m) = with_type symbols m
with_meant symbols (Err reason) = symbols

-- a type is mentioned, where one is meant
abbrev pub mentioning : Said → Result MeantType Reason → Said
mentioning s meant = record { words = s.words; roots = s.roots; symbols = with_meant s.symbols meant }

-- after a type expression
abbrev pub after_type : Said → TypeExpr → Said
after_type s t = mentioning s (type_of s.words t)

-- after the set of a type variable
abbrev pub with_set : List Entry → List Symbol → SetExpr → List Symbol
with_set words symbols (sets.Parts parts) = symbols
with_set words symbols (sets.Like w) = with_meant symbols (type_named words w)

abbrev pub after_set : Said → SetExpr → Said
after_set s set = record { words = s.words; roots = s.roots; symbols = with_set s.words s.symbols set }

-- after what operands of a kind are
abbrev pub with_sort : List Entry → List Symbol → Sort → List Symbol
with_sort words symbols sorts.Entity = symbols
with_sort words symbols sorts.Imm = symbols
with_sort words symbols (sorts.ImmEnum values) = symbols
with_sort words symbols sorts.Varargs = symbols
with_sort words symbols (sorts.Value t) = with_meant symbols (type_of words t)

abbrev pub after_sort : Said → Sort → Said
after_sort s sort = record { words = s.words; roots = s.roots; symbols = with_sort s.words s.symbols sort }

-- ---- one item

-- texts that aren't UTF-8
abbrev pub wrong_texts : List (List ℕ) → Option Reason
wrong_texts texts = if are_texts texts then None else Some NotText

-- documentation of another word for a type
abbrev pub wrong_docs : List ℕ → List (List ℕ) → Option Reason
wrong_docs w [] = None
wrong_docs w (line ∷ more) = Some (DocumentedAlias w)

-- the type variable that an item declares with this set
abbrev pub root_with : TypeItem → TypeSetParts → MeantRoot
root_with i set = record { name = shown_or i.word i.shown; doc = doc_text i.docs; set = set }

-- the type variable that an item declares, or the first thing that is wrong with the item: a text, the set, the word
unfoldable pub root_of : List Entry → TypeItem → Result MeantRoot Reason
root_of words i = unless (wrong_texts (type_texts i)) (set_of words i.set >>= λ set.
    unless (wrong_word words i.word) (Ok (root_with i set)))

-- the type for which an item declares another word: a text, the documentation, the type, the word
unfoldable pub alias_of : List Entry → AliasItem → Result MeantType Reason
alias_of words i = unless (wrong_texts (alias_texts i)) (unless (wrong_docs i.word i.docs) (type_of words i.means >>= λ m.
    unless (wrong_word words i.word) (Ok m)))

-- the kind that an item declares, whose operands are this
abbrev pub kind_with : KindItem → MeantSort → MeantKind
kind_with i sort = record { field = field_or i.word i.field; rust = i.rust; sort = sort; doc = doc_text i.docs }

-- the kind that an item declares: a text, the sort, the word
unfoldable pub kind_of : List Entry → KindItem → Result MeantKind Reason
kind_of words i = unless (wrong_texts (kind_texts i)) (sort_of words i.sort >>= λ sort.
    unless (wrong_word words i.word) (Ok (kind_with i sort)))

-- ---- what it adds

abbrev pub with_word : Said → List ℕ → ℕ → Sense → Said
with_word s w place sense = record {
  words = s.words ++ (record { word = w; place = place; sense = sense }) ∷ [];
  roots = s.roots;
  symbols = s.symbols;
}

abbrev pub with_root : Said → List ℕ → ℕ → Result MeantRoot Reason → Said
with_root s w place (Err reason) = s
with_root s w place (Ok root) =
    record {
      words = (with_word s w place (TypeSense (root_type (Declared (length s.roots)) root.name root.set))).words;
      roots = s.roots ++ root ∷ [];
      symbols = s.symbols ++ symbol (Declared (length s.roots)) [] ∷ [];
    }

abbrev pub with_alias : Said → List ℕ → ℕ → Result MeantType Reason → Said
with_alias s w place (Err reason) = s
with_alias s w place (Ok m) = with_word s w place (TypeSense m)

abbrev pub with_kind : Said → List ℕ → ℕ → Result MeantKind Reason → Said
with_kind s w place (Err reason) = s
with_kind s w place (Ok k) = with_word s w place (KindSense k)

-- what is declared where an item more stands at a place. What formats and instructions mention is added where these are declared
abbrev pub after : Said → ℕ → Item → Said
after s place (item.Type i) = with_root (after_set s i.set) i.word place (root_of s.words i)
after s place (item.Alias i) = with_alias (after_type s i.means) i.word place (alias_of s.words i)
after s place (item.Kind i) = with_kind (after_sort s i.sort) i.word place (kind_of s.words i)
after s place (item.Format i) = s
after s place (item.Inst i) = s
after s place (item.Group i) = s
after s place (item.Bool i) = s
after s place (item.Num i) = s
after s place (item.Enum i) = s
after s place (item.Preset i) = s

-- what is wrong with an item, if anything is
abbrev pub wrong_with : Said → Item → Option Reason
wrong_with s (item.Type i) = reason_in (root_of s.words i)
wrong_with s (item.Alias i) = reason_in (alias_of s.words i)
wrong_with s (item.Kind i) = reason_in (kind_of s.words i)
wrong_with s (item.Format i) = None
wrong_with s (item.Inst i) = None
wrong_with s (item.Group i) = None
wrong_with s (item.Bool i) = None
wrong_with s (item.Num i) = None
wrong_with s (item.Enum i) = None
wrong_with s (item.Preset i) = None

-- ---- no items

abbrev pub nothing_said : Said
nothing_said = record { words = []; roots = []; symbols = [] }
