-- Reading items off tokens, with the first thing that is missing.
use Rattle.std.specs.Prelude.{ℕ, zero, suc, ◌==◌, List, [], ◌∷◌, ◌++◌, length}
use Rattle.std.specs.Prelude.{Result, Ok, if◌then◌else◌}
use Rattle.meta_file_syntax.specs.declared.token.Token.{Token}
use Rattle.meta_file_syntax.specs.declared.token.Token.TheVariants.{Key, Word, Quoted, Sign, Doc, Stray}
use Rattle.meta_file_syntax.specs.declared.keyword.Keyword.{Keyword}
use Rattle.meta_file_syntax.specs.declared.keyword.Keyword.TheVariants as key
use Rattle.meta_file_syntax.specs.declared.items.BoolItem.{BoolItem}
use Rattle.meta_file_syntax.specs.declared.items.NumItem.{NumItem}
use Rattle.meta_file_syntax.specs.declared.items.EnumItem.{EnumItem}
use Rattle.meta_file_syntax.specs.declared.items.PresetItem.{PresetItem}
use Rattle.meta_file_syntax.specs.declared.items.Item.{Item}
use Rattle.meta_file_syntax.specs.declared.items.Item.TheVariants as item
use Rattle.meta_file_reader.specs.declared.fault.Fault.{Fault}
use Rattle.meta_file_reader.specs.declared.fault.Wanted.{Wanted}
use Rattle.meta_file_reader.specs.declared.fault.Wanted.TheVariants as wanted
use Rattle.meta_file_reader.specs.declared.lists.Layout.TheVariants as layouts
use Rattle.meta_file_reader.specs.Parts.{◌>>=◌, wants, name_at, sign_at, truth_at, byte_at, comment_at, docs_at}
use Rattle.meta_file_reader.specs.Lists.{list_at}
use Rattle.meta_file_reader.specs.SetReading.{type_item_at, kind_item_at, format_item_at, inst_item_at}

-- ---- items, after their keywords

unfoldable pub bool_item_at : List (List ℕ) → List Token → Result (BoolItem × List Token) Fault
bool_item_at docs ts = do
  n ← name_at wanted.SettingName ts
  after ← sign_at 61 n.1
  b ← truth_at after
  Ok (record { docs = docs; name = n.0; default = b.0; comment = (comment_at b.1).0 }, (comment_at b.1).1)

unfoldable pub num_item_at : List (List ℕ) → List Token → Result (NumItem × List Token) Fault
num_item_at docs ts = do
  n ← name_at wanted.SettingName ts
  after ← sign_at 61 n.1
  b ← byte_at after
  Ok (record { docs = docs; name = n.0; default = b.0; comment = (comment_at b.1).0 }, (comment_at b.1).1)

unfoldable pub enum_item_at : List (List ℕ) → List Token → Result (EnumItem × List Token) Fault
enum_item_at docs ts = do
  n ← name_at wanted.SettingName ts
  after ← sign_at 40 n.1
  vs ← list_at (name_at wanted.Value) layouts.Parentheses after
  Ok (record { docs = docs; name = n.0; values = vs.0; comment = (comment_at vs.1).0 }, (comment_at vs.1).1)

unfoldable pub preset_item_at : List (List ℕ) → List Token → Result (PresetItem × List Token) Fault
preset_item_at docs ts = do
  n ← name_at wanted.PresetName ts
  after ← sign_at 40 n.1
  args ← list_at (name_at wanted.Argument) layouts.Parentheses after
  Ok (record { docs = docs; name = n.0; args = args.0 }, args.1)

-- ---- items

-- what is wanted where an item begins, or after documentation
abbrev pub wanted_item : List (List ℕ) → Wanted
wanted_item docs = if length docs == 0 then wanted.Item else wanted.Documented

-- a format has no documentation
abbrev pub format_at : List (List ℕ) → List Token → Result (Item × List Token) Fault
format_at docs ts = if length docs == 0 then (format_item_at ts >>= λ x. Ok (item.Format x.0, x.1)) else wants
    wanted.Documented (Key key.Format ∷ ts)

-- nor has a group
abbrev pub group_at : List (List ℕ) → List Token → Result (Item × List Token) Fault
group_at docs ts = if length docs == 0 then (name_at wanted.GroupName ts >>= λ n. Ok (item.Group n.0, n.1)) else wants
    wanted.Documented (Key key.Group ∷ ts)

abbrev pub item_by : List (List ℕ) → Keyword → List Token → Result (Item × List Token) Fault
item_by docs key.Type ts = type_item_at docs ts
item_by docs key.Kind ts = kind_item_at docs ts >>= λ x. Ok (item.Kind x.0, x.1)
item_by docs key.Format ts = format_at docs ts
item_by docs key.Inst ts = inst_item_at docs ts >>= λ x. Ok (item.Inst x.0, x.1)
item_by docs key.Group ts = group_at docs ts
item_by docs key.Bool ts = bool_item_at docs ts >>= λ x. Ok (item.Bool x.0, x.1)
item_by docs key.Num ts = num_item_at docs ts >>= λ x. Ok (item.Num x.0, x.1)
item_by docs key.Enum ts = enum_item_at docs ts >>= λ x. Ok (item.Enum x.0, x.1)
item_by docs key.Preset ts = preset_item_at docs ts >>= λ x. Ok (item.Preset x.0, x.1)

-- an item after its documentation
abbrev pub item_after : List (List ℕ) → List Token → Result (Item × List Token) Fault
item_after docs [] = wants (wanted_item docs) []
item_after docs (Key k ∷ ts) = item_by docs k ts
item_after docs (Word w ∷ ts) = wants (wanted_item docs) (Word w ∷ ts)
item_after docs (Quoted t ∷ ts) = wants (wanted_item docs) (Quoted t ∷ ts)
item_after docs (Sign c ∷ ts) = wants (wanted_item docs) (Sign c ∷ ts)
item_after docs (Doc d ∷ ts) = wants (wanted_item docs) (Doc d ∷ ts)
item_after docs (Stray f ∷ ts) = wants (wanted_item docs) (Stray f ∷ ts)

unfoldable pub item_at : List Token → Result (Item × List Token) Fault
item_at ts = item_after (docs_at ts).0 (docs_at ts).1

-- all items, if they are at most as many as this
unfoldable pub items_at : ℕ → List Token → Result (List Item) Fault
items_at zero [] = Ok []
items_at zero (t ∷ ts) = wants wanted.Item (t ∷ ts)
items_at (suc n) [] = Ok []
items_at (suc n) (t ∷ ts) = item_at (t ∷ ts) >>= λ x. items_at n x.1 >>= λ xs. Ok (x.0 ∷ xs)

abbrev pub with_items : List Item → Result (List Item) Fault → Result (List Item) Fault
with_items front read = read >>= λ xs. Ok (front ++ xs)
