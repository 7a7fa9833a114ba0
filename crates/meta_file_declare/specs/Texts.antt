-- The texts that an item holds.
use Rattle.std.specs.Prelude.{ℕ, List, [], ◌∷◌, ◌++◌, Option, Some, None, map}
use Rattle.meta_file_syntax.specs.declared.name.Name.{Name}
use Rattle.meta_file_syntax.specs.declared.items.Item.{Item}
use Rattle.meta_file_syntax.specs.declared.items.Item.TheVariants as item
use Rattle.meta_file_syntax.specs.Named.{name_bytes}

-- a text that may be left out: then it is empty
abbrev pub text_of : Option (List ℕ) → List ℕ
text_of None = []
text_of (Some t) = t

-- names as bytes
abbrev pub names_in : List Name → List (List ℕ)
names_in names = map name_bytes names

-- the texts that a group or an entry holds: its name, its comment, the lines of its documentation, and the names that it lists. Those of
-- other items are told of where these are declared
abbrev pub item_texts : Item → List (List ℕ)
item_texts (item.Group n) = name_bytes n ∷ []
item_texts (item.Type i) = []
item_texts (item.Alias i) = []
item_texts (item.Kind i) = []
item_texts (item.Format i) = []
item_texts (item.Inst i) = []
item_texts (item.Bool i) = name_bytes i.name ∷ (text_of i.comment ∷ i.docs)
item_texts (item.Num i) = name_bytes i.name ∷ (text_of i.comment ∷ i.docs)
item_texts (item.Enum i) = name_bytes i.name ∷ (text_of i.comment ∷ (i.docs ++ names_in i.values))
item_texts (item.Preset i) = name_bytes i.name ∷ (i.docs ++ names_in i.args)
