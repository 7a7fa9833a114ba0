-- The ends of items of Rust source, and what stands between two items.
use Rattle.std.specs.Prelude.{ℕ, List, [], ◌∷◌, codes}
use Rattle.meta_text.specs.Lines.{at, empty_line, text_of}

-- the empty line between two items
unfoldable pub gap_text : List ℕ
gap_text = text_of (empty_line ∷ [])

-- the last line of an item
unfoldable pub item_end : List ℕ
item_end = text_of (at 0 (codes "}" ∷ []) ∷ [])
