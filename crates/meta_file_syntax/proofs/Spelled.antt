-- Items are spelled one after the other.
use Rattle.std.proofs.Common.{◌≡◌, List, [], ◌∷◌, ◌++◌, refl, ap}
use Rattle.meta_file_syntax.specs.declared.token.Token.{Token}
use Rattle.meta_file_syntax.specs.declared.items.Item.{Item}
use Rattle.meta_file_syntax.specs.Spelling.{each_after, spelled, spelled_all}

pub all_spelled : (items : List Item) → each_after [] spelled items ≡ spelled_all items
all_spelled [] = refl
all_spelled (item ∷ items) = ap (λ (ts : List Token). spelled item ++ ts) (all_spelled items)
