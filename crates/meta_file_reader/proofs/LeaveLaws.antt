-- What is left after an item doesn't go on with it.
use Rattle.std.proofs.Common.{List, ◌∷◌, length, ℕ, []}
use Rattle.std.specs.Prelude.{◌==◌}
use Rattle.meta_file_syntax.specs.declared.token.Token.{Token}
use Rattle.meta_file_syntax.specs.declared.token.Token.TheVariants.{Key, Word, Quoted, Sign, Doc, Stray}
use Rattle.meta_file_syntax.specs.declared.keyword.Keyword.{Keyword}
use Rattle.meta_file_syntax.specs.declared.keyword.Keyword.TheVariants as key
use Rattle.meta_file_syntax.specs.declared.items.Item.{Item}
use Rattle.meta_file_syntax.specs.declared.items.Item.TheVariants as item
use Rattle.meta_file_reader.specs.declared.fault.Wanted.TheVariants as wanted
use Rattle.meta_file_reader.specs.Parts.{name_at, docs_at}
use Rattle.meta_file_reader.specs.SetReading.{format_item_at, kind_item_at, inst_item_at}
use Rattle.meta_file_reader.specs.Reading.{bool_item_at, num_item_at, enum_item_at, preset_item_at, item_by, item_after, item_at}
use Rattle.meta_file_reader.specs.Apart.{Apart}
use Rattle.meta_file_reader.proofs.ListLaws.{Leaves}
use Rattle.meta_file_reader.proofs.SetLaws.{type_item_leaves}
use Rattle.meta_file_reader.proofs.KindLaws.{kind_leaves, format_leaves}
use Rattle.meta_file_reader.proofs.InstLaws.{inst_leaves}
use Rattle.meta_file_reader.proofs.FitLaws.{wrapped, undocumented}

abbrev ItemApart : Item × List Token → Type 0
ItemApart x = Apart x.0 x.1

by_leaves : (ds : List (List ℕ)) (k : Keyword) → Leaves Apart (item_by ds k)
by_leaves ds key.Type ts x e = type_item_leaves ds ts x e
by_leaves ds key.Kind ts x e = wrapped ItemApart (kind_item_at ds ts) (λ i. item.Kind i) x (λ y r. kind_leaves ds ts y r) e
by_leaves ds key.Format ts x e =
    undocumented ItemApart key.Format ts (format_item_at ts) (λ i. item.Format i) x (length ds == 0) (λ y r. format_leaves ts y r) e
by_leaves ds key.Inst ts x e = wrapped ItemApart (inst_item_at ds ts) (λ i. item.Inst i) x (λ y r. inst_leaves ds ts y r) e
by_leaves ds key.Group ts x e =
    undocumented ItemApart key.Group ts (name_at wanted.GroupName ts) (λ n. item.Group n) x (length ds == 0) (λ y r. tt) e
by_leaves ds key.Bool ts x e = wrapped ItemApart (bool_item_at ds ts) (λ i. item.Bool i) x (λ y r. tt) e
by_leaves ds key.Num ts x e = wrapped ItemApart (num_item_at ds ts) (λ i. item.Num i) x (λ y r. tt) e
by_leaves ds key.Enum ts x e = wrapped ItemApart (enum_item_at ds ts) (λ i. item.Enum i) x (λ y r. tt) e
by_leaves ds key.Preset ts x e = wrapped ItemApart (preset_item_at ds ts) (λ i. item.Preset i) x (λ y r. tt) e

after_leaves : (ds : List (List ℕ)) → Leaves Apart (item_after ds)
after_leaves ds [] x e = absurd cc
after_leaves ds (Key k ∷ ts) x e = by_leaves ds k ts x e
after_leaves ds (Word w ∷ ts) x e = absurd cc
after_leaves ds (Quoted t ∷ ts) x e = absurd cc
after_leaves ds (Sign c ∷ ts) x e = absurd cc
after_leaves ds (Doc d ∷ ts) x e = absurd cc
after_leaves ds (Stray f ∷ ts) x e = absurd cc

pub item_leaves : Leaves Apart item_at
unfolding item_at
item_leaves ts x e = after_leaves (docs_at ts).0 (docs_at ts).1 x e
