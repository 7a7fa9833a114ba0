-- Names with a number each.
--     count_of counts name       how many things have the name
use Rattle.std.specs.Prelude.{ℕ, List, Option}
use Rattle.std.specs.Option.{unwrap_or}
use Rattle.std.specs.Ordering.{nat_cmp}
use Rattle.std.specs.Cmp.Lexicographic.{slice_cmp}
use Rattle.std.specs.Global.{Vec}
use Rattle.std.specs.BTreeMap.{BTreeMap, get_by}
use Rattle.meta_file_describe.specs.declared.words.NameCounts.{NameCounts}

-- what a map has for a name
abbrev pub kept_at : {X : Type 0} → BTreeMap (Vec ℕ) X → List ℕ → Option X
kept_at map name = get_by (λ (key : Vec ℕ). slice_cmp nat_cmp name key.items) map

-- how many things have the name, as they are counted
abbrev pub count_of : NameCounts → List ℕ → ℕ
count_of names name = unwrap_or (kept_at names.counts name) 0
