-- Which names are known.
use Rattle.std.specs.Prelude.{ℕ, Bool, List}
use Rattle.std.specs.BTreeSet.{contains_text}
use Rattle.std.specs.declared.alloc.Global.{Global}
use Rattle.std.specs.declared.collections.BTreeSet.{BTreeSet}
use Rattle.std.specs.declared.string.String.{String}

-- whether the text is one of the names
abbrev pub known : BTreeSet (String Global) Global → List ℕ → Bool
known = contains_text
