-- The numbers of names in an ordered map.
--     number_in numbers name       the number that the map has for a name
--     LeadsTo numbers names        the map has for each name the first place at which it stands
use Rattle.std.specs.Prelude.{◌≡◌, ◌==◌, ℕ, List, Option, Some, None, if◌then◌else◌}
use Rattle.std.specs.Option.{option_or}
use Rattle.std.specs.Ordering.{nat_cmp}
use Rattle.std.specs.Cmp.Lexicographic.{slice_cmp, pointwise}
use Rattle.std.specs.Global.{Vec}
use Rattle.std.specs.BTreeMap.{BTreeMap, get_by}
use Rattle.meta_file_declare.specs.Named.{first_place}

-- the number that the map has for a name
abbrev pub number_in : {N : Type 0} → BTreeMap (Vec ℕ) N → List ℕ → Option N
number_in numbers name = get_by (λ key. slice_cmp nat_cmp name key.items) numbers

-- the number that a name has, where there is one, and else that one if it is the other name
abbrev pub or_of : {N : Type 0} → Option N → List ℕ → List ℕ → N → Option N
or_of earlier name other number = option_or earlier (if pointwise ◌==◌ other name then Some number else None)

-- the map has for each name the first place at which it stands, if it does
abbrev pub LeadsTo : BTreeMap (Vec ℕ) ℕ → List (List ℕ) → Type 0
LeadsTo numbers names = (name : List ℕ) → number_in numbers name ≡ first_place names name
