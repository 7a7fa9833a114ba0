use Rattle.std.proofs.Common.{◌≡◌, ◌++◌, drop}
use Rattle.std.specs.List.{flat_map, enumerate_from}
use Rattle.meta_rust_names.specs.Groups.{value_refused}
use Rattle.meta_rust_names.proofs.groups.push_values.Given as goal

-- what is added, and then what is left to add
abbrev pub invariant-loop-number : goal.invariant-loop-number
invariant-loop-number l =
    l.out.items ++ flat_map (value_refused l.place l.setting) (drop l.number (enumerate_from 0 l.values))
    ≡ l.initial.out.items ++ flat_map (value_refused l.place l.setting) (enumerate_from 0 l.values)
