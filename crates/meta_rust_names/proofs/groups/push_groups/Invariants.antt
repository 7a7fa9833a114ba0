use Rattle.std.proofs.Common.{◌≡◌, ◌++◌, drop}
use Rattle.std.specs.List.{flat_map, enumerate_from}
use Rattle.meta_rust_names.specs.Groups.{group_refused}
use Rattle.meta_rust_names.proofs.groups.push_groups.Given as goal

-- what is added, and then what is left to add
abbrev pub invariant-loop-number : goal.invariant-loop-number
invariant-loop-number l =
    l.out.items ++ flat_map group_refused (drop l.number (enumerate_from 0 l.groups))
    ≡ l.initial.out.items ++ flat_map group_refused (enumerate_from 0 l.groups)
