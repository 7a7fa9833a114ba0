use Rattle.std.proofs.Common.{◌≡◌, ◌++◌, ◌-◌, string_bytes}
use Rattle.std.specs.List.{flat_map, range_with_len}
use Rattle.meta_rust_text.specs.Arguments.{numbered_argument}
use Rattle.meta_rust_text.proofs.arguments.push_numbered_arguments.Given as goal

-- what is written, and then what is left to write
abbrev pub invariant-loop-number : goal.invariant-loop-number
invariant-loop-number l =
    string_bytes l.out ++ flat_map (numbered_argument l.stem l.ty) (range_with_len l.number (l.count - l.number))
    ≡ string_bytes l.initial.out ++ flat_map (numbered_argument l.stem l.ty) (range_with_len 0 l.count)
