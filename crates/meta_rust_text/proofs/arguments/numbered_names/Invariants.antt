use Rattle.std.proofs.Common.{◌≡◌, ◌++◌, ◌-◌, codes, string_bytes}
use Rattle.std.specs.Fmt.{decimal}
use Rattle.std.specs.List.{flat_map, range_with_len}
use Rattle.meta_rust_text.proofs.arguments.numbered_names.Given as goal

-- what is written, and then what is left to write
abbrev pub invariant-loop-number : goal.invariant-loop-number
invariant-loop-number l =
    string_bytes l.text ++ flat_map (λ number. codes ", " ++ (l.stem ++ decimal number)) (range_with_len l.number (l.count - l.number))
    ≡ string_bytes l.initial.text ++ flat_map (λ number. codes ", " ++ (l.stem ++ decimal number)) (range_with_len 1 (l.count - 1))
