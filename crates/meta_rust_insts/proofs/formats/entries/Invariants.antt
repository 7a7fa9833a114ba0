use Rattle.std.proofs.Common.{◌≡◌, ◌++◌, map, drop, string_bytes}
use Rattle.std.specs.List.{flat_map}
use Rattle.meta_rust_insts.specs.FormatsText.{entry_text}
use Rattle.meta_rust_insts.proofs.formats.entries.Given as goal

-- what is written, and then what is left to write
abbrev pub invariant-loop-format : goal.invariant-loop-format
invariant-loop-format l =
    string_bytes l.text ++ flat_map entry_text (map (λ f. f.now) (drop l.format-index l.formats))
    ≡ flat_map entry_text (map (λ f. f.now) l.formats)
