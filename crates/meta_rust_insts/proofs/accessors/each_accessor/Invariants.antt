use Rattle.std.proofs.Common.{◌≡◌, ◌++◌, drop, string_bytes}
use Rattle.std.specs.List.{flat_map}
use Rattle.meta_rust_insts.specs.Accessors.{accessor_text}
use Rattle.meta_rust_insts.proofs.accessors.each_accessor.Given as goal

-- what is written, and then what is left to write
abbrev pub invariant-loop-mark : goal.invariant-loop-mark
invariant-loop-mark l =
    string_bytes l.text ++ flat_map (λ mark. accessor_text mark l.instructions) (drop l.mark-index l.marks)
    ≡ flat_map (λ mark. accessor_text mark l.instructions) l.marks
