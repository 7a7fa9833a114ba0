use Rattle.std.proofs.Common.{◌≡◌, ◌++◌, drop, string_bytes}
use Rattle.std.specs.List.{flat_map}
use Rattle.meta_rust_insts.specs.DataText.{field_line}
use Rattle.meta_rust_insts.proofs.data.members.Given as goal

-- what is written, and then what is left to write
abbrev pub invariant-loop-field : goal.invariant-loop-field
invariant-loop-field l =
    string_bytes l.text ++ flat_map field_line (drop l.field-index l.fields)
    ≡ string_bytes l.initial.text ++ flat_map field_line l.fields
