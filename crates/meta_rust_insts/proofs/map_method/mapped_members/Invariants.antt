use Rattle.std.proofs.Common.{◌≡◌, ◌++◌, drop, string_bytes, flat_map}
use Rattle.meta_rust_insts.specs.MapMethod.{mapped_field}
use Rattle.meta_rust_insts.proofs.map_method.mapped_members.Given as goal

-- what is written, and then what is left to write
abbrev pub invariant-loop-field : goal.invariant-loop-field
invariant-loop-field l =
    string_bytes l.text ++ flat_map mapped_field (drop l.field-index l.fields)
    ≡ string_bytes l.initial.text ++ flat_map mapped_field l.fields
