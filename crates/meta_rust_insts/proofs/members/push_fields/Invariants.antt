use Rattle.std.proofs.Common.{◌≡◌, ◌++◌, drop, string_bytes}
use Rattle.meta_rust_insts.specs.Members.{member_filled, of_fields}
use Rattle.meta_rust_insts.proofs.members.push_fields.Given as goal

-- what is written, and then what is left to write
abbrev pub invariant-loop-field : goal.invariant-loop-field
invariant-loop-field l =
    string_bytes l.out ++ of_fields (member_filled l.text) (drop l.field-index l.fields)
    ≡ string_bytes l.initial.out ++ of_fields (member_filled l.text) l.fields
