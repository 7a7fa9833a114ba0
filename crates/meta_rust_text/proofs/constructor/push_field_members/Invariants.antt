use Rattle.std.proofs.Common.{◌≡◌, ◌++◌, drop, string_bytes}
use Rattle.std.specs.List.{flat_map}
use Rattle.meta_operands.specs.declared.field.FormatField.{FormatField}
use Rattle.meta_rust_text.specs.Constructor.{member_text}
use Rattle.meta_rust_text.proofs.constructor.push_field_members.Given as goal

-- what is written, and then what is left to write
abbrev pub invariant-loop-field : goal.invariant-loop-field
invariant-loop-field l =
    string_bytes l.out ++ flat_map (λ (f : FormatField). member_text f.member) (drop l.field-index l.fields)
    ≡ string_bytes l.initial.out ++ flat_map (λ (f : FormatField). member_text f.member) l.fields
