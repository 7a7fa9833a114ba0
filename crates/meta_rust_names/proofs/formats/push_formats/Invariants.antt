use Rattle.std.proofs.Common.{◌≡◌, ◌++◌, drop}
use Rattle.std.specs.List.{flat_map}
use Rattle.meta_rust_names.specs.Known.{known}
use Rattle.meta_rust_names.specs.Formats.{format_refused}
use Rattle.meta_rust_names.proofs.formats.push_formats.Given as goal

-- what is added, and then what is left to add
abbrev pub invariant-loop-id : goal.invariant-loop-id
invariant-loop-id l =
    l.out.items ++ flat_map (format_refused (known l.methods) (known l.imm_methods) l.formats) (drop l.id-index l.ids)
    ≡ l.initial.out.items ++ flat_map (format_refused (known l.methods) (known l.imm_methods) l.formats) l.ids
