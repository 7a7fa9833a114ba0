use Rattle.std.proofs.Common.{◌≡◌, ◌++◌, drop}
use Rattle.std.specs.List.{flat_map, enumerate_from}
use Rattle.meta_rust_names.specs.Known.{known}
use Rattle.meta_rust_names.specs.Instructions.{instruction_refused}
use Rattle.meta_rust_names.proofs.instructions.push_instructions.Given as goal

-- what is added, and then what is left to add
abbrev pub invariant-loop-number : goal.invariant-loop-number
invariant-loop-number l =
    l.out.items ++ flat_map (instruction_refused (known l.others.formats) (known l.others.imm_methods) l.vars l.formats)
    (drop l.number (enumerate_from 0 l.instructions))
    ≡ l.initial.out.items ++ flat_map (instruction_refused (known l.others.formats) (known l.others.imm_methods) l.vars l.formats)
    (enumerate_from 0 l.instructions)
