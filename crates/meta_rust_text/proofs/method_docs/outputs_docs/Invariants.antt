use Rattle.std.proofs.Common.{◌≡◌, ◌++◌, drop, string_bytes}
use Rattle.std.specs.List.{flat_map}
use Rattle.meta_rust_text.specs.MethodDocs.{operand_line}
use Rattle.meta_rust_text.proofs.method_docs.outputs_docs.Given as goal

-- what is written, and then what is left to write
abbrev pub invariant-loop-output : goal.invariant-loop-output
invariant-loop-output l =
    string_bytes l.out ++ flat_map (operand_line l.vars) (drop l.output-index l.outputs) ≡ flat_map (operand_line l.vars) l.outputs
