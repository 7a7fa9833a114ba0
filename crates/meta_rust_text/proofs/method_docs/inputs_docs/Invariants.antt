use Rattle.std.proofs.Common.{◌≡◌, ◌++◌, drop, string_bytes}
use Rattle.std.specs.List.{flat_map}
use Rattle.meta_rust_text.specs.MethodDocs.{docs_of_input}
use Rattle.meta_rust_text.proofs.method_docs.inputs_docs.Given as goal

-- what is written, and then what is left to write
abbrev pub invariant-loop-input : goal.invariant-loop-input
invariant-loop-input l =
    string_bytes l.out ++ flat_map (docs_of_input l.vars) (drop l.input-index l.inputs)
    ≡ string_bytes l.initial.out ++ flat_map (docs_of_input l.vars) l.inputs
