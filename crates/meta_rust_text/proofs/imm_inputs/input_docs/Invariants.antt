use Rattle.std.proofs.Common.{◌≡◌, ℕ, ◌==◌, ◌++◌, drop, string_bytes}
use Rattle.std.specs.List.{flat_map, enumerate_from}
use Rattle.meta_operands.specs.declared.operand.Operand.{Operand}
use Rattle.meta_rust_text.specs.Docs.{doc_item_text}
use Rattle.meta_rust_text.specs.ImmBuilders.{input_doc}
use Rattle.meta_rust_text.proofs.imm_inputs.input_docs.Given as goal

-- what is written, and then what is left to write
abbrev pub invariant-loop-place : goal.invariant-loop-place
invariant-loop-place l =
    string_bytes l.text ++ flat_map (λ (input : ℕ × Operand). doc_item_text input.1.name
    (input_doc l.vars input.1 (input.0 == l.immediate))) (drop l.place (enumerate_from 0 l.inputs))
    ≡ flat_map (λ (input : ℕ × Operand). doc_item_text input.1.name (input_doc l.vars input.1 (input.0 == l.immediate)))
    (enumerate_from 0 l.inputs)
