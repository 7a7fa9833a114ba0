use Rattle.std.proofs.Common.{◌∷◌, [], ◌||◌, ◌∙◌, ap}
use Rattle.meta_operands.specs.Texts.{same_text}
use Rattle.meta_rust_names.specs.Known.{known}
use Rattle.meta_rust_names.specs.Methods.{is_among, method_name}
use Rattle.meta_rust_names.proofs.Growing.{known_more, known_all}
use Rattle.meta_rust_names.proofs.methods.instruction_methods.Goals as goal

pub loop-instruction-preserved : goal.loop-instruction-preserved
loop-instruction-preserved c = λ text.
    known_more (λ name. same_text name text) (λ i. method_name i ∷ []) c.args.instructions.now c.loop-instruction.instruction-index
    c.instruction-item.result _ _ c.loop-instruction-test.true c.instruction-item.is
    (c.in_ok-add_one.ensures text
    ∙ ap (λ name. is_among (name ∷ []) text || known c.loop-instruction.names text) c.snake_name.ensures)
    (c.loop-instruction.invariant text)

pub returns : goal.returns
returns c = λ text.
    known_all (λ name. same_text name text) (λ i. method_name i ∷ []) c.args.instructions.now c.loop-instruction.instruction-index _
    c.loop-instruction-test.false (c.loop-instruction.invariant text)
