use Rattle.std.proofs.Common.{slice_get}
use Rattle.meta_operands.specs.Texts.{same_text}
use Rattle.meta_rust_names.specs.Methods.{name_of_format}
use Rattle.meta_rust_names.proofs.Growing.{known_more, known_all}
use Rattle.meta_rust_names.proofs.methods.format_names.Goals as goal

pub loop-id-preserved : goal.loop-id-preserved
loop-id-preserved c = λ text.
    known_more (λ name. same_text name text) (λ id. name_of_format (slice_get c.args.formats.now id)) c.args.ids.now c.loop-id.id-index
    c.id-item.result _ _ c.loop-id-test.true c.id-item.is (c.in_ok-add_format.ensures text) (c.loop-id.invariant text)

pub returns : goal.returns
returns c = λ text.
    known_all (λ name. same_text name text) (λ id. name_of_format (slice_get c.args.formats.now id)) c.args.ids.now c.loop-id.id-index _
    c.loop-id-test.false (c.loop-id.invariant text)
