use Rattle.std.proofs.Common.{[], ◌∷◌, ◌++◌, ap, ◌∙◌, codes, string_bytes}
use Rattle.std.proofs.lemmas.Result.{on_ok_weaker}
use Rattle.meta_text.specs.Lines.{at, text_of}
use Rattle.meta_table_text.specs.OpcodeText.{slot_line}
use Rattle.meta_table_text.proofs.opcode_lists.push_slot.Goals as goal

pub returns : goal.returns
unfolding slot_line
returns c =
    rw c.in-Some.is (on_ok_weaker c.write.result
    (λ e. e ∙ ap (λ name. string_bytes c.args.out.now ++ text_of
    (at 1 (codes "Some(Opcode::" ∷ name ∷ codes ")," ∷ []) ∷ [])) (c.as_str-name.ensures ∙ c.in_ok-camel.ensures))
    c.write.ensures.bytes)
