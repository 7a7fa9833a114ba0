use Rattle.std.proofs.Common.{slice_index, sym, ap, ◌∙◌}
use Rattle.meta_table_reader.proofs.OpcodeTextParts.{digit_at, is_one, is_two, is_three}
use Rattle.meta_table_reader.proofs.opcode_parts.version_of.Goals as goal

pub returns-then-digit-eq49 : goal.returns-then-digit-eq49
returns-then-digit-eq49 c = λ v rest e.
    let digit = c.byte_at-digit.ensures ∙ ap (λ t. slice_index t 22) e ∙ digit_at v rest in
    is_one v (sym digit ∙ c.if-digit-eq49.true)

pub returns-then-digit-eq50 : goal.returns-then-digit-eq50
returns-then-digit-eq50 c = λ v rest e.
    let digit = c.byte_at-digit.ensures ∙ ap (λ t. slice_index t 22) e ∙ digit_at v rest in
    is_two v (sym digit ∙ c.if-digit-eq50.true)

pub returns : goal.returns
returns c = λ v rest e.
    let digit = c.byte_at-digit.ensures ∙ ap (λ t. slice_index t 22) e ∙ digit_at v rest in
    is_three v (λ x. c.if-digit-eq49.false (digit ∙ x)) (λ x. c.if-digit-eq50.false (digit ∙ x))
