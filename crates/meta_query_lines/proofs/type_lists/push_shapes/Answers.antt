use Rattle.std.proofs.Common.{inl, inr, refl, string_bytes}
use Rattle.std.proofs.lemmas.Result.{on_ok_weaker}
use Rattle.meta_query_lines.proofs.AddedLemmas.{shapes_told}
use Rattle.meta_query_lines.proofs.type_lists.push_shapes.Goals as goal

pub returns-in_default : goal.returns-in_default
returns-in_default c =
    on_ok_weaker c.push_text.result (λ e. (_, inr (rw c.in_default.is at c.in_ok-options.ensures.none, refl), e)) c.push_text.ensures

pub push_control_set-requires : goal.push_control_set-requires
push_control_set-requires c = (rw c.in-Some.is at c.in_ok-options.ensures.types).0

pub push_second_set-requires : goal.push_second_set-requires
push_second_set-requires c = (rw c.in-Some.is at c.in_ok-options.ensures.types).1

pub returns : goal.returns
returns c =
    on_ok_weaker c.push_all_operands.result
    (λ h. let told = shapes_told c.args.tables.now c.args.opcode c.in-Some.options (string_bytes c.args.out.now)
    (string_bytes c.push_str.new.self) (string_bytes c.push_control_set.new.out) (string_bytes c.push_second_set.new.out)
    (string_bytes c.push_str-2.new.self) (string_bytes c.push_all_operands.new.out) (rw c.in-Some.is at c.in_ok-options.ensures.options)
    c.in_ok-push_str.ensures.bytes c.in_ok-push_control_set.ensures c.in_ok-push_second_set.ensures c.in_ok-push_str-2.ensures.bytes h in
    (told.0, inl told.1, told.2))
    c.push_all_operands.ensures
