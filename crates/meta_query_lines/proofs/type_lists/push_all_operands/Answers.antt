use Rattle.std.proofs.Common.{string_bytes, arith}
use Rattle.std.proofs.lemmas.Bool.{false≢true}
use Rattle.std.proofs.lemmas.Result.{on_ok_weaker}
use Rattle.meta_gen.specs.Constraint.{entry_of}
use Rattle.meta_query_lines.proofs.AddedLemmas.{operands_told}
use Rattle.meta_query_lines.proofs.ExplanationLemmas.{within_list}
use Rattle.meta_query_lines.proofs.type_lists.push_all_operands.Goals as goal

pub returns-in_default : goal.returns-in_default
returns-in_default c = absurd (false≢true (c.in_default.ensures.opcode.1 c.requires))

pub push_operands-requires-clause-few : goal.push_operands-requires-clause-few
push_operands-requires-clause-few c = let r = c.result_count-results.ensures.few in omega (arith, r)

pub push_operands-requires-clause-within : goal.push_operands-requires-clause-within
push_operands-requires-clause-within c =
    let all = within_list c.args.tables.now c.args.opcode (entry_of c.in-Some.entry) c.opcode_count-count.ensures.well_formed
    c.in-Some.ensures.entry in
    let r = c.result_count-results.ensures.count in
    omega (arith, all, r)

pub push_operands-requires-2-clause-few : goal.push_operands-requires-2-clause-few
push_operands-requires-2-clause-few c = let r = c.result_count-results.ensures.few in let v = c.value_count-values.ensures.few in omega (arith, r, v)

pub push_operands-requires-2-clause-within : goal.push_operands-requires-2-clause-within
push_operands-requires-2-clause-within c =
    let all = within_list c.args.tables.now c.args.opcode (entry_of c.in-Some.entry) c.opcode_count-count.ensures.well_formed
    c.in-Some.ensures.entry in
    let r = c.result_count-results.ensures.count in
    let v = c.value_count-values.ensures.count in
    omega (arith, all, r, v)

pub returns : goal.returns
returns c =
    on_ok_weaker c.push_operands-2.result
    (operands_told c.args.tables.now c.args.opcode (entry_of c.in-Some.entry) c.args.controls c.result_count-results.result c.value_count-values.result
    (string_bytes c.args.out.now) (string_bytes c.push_str.new.self) (string_bytes c.push_operands.new.out)
    (string_bytes c.push_str-2.new.self) (string_bytes c.push_operands-2.new.out) c.in-Some.ensures.entry c.result_count-results.ensures.count
    c.value_count-values.ensures.count c.in_ok-push_str.ensures.bytes c.in_ok-push_operands.ensures c.in_ok-push_str-2.ensures.bytes)
    c.push_operands-2.ensures
