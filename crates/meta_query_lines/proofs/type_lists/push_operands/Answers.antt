use Rattle.std.proofs.Common.{◌+◌, string_bytes, arith}
use Rattle.std.proofs.lemmas.Result.{on_ok_weaker}
use Rattle.meta_gen.specs.Constraint.{entry_of}
use Rattle.meta_query_lines.specs.Explanation.{IsOperandTold}
use Rattle.meta_query_lines.proofs.ListedLemmas.{none_so_far, one_more_so_far, all_so_far}
use Rattle.meta_query_lines.proofs.type_lists.push_operands.Goals as goal

pub loop-k-init : goal.loop-k-init
loop-k-init c = none_so_far (λ k word. IsOperandTold c.args.tables.now c.args.opcode (entry_of c.args.entry) c.args.controls
    (c.args.from + k) word) (string_bytes c.args.out.now)

pub loop-k-preserved : goal.loop-k-preserved
loop-k-preserved c =
    one_more_so_far (λ k word. IsOperandTold c.args.tables.now c.args.opcode (entry_of c.args.entry) c.args.controls
    (c.args.from + k) word) (string_bytes c.args.out.now) c.loop-k.k (string_bytes c.loop-k.out)
    (string_bytes c.push_comma.new.out) (string_bytes c.push_operand.new.out) c.loop-k.invariant c.in_ok-push_comma.ensures
    c.in_ok-push_operand.ensures

pub returns : goal.returns
returns c =
    let past = c.loop-k-test.false in
    let within = c.loop-k.auto.k-end in
    on_ok_weaker c.push_dash.result
    (λ e. all_so_far (λ k word. IsOperandTold c.args.tables.now c.args.opcode (entry_of c.args.entry) c.args.controls
    (c.args.from + k) word) (string_bytes c.args.out.now) c.loop-k.k c.args.count (string_bytes c.loop-k.out)
    (string_bytes c.push_dash.new.out) (omega (arith, within, past)) c.loop-k.invariant e) c.push_dash.ensures
