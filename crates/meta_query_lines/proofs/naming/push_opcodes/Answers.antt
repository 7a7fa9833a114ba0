use Rattle.std.proofs.Common.{string_bytes, refl, arith}
use Rattle.std.proofs.lemmas.Option.{slice_get-get_or}
use Rattle.std.proofs.lemmas.Result.{on_ok_weaker}
use Rattle.meta_query_lines.specs.Explanation.{opcode_text}
use Rattle.meta_query_lines.proofs.ListedLemmas.{none_first, one_more_first, all_first}
use Rattle.meta_query_lines.proofs.naming.push_opcodes.Goals as goal

pub loop-k-init : goal.loop-k-init
loop-k-init c = none_first (opcode_text c.args.tables.now) c.args.opcodes.now (string_bytes c.args.out.now)

pub loop-k-preserved : goal.loop-k-preserved
loop-k-preserved c =
    one_more_first (opcode_text c.args.tables.now) c.args.opcodes.now (string_bytes c.args.out.now) c.loop-k.k _
    (string_bytes c.loop-k.out) (string_bytes c.push_comma.new.out) (string_bytes c.push_opcode.new.out)
    (slice_get-get_or c.args.opcodes.now c.loop-k.k _ c.loop-k-test.true) c.loop-k.invariant c.in_ok-push_comma.ensures
    c.in_ok-push_opcode.ensures

pub returns : goal.returns
returns c =
    let past = c.loop-k-test.false in
    let within = c.loop-k.auto.k-end in
    on_ok_weaker c.push_dash.result
    (λ e. all_first (opcode_text c.args.tables.now) c.args.opcodes.now (string_bytes c.args.out.now) c.loop-k.k _ (string_bytes c.loop-k.out)
    (string_bytes c.push_dash.new.out) (omega (arith, within, past)) refl c.loop-k.invariant e) c.push_dash.ensures
