use Rattle.std.proofs.Common.{[], ◌+◌, sym, subst, arith}
use Rattle.std.proofs.lemmas.Result.{IfOk-from_err}
use Rattle.meta_explain.specs.Found.{Finds, IsBefore}
use Rattle.meta_explain.specs.Search.{Adds}
use Rattle.meta_explain.proofs.Listing.{listed_same}
use Rattle.meta_explain.proofs.Adding.{OpcodeBefore, adds_none, adds_all, opcodes_more}
use Rattle.meta_explain.proofs.Choosing.{found_opcode}
use Rattle.meta_explain.proofs.operands.find.Goals as goal

pub loop-before-init : goal.loop-before-init
loop-before-init c =
    let F = Finds c.args.tables.now c.args.results.now c.args.values.now in
    subst (Adds (OpcodeBefore F (0 + 1)) []) (sym c.new-found.ensures.items) (adds_none (OpcodeBefore F (0 + 1)) []
    (λ x (l, f). let op = found_opcode c.args.tables.now c.args.results.now c.args.values.now x f in
    let some = op.0 in omega (arith, l, some)))

pub loop-before-preserved : goal.loop-before-preserved
loop-before-preserved c =
    opcodes_more (Finds c.args.tables.now c.args.results.now c.args.values.now) (c.loop-before.before + 1) [] c.loop-before.found.items
    c.push_opcode.new.found.items c.loop-before.invariant c.in_ok-push_opcode.ensures

pub push_opcode-requires : goal.push_opcode-requires
push_opcode-requires c = c.opcode_count-before-end.ensures.well_formed

pub returns : goal.returns
returns c =
    let F = Finds c.args.tables.now c.args.results.now c.args.values.now in
    let past = c.loop-before-test.false in
    let count = c.opcode_count-before-end.ensures.count in
    listed_same IsBefore (OpcodeBefore F (c.loop-before.before + 1)) F c.loop-before.found.items (λ x (l, f). f)
    (λ x f. let op = found_opcode c.args.tables.now c.args.results.now c.args.values.now x f in let high = op.1 in
    (omega (arith, high, past, count), f))
    (adds_all (OpcodeBefore F (c.loop-before.before + 1)) c.loop-before.found.items c.loop-before.invariant)

pub returns-in_err-push_opcode : goal.returns-in_err-push_opcode
returns-in_err-push_opcode c = IfOk-from_err c.from_residual.result _ c.from_residual.ensures.0
