use Rattle.std.proofs.Common.{◌+◌, Vec, Global, ◌∙◌, ℕ, sym, ap, subst, arith}
use Rattle.std.proofs.lemmas.Bool.{false≢true}
use Rattle.std.proofs.lemmas.Result.{IfOk-from_err}
use Rattle.meta_explain.specs.Listed.{AreListed, IsLess}
use Rattle.meta_explain.proofs.Listing.{BeforeAnd, number_more, number_same, numbers_none, numbers_all}
use Rattle.meta_query_lines.specs.NamesOf.{IsListedBy}
use Rattle.meta_query_lines.proofs.AddedLemmas.{listed_opcode}
use Rattle.meta_query_lines.proofs.naming.opcodes_listed.Goals as goal
use Rattle.meta_query_lines.proofs.naming.opcodes_listed.Goals.{then-is_listed+in_ok-push, else-is_listed}

pub loop-before-init : goal.loop-before-init
loop-before-init c =
    numbers_none (IsListedBy c.args.tables.now c.args.names) _ (0 + 1) c.new-opcodes.ensures.items
    (λ m p. let op = listed_opcode c.args.tables.now c.args.names m c.opcode_count-before-end.ensures.well_formed p in
    let some = op.0 in omega (arith, some))

pub loop-before-preserved : goal.loop-before-preserved
loop-before-preserved c =
    let P = IsListedBy c.args.tables.now c.args.names in
    let n = c.loop-before.before + 1 in
    elim c.if-is_listed.branch [
      | then-is_listed+in_ok-push w ↦ subst (AreListed IsLess (BeforeAnd P (n + 1)))
          (sym (ap (λ (v : Vec ℕ Global). v.items) w.opcodes-is ∙ w.in_ok-push.ensures.items))
          (number_more P c.loop-before.opcodes.items n (c.is_listed.ensures.0 w.if-is_listed.true) c.loop-before.invariant)
      | else-is_listed w ↦ subst (AreListed IsLess (BeforeAnd P (n + 1)))
          (sym (ap (λ (v : Vec ℕ Global). v.items) w.opcodes-is))
          (number_same P c.loop-before.opcodes.items n (λ p. false≢true (sym w.if-is_listed.false ∙ c.is_listed.ensures.1 p))
          c.loop-before.invariant)
    ]

pub returns : goal.returns
returns c =
    let past = c.loop-before-test.false in
    let count = c.opcode_count-before-end.ensures.count in
    numbers_all (IsListedBy c.args.tables.now c.args.names) c.loop-before.opcodes.items (c.loop-before.before + 1)
    (λ m p. let op = listed_opcode c.args.tables.now c.args.names m c.opcode_count-before-end.ensures.well_formed p in
    let high = op.1 in omega (arith, high, past, count))
    c.loop-before.invariant

pub returns-in_err-push : goal.returns-in_err-push
returns-in_err-push c = IfOk-from_err c.from_residual.result _ c.from_residual.ensures.0
