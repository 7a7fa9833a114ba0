use Rattle.std.proofs.Common.{arith, subst, sym, ◌<◌, length}
use Rattle.std.proofs.lemmas.Option.{slice_get_within}
use Rattle.std.proofs.lemmas.Result.{IfOk-from_err}
use Rattle.meta_lists.proofs.Pushed.{one_longer}
use Rattle.meta_operands.specs.declared.format.InstructionFormat.{InstructionFormat}
use Rattle.meta_gen.proofs.Made.{one_format_more, format_at}
use Rattle.meta_gen.proofs.names.copied_formats.Goals as goal

pub get-format-requires : goal.get-format-requires
get-format-requires c = subst (λ f. f < length {A = InstructionFormat} c.args.formats.now) (sym c.format.ensures)
    (c.requires c.loop-k.k c.get.result.now c.get.ensures)

pub loop-k-preserved : goal.loop-k-preserved
loop-k-preserved c =
    let added = c.in_ok-push.ensures.items in
    let longer = one_longer _ _ _ added in
    let count = c.loop-k.invariant.count in
    record {
      count = omega arith;
      each = one_format_more _ _ _ _ _ _ _ _ added count c.get.ensures
          (format_at _ _ _ _ c.format.ensures c.get-format.ensures) c.in_ok-copy.ensures c.loop-k.invariant.each;
    }

pub returns : goal.returns
returns c =
    let past = c.loop-k-test.false in
    let end = c.len-k-end.ensures in
    let within = c.loop-k.auto.k-end in
    let count = c.loop-k.invariant.count in
    record {
      count = omega arith;
      each = λ k b at. let l = slice_get_within c.args.instructions.now k b at in c.loop-k.invariant.each k b (omega arith) at;
    }

pub returns-in_err-copy : goal.returns-in_err-copy
returns-in_err-copy c = IfOk-from_err c.from_residual.result _ c.from_residual.ensures.0

pub returns-in_err-push : goal.returns-in_err-push
returns-in_err-push c = IfOk-from_err c.from_residual-in_err-push.result _ c.from_residual-in_err-push.ensures.0
