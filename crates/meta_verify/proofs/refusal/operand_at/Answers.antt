use Rattle.std.proofs.Common.{◌<◌, ◌≤◌, ◌-◌, length, sym, ◌∙◌, rules, arith}
use Rattle.std.proofs.lemmas.Option.{slice_get-get_or}
use Rattle.meta_verify.proofs.WhyLemmas.{result_at, value_after}
use Rattle.meta_verify.proofs.refusal.operand_at.Goals as goal

pub returns-then-place-results : goal.returns-then-place-results
returns-then-place-results c =
    let l : c.args.place < length c.args.results.now = search rules in
    sym (result_at c.args.results.now c.args.values.now c.args.place _ (slice_get-get_or c.args.results.now c.args.place _ l))

pub returns : goal.returns
returns c =
    let l : length c.args.results.now ≤ c.args.place = search rules in
    c.get_value.ensures
    ∙ sym (value_after c.args.results.now c.args.values.now c.args.place (c.args.place - length c.args.results.now) (omega (arith, l)))
