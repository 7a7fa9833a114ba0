use Rattle.std.proofs.Common.{◌≡◌, ◌==◌, false, rules, arith}
use Rattle.std.proofs.lemmas.Bool.Decides.{nat_tests}
use Rattle.meta_rust_insts.specs.MapMethod.{mapped_value}
use Rattle.meta_rust_insts.proofs.map_method.push_mapped_value.Goals as goal

pub returns : goal.returns
unfolding mapped_value
returns c =
    let later : (c.args.place == 0) ≡ false = grind (arith, nat_tests) in
    rw later (search rules)

pub returns-then-place-eq0 : goal.returns-then-place-eq0
unfolding mapped_value
returns-then-place-eq0 c = rw c.if-place-eq0.true c.push_text.ensures
