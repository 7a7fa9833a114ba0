use Rattle.std.proofs.Common.{◌≡◌, rules, arith, true}
use Rattle.std.proofs.lemmas.Grind.{common_steps}
use Rattle.meta_rust_text.specs.Operands.{is_converted}
use Rattle.meta_rust_text.proofs.type_parameters.push_bound.Goals as goal

pub returns : goal.returns
returns c = λ before is.
    let converted : is_converted c.args.operand.now ≡ true = search rules in
    let name = c.in_ok-name.ensures before is in
    grind (arith, common_steps)
