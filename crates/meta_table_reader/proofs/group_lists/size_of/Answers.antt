use Rattle.std.proofs.Common.{◌/◌, ap, ◌∙◌, arith}
use Rattle.std.proofs.Math.Nat.{mul-div_cancel_left}
use Rattle.meta_table_reader.proofs.group_lists.size_of.Goals as goal

pub returns-then-presets-eq0 : goal.returns-then-presets-eq0
returns-then-presets-eq0 c = λ size some e. absurd (omega (arith, some, c.if-presets-eq0.true))

pub returns : goal.returns
returns c = λ size some e. ap (λ n. n / c.args.presets) e ∙ mul-div_cancel_left size some
