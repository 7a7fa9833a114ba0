use Rattle.std.proofs.Common.{string_bytes}
use Rattle.std.proofs.lemmas.Result.{IfOk-weaker}
use Rattle.meta_program.proofs.Controls.{plain_has_none}
use Rattle.meta_program.proofs.paths.shown_path.Goals as goal

pub returns-then-has_control-clause-safe : goal.returns-then-has_control-clause-safe
returns-then-has_control-clause-safe c =
    IfOk-weaker c.escaped.result _ _ (λ s plain. plain_has_none (string_bytes s) plain) c.escaped.ensures.plain
