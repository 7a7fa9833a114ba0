use Rattle.std.proofs.lemmas.Result.{IfOk-from_err}
use Rattle.meta_shared.proofs.formats.with_parts.Goals as goal

pub returns-in_err-builder : goal.returns-in_err-builder
returns-in_err-builder c = IfOk-from_err c.from_residual.result _ c.from_residual.ensures.0
