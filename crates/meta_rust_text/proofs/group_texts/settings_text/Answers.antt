use Rattle.std.proofs.Common.{arith}
use Rattle.std.proofs.lemmas.Grind.{common_steps}
use Rattle.meta_rust_text.proofs.group_texts.settings_text.Goals as goal

pub returns : goal.returns
returns c = grind (arith, common_steps)
