use Rattle.std.proofs.Common.{rules}
use Rattle.meta_asm.proofs.form.Form.parse.Goals as goal

pub returns-in-len1-clause-none : goal.returns-in-len1-clause-none
returns-in-len1-clause-none c = search rules
