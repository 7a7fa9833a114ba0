use Rattle.std.proofs.Common.{subst}
use Rattle.meta_program.specs.Wrong.{NameNoVersion}
use Rattle.meta_program.proofs.wrong.Wrong.of.Goals as goal

pub returns-then-name_no_version-clause-some : goal.returns-then-name_no_version-clause-some
returns-then-name_no_version-clause-some c =
    subst NameNoVersion c.asked-words.ensures (c.name_no_version.ensures.0 c.if-name_no_version.true)
