use Rattle.meta_audit.proofs.Meaning.{meant_accepts}
use Rattle.meta_audit.proofs.Verdicts.{finds_declared, finds_setting}
use Rattle.meta_audit.proofs.laws.meant_tables_mean_the_declarations.Goals as goal

pub returns-clause-acceptance : goal.returns-clause-acceptance
returns-clause-acceptance c = λ d t valid well meant. meant_accepts d.set t.opcodes valid.set well.opcodes meant.count meant.opcodes

pub returns-clause-names : goal.returns-clause-names
returns-clause-names c = λ d t well meant. finds_declared d.set t.opcodes well.opcodes meant.count meant.opcodes

pub returns-clause-settings : goal.returns-clause-settings
returns-clause-settings c = λ d t valid meant group name answer. finds_setting d t meant group name answer valid.groups
