use Rattle.meta_gen.proofs.Inferring.{designated_typed, declared_typed}
use Rattle.meta_gen.proofs.opcode_laws.designated_values_have_the_controlling_type.Goals as goal

pub returns-clause-tables : goal.returns-clause-tables
returns-clause-tables c = designated_typed

pub returns-clause-declarations : goal.returns-clause-declarations
returns-clause-declarations c = declared_typed
