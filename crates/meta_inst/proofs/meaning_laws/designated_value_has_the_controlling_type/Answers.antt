use Rattle.meta_inst.proofs.Inferring.{designated_typed}
use Rattle.meta_inst.proofs.meaning_laws.designated_value_has_the_controlling_type.Goals as goal

pub returns : goal.returns
returns c = designated_typed
