use Rattle.meta_inst.proofs.Chains.{agrees_to_end, agrees_from_end}
use Rattle.meta_inst.proofs.meaning_laws.chain_end.Goals as goal

pub returns : goal.returns
returns c = λ fs f r t. ((λ h. agrees_to_end fs f r t h), (λ h. agrees_from_end fs f r h.0 t h.1 h.2))
