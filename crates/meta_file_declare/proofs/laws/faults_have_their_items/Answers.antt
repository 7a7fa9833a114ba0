use Rattle.meta_file_declare.proofs.FaultItems.{fault_has_item}
use Rattle.meta_file_declare.proofs.laws.faults_have_their_items.Goals as goal

pub returns : goal.returns
returns c = fault_has_item
