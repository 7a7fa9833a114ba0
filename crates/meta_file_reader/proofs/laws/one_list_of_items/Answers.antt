use Rattle.meta_file_reader.proofs.Refusals.{one_list}
use Rattle.meta_file_reader.proofs.laws.one_list_of_items.Goals as goal

pub returns : goal.returns
returns c = one_list
