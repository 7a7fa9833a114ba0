use Rattle.meta_file_reader.proofs.Stops.{one_stuck, one_told}
use Rattle.meta_file_reader.proofs.laws.one_refused_place.Goals as goal

pub returns-clause-stuck : goal.returns-clause-stuck
returns-clause-stuck c = one_stuck

pub returns-clause-told : goal.returns-clause-told
returns-clause-told c = one_told
