use Rattle.meta_file_declare.proofs.OneSaying.{declares_right, one_wrong}
use Rattle.meta_file_declare.proofs.laws.items_say_one_thing.Goals as goal

pub returns-clause-right : goal.returns-clause-right
returns-clause-right c = declares_right

pub returns-clause-first : goal.returns-clause-first
returns-clause-first c = one_wrong
