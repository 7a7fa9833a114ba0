use Rattle.meta_file_declare.proofs.Arguments.{arguments_found}
use Rattle.meta_file_declare.proofs.laws.each_name_has_its_argument.Goals as goal

pub returns : goal.returns
returns c = arguments_found
