use Rattle.meta_file_declare.proofs.OneDeclaration.{one_declared}
use Rattle.meta_file_declare.proofs.laws.one_declaration.Goals as goal

pub returns : goal.returns
returns c = one_declared
