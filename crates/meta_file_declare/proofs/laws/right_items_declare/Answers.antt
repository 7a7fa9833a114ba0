use Rattle.meta_file_declare.proofs.SomeDeclaration.{some_declared}
use Rattle.meta_file_declare.proofs.laws.right_items_declare.Goals as goal

pub returns : goal.returns
returns c = some_declared
