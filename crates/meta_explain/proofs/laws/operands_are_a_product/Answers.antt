use Rattle.meta_explain.proofs.Combining.{product}
use Rattle.meta_explain.proofs.laws.operands_are_a_product.Goals as goal

pub returns : goal.returns
returns c = product
