use Rattle.meta_file_declare.proofs.Staying.{holds_stay}
use Rattle.meta_file_declare.proofs.declaring.add_to_set.Goals as goal

pub add-requires-2 : goal.add-requires-2
add-requires-2 g c = (
  c.in_default.ensures.added,
  holds_stay _ _ c.args.insts.now g.above.insts c.in_default.ensures.extends c.requires.insts,
)
