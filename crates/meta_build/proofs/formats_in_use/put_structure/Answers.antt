use Rattle.std.proofs.Common.{Some, cond, ap, ◌∙◌}
use Rattle.std.specs.HashMap.{get}
use Rattle.meta_operands.specs.Structure.{same_structure}
use Rattle.meta_build.proofs.formats_in_use.put_structure.Goals as goal

pub returns : goal.returns
returns c = λ q. c.in_ok-insert.ensures.updates.0 q
    ∙ ap (λ s. cond (same_structure s q) (Some c.args.place) (get same_structure c.args.places.now q)) c.in_ok-structure.ensures
