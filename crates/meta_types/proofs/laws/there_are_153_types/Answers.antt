use Rattle.std.proofs.Common.{refl}
use Rattle.meta_types.proofs.Listed.{listed, once}
use Rattle.meta_types.proofs.laws.there_are_153_types.Goals as goal

pub returns : goal.returns
returns c = record { listed = listed; once = once; count = refl }
