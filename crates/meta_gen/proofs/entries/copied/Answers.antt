use Rattle.std.proofs.Common.{ap, ◌∙◌}
use Rattle.std.specs.Slice.Iter.{iter_rest}
use Rattle.std.proofs.lemmas.Iterator.{items_from_collect, YieldsList-from_slice}
use Rattle.std.proofs.lemmas.Iterator.Consumers.{YieldsList-from_copied}
use Rattle.meta_gen.proofs.entries.copied.Goals as goal

pub returns : goal.returns
returns c = items_from_collect _ c.collect.ensures.ran
    (YieldsList-from_copied (YieldsList-from_slice _ (ap iter_rest c.copied.ensures.source ∙ c.iter.ensures)))
