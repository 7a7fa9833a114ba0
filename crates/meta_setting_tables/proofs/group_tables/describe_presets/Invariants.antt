use Rattle.meta_setting_tables.proofs.DescribedSoFar.{PresetsTo}
use Rattle.meta_setting_tables.proofs.group_tables.describe_presets.Given as goal

-- the presets so far are described
abbrev pub invariant-loop-k : goal.invariant-loop-k
invariant-loop-k l = PresetsTo l.presets l.size l.k l.descriptors.items
