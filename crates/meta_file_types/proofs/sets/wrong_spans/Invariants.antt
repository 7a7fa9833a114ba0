use Rattle.std.proofs.Common.{◌≡◌, drop}
use Rattle.meta_file_types.specs.Sets.{wrong_spans}
use Rattle.meta_file_types.proofs.sets.wrong_spans.Given as goal

-- what is left decides
abbrev pub invariant-loop-span : goal.invariant-loop-span
invariant-loop-span l = wrong_spans l.dimension (drop l.span-index l.spans) ≡ wrong_spans l.dimension l.spans
