use Rattle.std.proofs.Common.{◌≡◌, map, take}
use Rattle.meta_inst.specs.Builder.{Builder}
use Rattle.meta_gen.proofs.names.copied_names.Given as goal

-- the names of the instructions so far are copied
abbrev pub invariant-loop-k : goal.invariant-loop-k
invariant-loop-k l = l.names.items ≡ map (λ (b : Builder). b.name) (take l.k l.instructions)
