use Rattle.std.proofs.Common.{◌<◌, ◌≤◌, length, drop}
use Rattle.std.specs.Prelude.{Ok}
use Rattle.meta_file_types.specs.Meant.{MeantType}
use Rattle.meta_file_types.specs.Said.{Said}
use Rattle.meta_file_types.specs.Words.{derived_from}
use Rattle.meta_file_types.specs.Held.{vars_in, IsMentioned}
use Rattle.meta_file_types.proofs.Deriving.{IsAlong}
use Rattle.meta_file_types.proofs.types.Types.derive_all.Given as goal

-- what the functions from the place on derive
abbrev pub invariant-loop-place : goal.invariant-loop-place
invariant-loop-place l = record {
  within : l.place ≤ length l.functions;
  of : l.derived < length (vars_in l.self);
  along : (s : Said) (m : MeantType) → IsMentioned l.initial.self s m l.fn.variable
      → IsAlong l.initial.self l.self s m (derived_from l.word (drop l.place l.functions) (Ok m)) l.derived;
}

abbrev pub decreases-loop-place : goal.decreases-loop-place
decreases-loop-place l = l.place
