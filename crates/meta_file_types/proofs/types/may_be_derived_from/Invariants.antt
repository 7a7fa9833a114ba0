use Rattle.std.proofs.Common.{◌≡◌, ◌<◌, ◌+◌, length}
use Rattle.meta_file_types.specs.Depth.{depth_at}
use Rattle.meta_file_types.proofs.types.may_be_derived_from.Given as goal

-- each step goes back by one function
abbrev pub invariant-loop-step : goal.invariant-loop-step
invariant-loop-step l = record {
  of : l.at < length l.vars;
  depth : depth_at l.vars l.fn.variable ≡ depth_at l.vars l.at + l._step;
}
