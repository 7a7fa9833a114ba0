use Rattle.std.proofs.Common.{◌≡◌, ◌-◌}
use Rattle.meta_file_reader.specs.SetReading.{closed_at}
use Rattle.meta_file_reader.proofs.types.after_closed.Given as goal

-- what is still read
abbrev pub invariant-loop : goal.invariant-loop
invariant-loop l = closed_at (l.count - l.counter) l.rest ≡ closed_at l.count l.tokens
