use Rattle.std.proofs.Common.{rules}
use Rattle.meta_text.proofs.std_sink.StdSinkSink.write.Goals as goal

pub returns-then-is_ok-clause-in_range : goal.returns-then-is_ok-clause-in_range
returns-then-is_ok-clause-in_range g c = search rules
