-- Sources and sinks over memory, as their callers see them.
use Rattle.std.specs.Prelude.{ℕ, ◌-◌, Bool, min, List, ◌++◌, length, take, drop, ◌==◌, ◌||◌}
use Rattle.std.specs.List.{list_any}
use Rattle.meta_text.specs.Outside.{counted}
use Rattle.meta_text.specs.declared.outside.ReadOutcome.{ReadOutcome}
use Rattle.meta_text.specs.declared.outside.ReadOutcome.TheVariants as reads
use Rattle.meta_text.specs.declared.outside.WriteOutcome.{WriteOutcome}
use Rattle.meta_text.specs.declared.outside.WriteOutcome.TheVariants as writes

-- a source over memory: the bytes left, the most that a call gives, the numbers of the calls that fail, the calls so far, and the faults
-- so far
pub record SourceState : Type 0 where
  pub left : List ℕ
  pub step : ℕ
  pub fails : List ℕ
  pub calls : ℕ
  pub faults : ℕ

-- a sink over memory: the bytes taken, the most that it holds, the most that a call takes, the numbers of the calls that fail, the calls
-- so far, and the faults so far
pub record SinkState : Type 0 where
  pub taken : List ℕ
  pub room : ℕ
  pub step : ℕ
  pub fails : List ℕ
  pub calls : ℕ
  pub faults : ℕ

-- whether the call after this many calls is one of those that are listed; the first call has the number 1
unfoldable pub is_listed : ℕ → List ℕ → Bool
is_listed calls fails = list_any (λ number. number == counted calls) fails

-- how many bytes the next read gives to a buffer of this length, if it doesn't fail and bytes are left
abbrev pub given_count : SourceState → ℕ → ℕ
given_count source buffer = min (min source.step buffer) (length source.left)

-- a source over memory after a read with this outcome
abbrev pub after_read : SourceState → ReadOutcome → SourceState
after_read source (reads.Got n) = record source { left = drop n source.left; calls = counted source.calls }
after_read source reads.End = record source { calls = counted source.calls }
after_read source reads.Failed = record source { calls = counted source.calls; faults = counted source.faults }

-- how many bytes more a sink over memory can take
abbrev pub free_room : SinkState → ℕ
free_room sink = sink.room - length sink.taken

-- whether the next write fails: it is listed, or no room is free
abbrev pub refuses_next : SinkState → Bool
refuses_next sink = free_room sink == 0 || is_listed sink.calls sink.fails

-- how many of this many bytes the next write takes, if it doesn't fail
abbrev pub taken_count : SinkState → ℕ → ℕ
taken_count sink given = min (min sink.step given) (free_room sink)

-- a sink over memory after a write of these bytes with this outcome
abbrev pub after_write : SinkState → List ℕ → WriteOutcome → SinkState
after_write sink bytes (writes.Wrote n) = record sink { taken = sink.taken ++ take n bytes; calls = counted sink.calls }
after_write sink bytes writes.Failed = record sink { calls = counted sink.calls; faults = counted sink.faults }
