-- The parts of a source over a reader, and of a sink over a writer.
use Rattle.std.specs.Prelude.{ℕ}
use Rattle.meta_text.specs.declared.std_source.StdSource.{StdSource}
use Rattle.meta_text.specs.declared.std_sink.StdSink.{StdSink}

-- the reader that a source reads from
abbrev pub reader_of : {R : Type 0} → StdSource R → R
reader_of source = source.inner

-- how many faults a source over a reader counted
abbrev pub read_faults : {R : Type 0} → StdSource R → ℕ
read_faults source = source.faults

-- the writer that a sink writes to
abbrev pub writer_of : {W : Type 0} → StdSink W → W
writer_of sink = sink.inner

-- how many faults a sink over a writer counted
abbrev pub write_faults : {W : Type 0} → StdSink W → ℕ
write_faults sink = sink.faults
