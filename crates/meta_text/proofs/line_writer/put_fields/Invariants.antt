use Rattle.std.proofs.Common.{drop}
use Rattle.std.specs.List.{flat_map}
use Rattle.meta_text.specs.LineWriter.{after_comma}
use Rattle.meta_text.proofs.Writing.{Writing}
use Rattle.meta_text.proofs.line_writer.put_fields.Given as goal

-- the fields that are left are still to be written
abbrev pub invariant-loop-field : goal.invariant-loop-field
invariant-loop-field g l = Writing g.K.Sink.taken g.K.Sink.faults (flat_map after_comma l.fields)
    (flat_map after_comma (drop l.field-index l.fields)) l.initial.sink l.sink
