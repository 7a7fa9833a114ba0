use Rattle.std.proofs.Common.{sym, subst, drop, rules, arith}
use Rattle.std.proofs.lemmas.Grind.{common_steps}
use Rattle.std.specs.Io.KnownBytes.{Consumes}
use Rattle.meta_text.specs.Adapters.{reader_of}
use Rattle.meta_text.proofs.Fronts.{copied_front, copied_rest}
use Rattle.meta_text.proofs.std_source.StdSourceSource.read.Goals as goal

pub returns-in-Err-clause-count : goal.returns-in-Err-clause-count
returns-in-Err-clause-count g c = search rules

pub returns-in-Err-clause-fault : goal.returns-in-Err-clause-fault
returns-in-Err-clause-fault g c = search rules

pub returns-in-Err-clause-end : goal.returns-in-Err-clause-end
returns-in-Err-clause-end g c = search rules

pub returns-in-Ok-clause-rest : goal.returns-in-Ok-clause-rest
returns-in-Ok-clause-rest g c = copied_rest c.in-Ok.count c.read.new.buf _ c.copy_from_slice.new.self
    (drop c.in-Ok.count c.args.buf.now) c.in-Ok.ensures.bound.0 c.copy_from_slice.ensures.after

pub returns-in-Ok-clause-got : goal.returns-in-Ok-clause-got
returns-in-Ok-clause-got g c =
    subst (Consumes (g.R.Read.remaining (reader_of c.args.self.now)) (g.R.Read.remaining c.read.new.self))
    (sym (copied_front c.in-Ok.count c.read.new.buf _ c.copy_from_slice.new.self (drop c.in-Ok.count c.args.buf.now)
    c.in-Ok.ensures.bound.0 c.copy_from_slice.ensures.after))
    c.in-Ok.ensures.bytes.0

pub copy_from_slice-requires : goal.copy_from_slice-requires
copy_from_slice-requires g c = grind (arith, common_steps)

pub slice_bounds-block-end-in-Ok : goal.slice_bounds-block-end-in-Ok
slice_bounds-block-end-in-Ok g c = grind (arith, common_steps)

pub slice_bounds-copy_from_slice-end-in-Ok-2 : goal.slice_bounds-copy_from_slice-end-in-Ok-2
slice_bounds-copy_from_slice-end-in-Ok-2 g c = grind (arith, common_steps)
