use Rattle.std.proofs.Common.{◌≡◌, sym, ap, ◌∙◌}
use Rattle.std.proofs.lemmas.Option.{same_Some}
use Rattle.meta_gen.specs.Constraint.{entry_of}
use Rattle.meta_inst.specs.Tables.{OpcodeNumbers}
use Rattle.meta_asm.specs.Short.{Manner}
use Rattle.meta_asm.specs.Manners.{manner_of}
use Rattle.meta_asm.proofs.reader.find_named.Goals as goal

pub returns-clause-manner : goal.returns-clause-manner
returns-clause-manner c =
    let (entry, at, is) = c.in_ok-manner.ensures.manner in
    let same : entry ≡ entry_of c.in_ok-entry.entry = same_Some entry (entry_of c.in_ok-entry.entry) (sym at ∙ c.in_ok-entry.ensures.entry)
    in
    ap (λ (m : Manner). m.leaves_out) is ∙ ap (λ (e : OpcodeNumbers). (manner_of c.args.tables.now.opcodes e).leaves_out) same
