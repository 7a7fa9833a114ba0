use Rattle.std.proofs.Common.{◌∙◌, sym, arith}
use Rattle.meta_inst.specs.Controls.{which_of}
use Rattle.meta_gen.specs.Constraint.{entry_of}
use Rattle.meta_explain.proofs.Telling.{within_none, within_told, within_types}
use Rattle.meta_explain.proofs.searching.Search.places.Goals as goal

pub returns-then-offset_of-clause-within : goal.returns-then-offset_of-clause-within
returns-then-offset_of-clause-within c =
    let s = c.args.self.now in
    within_none s.tables.now s.opcode (entry_of s.entry) s.results.now s.values.now (which_of c.args.which)
    (sym c.offset_of.ensures ∙ c.if-offset_of.true)

pub returns-in-Some-clause-within : goal.returns-in-Some-clause-within
returns-in-Some-clause-within c = λ x f.
    let s = c.args.self.now in
    let (low, high) = within_told s.tables.now s.opcode (entry_of s.entry) s.results.now s.values.now (which_of c.args.which)
    c.in-Some.number c.in-Some.ensures x f in
    let first = c.from.ensures in
    let second = c.from-in-Some.ensures in
    (omega (arith, low, first), omega (arith, high, second))

pub returns-in-None-clause-within : goal.returns-in-None-clause-within
returns-in-None-clause-within c = λ x f.
    let s = c.args.self.now in
    let (low, high) = within_types s.tables.now s.opcode (entry_of s.entry) s.results.now s.values.now (which_of c.args.which)
    (λ e. c.if-offset_of.false (c.offset_of.ensures ∙ e)) x f in
    let first = c.from-in-None.ensures in
    let second = c.from-in-None-2.ensures in
    (omega (arith, low, first), omega (arith, high, second))
