use Rattle.std.proofs.Common.{sym, ◌∙◌}
use Rattle.std.proofs.lemmas.Bool.{false≢true}
use Rattle.std.proofs.lemmas.Result.{IfOk-from_err}
use Rattle.meta_gen.specs.Constraint.{entry_of}
use Rattle.meta_explain.proofs.Choosing.{is_opcode}
use Rattle.meta_explain.proofs.Serving.{some_met, never_first, never_second, control_options, option_types}
use Rattle.meta_explain.proofs.accepted.accepted_controls.Goals as goal

pub returns-in_default-clause-none : goal.returns-in_default-clause-none
returns-in_default-clause-none c = λ d some. false≢true (c.in_default.ensures.opcode.1
    (is_opcode c.args.tables.now.entries c.args.opcode some.accepts.entry some.accepts.is_opcode))

pub returns-then-not-are_met-clause-none : goal.returns-then-not-are_met-clause-none
returns-then-not-are_met-clause-none c = λ d some. false≢true (sym c.if-not-are_met.true ∙ c.are_met.ensures.1
    (some_met c.args.tables.now c.args.opcode (entry_of c.in-Some.entry) c.in-Some.ensures.entry d some))

pub returns-then-is_empty-clause-none : goal.returns-then-is_empty-clause-none
returns-then-is_empty-clause-none c = never_first c.args.tables.now c.args.opcode (entry_of c.in-Some.entry) c.in-Some.ensures.entry
    (c.are_met.ensures.0 c.if-not-are_met.false) (record { first = c.in_ok-first.first; second = c.in_ok-second.second })
    c.in_ok-first.ensures c.in_ok-second.ensures (c.is_empty.ensures.0 c.if-is_empty.true)

pub returns-then-is_empty-2-clause-none : goal.returns-then-is_empty-2-clause-none
returns-then-is_empty-2-clause-none c = never_second c.args.tables.now c.args.opcode (entry_of c.in-Some.entry) c.in-Some.ensures.entry
    (c.are_met.ensures.0 c.if-not-are_met.false) (record { first = c.in_ok-first.first; second = c.in_ok-second.second })
    c.in_ok-first.ensures c.in_ok-second.ensures (c.is_empty-2.ensures.0 c.if-is_empty-2.true)

pub returns-clause-options : goal.returns-clause-options
returns-clause-options c = control_options c.args.tables.now c.args.opcode (entry_of c.in-Some.entry) c.in-Some.ensures.entry
    (c.are_met.ensures.0 c.if-not-are_met.false) (record { first = c.in_ok-first.first; second = c.in_ok-second.second })
    c.in_ok-first.ensures c.in_ok-second.ensures
    (λ empty. false≢true (sym c.if-is_empty.false ∙ c.is_empty.ensures.1 empty))
    (λ empty. false≢true (sym c.if-is_empty-2.false ∙ c.is_empty-2.ensures.1 empty))

pub returns-clause-types : goal.returns-clause-types
returns-clause-types c = option_types c.args.tables.now c.args.opcode (entry_of c.in-Some.entry) c.in-Some.ensures.entry
    (c.are_met.ensures.0 c.if-not-are_met.false) (record { first = c.in_ok-first.first; second = c.in_ok-second.second })
    c.in_ok-first.ensures c.in_ok-second.ensures
    (λ empty. false≢true (sym c.if-is_empty.false ∙ c.is_empty.ensures.1 empty))
    (λ empty. false≢true (sym c.if-is_empty-2.false ∙ c.is_empty-2.ensures.1 empty))
