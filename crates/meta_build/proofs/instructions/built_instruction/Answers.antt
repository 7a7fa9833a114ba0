use Rattle.std.proofs.Common.{◌≡◌, ◌+◌, take, sym, ◌∙◌}
use Rattle.std.proofs.lemmas.Bool.{false≢true}
use Rattle.meta_inst.specs.Faults.{names_of}
use Rattle.meta_build.specs.BuiltInstructions.{IsBuiltAt}
use Rattle.meta_build.proofs.Rules.{refused_on, refused_if, refused_first, added_clean, added_refused, built_told, both_on, both_if}
use Rattle.meta_build.proofs.NamesSoFar.{read}
use Rattle.meta_build.proofs.instructions.built_instruction.Goals as goal

pub returns-then-is_refused_first-clause-kept : goal.returns-then-is_refused_first-clause-kept
returns-then-is_refused_first-clause-kept c = refused_on _ _ (c.is_refused_first.ensures.0 c.if-is_refused_first.true)

pub returns-then-is_refused_first-clause-clean : goal.returns-then-is_refused_first-clause-clean
returns-then-is_refused_first-clause-clean c = refused_on _ _ (c.is_refused_first.ensures.0 c.if-is_refused_first.true)

pub returns-then-is_refused_first-clause-built : goal.returns-then-is_refused_first-clause-built
returns-then-is_refused_first-clause-built c = refused_if _ _ (c.is_refused_first.ensures.0 c.if-is_refused_first.true)

pub returns-then-is_refused_first-clause-refused : goal.returns-then-is_refused_first-clause-refused
returns-then-is_refused_first-clause-refused c =
    let at = read _ _ _ _ c.instructions.ensures.instructions c.get-builder.ensures in
    refused_first c.args.set.now c.args.place _ at c.requires.clean _
    (rw (c.vars.ensures.vars, c.formats.ensures.formats) at c.build-built.ensures.refused)
    (c.is_refused_first.ensures.0 c.if-is_refused_first.true)

pub returns-clause-kept : goal.returns-clause-kept
returns-clause-kept c = both_on c.add_name.result c.build-built.result c.and.result
    (c.add_name.new.names ≡ take (c.args.place + 1) (names_of c.args.set.now)) c.and.ensures c.add_name.ensures.kept

pub returns-clause-clean : goal.returns-clause-clean
returns-clause-clean c =
    let at = read _ _ _ _ c.instructions.ensures.instructions c.get-builder.ensures in
    added_clean c.args.set.now c.args.place _ at c.requires.clean c.add_name.result c.build-built.result c.and.result
    c.and.ensures c.add_name.ensures.unshared (rw (c.vars.ensures.vars, c.formats.ensures.formats) at c.build-built.ensures.well_made)

pub returns-clause-built : goal.returns-clause-built
returns-clause-built c =
    let at = read _ _ _ _ c.instructions.ensures.instructions c.get-builder.ensures in
    both_if c.add_name.result c.build-built.result c.and.result (IsBuiltAt c.args.set.now c.args.place) c.and.ensures
    (built_told c.args.set.now c.args.place _ at c.build-built.result
    (rw c.formats.ensures.formats at c.build-built.ensures.content)
    (rw (c.vars.ensures.vars, c.formats.ensures.formats) at c.build-built.ensures.control))

pub returns-clause-refused : goal.returns-clause-refused
returns-clause-refused c =
    let at = read _ _ _ _ c.instructions.ensures.instructions c.get-builder.ensures in
    added_refused c.args.set.now c.args.place _ at c.requires.clean c.add_name.result c.build-built.result
    c.and.result c.and.ensures c.add_name.ensures.unshared c.add_name.ensures.refused
    (rw (c.vars.ensures.vars, c.formats.ensures.formats) at c.build-built.ensures.refused)
    (rw (c.vars.ensures.vars, c.formats.ensures.formats) at c.build-built.ensures.well_made)
    (λ first. false≢true (sym c.if-is_refused_first.false ∙ c.is_refused_first.ensures.1 first))
