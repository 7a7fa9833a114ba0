use Rattle.std.proofs.Common.{subst}
use Rattle.meta_audit.specs.Verdict.{IsAuditVerdict}
use Rattle.meta_audit.specs.declared.verdict.Verdict.TheVariants.{Yes}
use Rattle.meta_audit.proofs.auditing.audit.Goals as goal

pub returns-clause-own_tables : goal.returns-clause-own_tables
returns-clause-own_tables c = λ own.
    c.one_verdict.ensures c.args.declarations.now c.args.tables.now c.verdict_beside.result Yes c.verdict_beside.ensures
    (c.tables_of_declarations_are_meant.ensures c.args.declarations.now c.args.tables.now c.vars-variables.ensures.sets own)

pub returns-clause-acceptance : goal.returns-clause-acceptance
returns-clause-acceptance c = λ yes.
    c.meant_tables_mean_the_declarations.ensures.acceptance c.args.declarations.now c.args.tables.now
    c.in_ok-own.ensures.valid c.opcode_count-count.ensures.well_formed
    (subst (IsAuditVerdict c.args.declarations.now c.args.tables.now) yes c.verdict_beside.ensures)

pub returns-clause-verdict : goal.returns-clause-verdict
returns-clause-verdict c = c.verdict_beside.ensures

pub returns-clause-one : goal.returns-clause-one
returns-clause-one c = λ w is.
    c.one_verdict.ensures c.args.declarations.now c.args.tables.now c.verdict_beside.result w c.verdict_beside.ensures is

pub returns-clause-names : goal.returns-clause-names
returns-clause-names c = λ yes.
    c.meant_tables_mean_the_declarations.ensures.names c.args.declarations.now c.args.tables.now
    c.opcode_count-count.ensures.well_formed
    (subst (IsAuditVerdict c.args.declarations.now c.args.tables.now) yes c.verdict_beside.ensures)

pub returns-clause-settings : goal.returns-clause-settings
returns-clause-settings c = λ yes.
    c.meant_tables_mean_the_declarations.ensures.settings c.args.declarations.now c.args.tables.now
    c.in_ok-own.ensures.valid
    (subst (IsAuditVerdict c.args.declarations.now c.args.tables.now) yes c.verdict_beside.ensures)
