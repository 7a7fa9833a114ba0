use Rattle.std.proofs.Common.{None, replicate, sym, subst}
use Rattle.std.proofs.lemmas.Bool.{false≢true}
use Rattle.meta_inst.specs.Tables.{Allows, result_count, value_count}
use Rattle.meta_gen.specs.Constraint.{entry_of}
use Rattle.meta_query.proofs.Counted.{control_for, no_opcode, takes, taken}
use Rattle.meta_query.proofs.counting.takes_everywhere.Goals as goal

pub returns-in-Some : goal.returns-in-Some
returns-in-Some c =
    let t = c.args.tables.now.opcodes in
    let op = c.args.opcode in
    let n = c.args.number in
    let entry = entry_of c.in-Some.constraints in
    let at = c.in-Some.ensures.entry in
    let results = c.result_count.ensures.count in
    let values = c.value_count.ensures.count in
    let control = c.control_of-control.ensures in (
      λ e. takes t op n entry at
          (subst (λ r. Allows t op (control_for entry.typeset_offset n) None (replicate r n) (replicate (value_count entry.flags) n))
          results
          (subst (λ v. Allows t op (control_for entry.typeset_offset n) None (replicate c.result_count.result n) (replicate v n)) values
          (subst (λ k. Allows t op k None (replicate c.result_count.result n) (replicate c.value_count.result n)) control
          (c.accepts_all.ensures.0 e)))),
      λ h. c.accepts_all.ensures.1
          (subst (λ k. Allows t op k None (replicate c.result_count.result n) (replicate c.value_count.result n)) (sym control)
          (subst (λ v. Allows t op (control_for entry.typeset_offset n) None (replicate c.result_count.result n) (replicate v n))
          (sym values)
          (subst (λ r. Allows t op (control_for entry.typeset_offset n) None (replicate r n) (replicate (value_count entry.flags) n))
          (sym results) (taken t op n entry at h)))),
    )

pub returns-in-None : goal.returns-in-None
returns-in-None c = (
  λ e. absurd (false≢true e),
  λ h. absurd (no_opcode c.args.tables.now.opcodes c.args.opcode c.args.number (λ is. false≢true (c.in-None.ensures.opcode.1 is)) h),
)
