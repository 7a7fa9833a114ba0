use Rattle.meta_run.proofs.Programs as lemma
use Rattle.meta_asm.proofs.Runs.{one_form, shortens, spells, writes_back}
use Rattle.meta_asm.proofs.assembler.asm.Goals as goal

pub returns-clause-shortens : goal.returns-clause-shortens
returns-clause-shortens g c = shortens c.assemble.ensures (c.one_first_fault.ensures.valid _)

pub returns-clause-spells : goal.returns-clause-spells
returns-clause-spells g c = spells c.assemble.ensures (c.one_first_fault.ensures.valid _)

pub returns-clause-writes_back : goal.returns-clause-writes_back
returns-clause-writes_back g c = writes_back c.assemble.ensures (c.one_first_fault.ensures.valid _)

pub returns-clause-runs : goal.returns-clause-runs
returns-clause-runs g c = lemma.runs c.assemble.ensures one_form (c.one_first_fault.ensures.valid _) (c.one_first_fault.ensures.same _)
