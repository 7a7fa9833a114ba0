use Rattle.meta_build.proofs.built.checked_formats.Goals as goal

pub used_formats-requires : goal.used_formats-requires
used_formats-requires c = rw (c.formats.ensures.formats, c.instructions.ensures.instructions)
    (λ k b at. (c.instructions.ensures.fits k b at).format)

pub returns-clause-refused : goal.returns-clause-refused
returns-clause-refused c =
    (rw (c.formats.ensures.formats, c.instructions.ensures.instructions) at (c.used_formats.ensures.refused c.args.set.now.vars)) c.requires

pub returns-clause-used : goal.returns-clause-used
returns-clause-used c = rw (c.formats.ensures.formats, c.instructions.ensures.instructions) at
    (c.used_formats.ensures.used c.args.set.now.vars)

pub returns-clause-of_table : goal.returns-clause-of_table
returns-clause-of_table c = rw c.formats.ensures.formats at c.used_formats.ensures.of_table

pub returns-clause-apart : goal.returns-clause-apart
returns-clause-apart c = rw c.formats.ensures.formats at c.used_formats.ensures.apart

pub returns-clause-clean : goal.returns-clause-clean
returns-clause-clean c =
    (rw (c.formats.ensures.formats, c.instructions.ensures.instructions) at (c.used_formats.ensures.clean c.args.set.now.vars)) c.requires
