use Rattle.meta_unique.proofs.probing.probe.Given as goal

abbrev pub ghosts-probe_from : goal.ghosts-probe_from
ghosts-probe_from g a = record { name = a.blank.name; parts = a.blank.parts }
