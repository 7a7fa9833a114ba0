use Rattle.meta_settings.specs.LaidOut.{built_of}
use Rattle.meta_settings.proofs.Valid.{few_bytes, sized}
use Rattle.meta_setting_tables.proofs.WellFormedTables.{well_formed}
use Rattle.meta_setting_tables.proofs.group_laws.built_groups_have_well_formed_tables.Goals as goal

pub returns : goal.returns
returns c = λ d t valid tables fit. well_formed (built_of d) t (c.built_groups_have_tables.ensures.layout d valid)
    (sized d valid) tables (few_bytes d valid) fit
