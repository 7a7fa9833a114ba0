use Rattle.std.proofs.Common.{◌≡◌, ◌*◌, length, sym, ap, ◌∙◌}
use Rattle.meta_setting_tables.specs.GroupTables.{GroupContents}
use Rattle.meta_setting_tables.specs.WellFormed.{preset_count}
use Rattle.meta_setting_tables.proofs.group_tables.GroupTables.preset_masks.Goals as goal

pub returns-clause-count : goal.returns-clause-count
returns-clause-count c =
    let w = c.self.invariant.well_formed in
    let same : length c.self.inside.preset_masks.items
    ≡ preset_count c.self.inside.descriptors.items * length c.self.inside.defaults.items = w.masks.count
    ∙ ap (λ n. preset_count c.self.inside.descriptors.items * n) (sym w.defaults.count) in
    ap length c.as_slice.ensures.value ∙ same ∙ ap (λ (t : GroupContents). preset_count t.descriptors * length t.defaults) c.self.view_is
