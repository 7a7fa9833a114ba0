use Rattle.meta_setting_tables.proofs.BuiltGroups.{built_layout}
use Rattle.meta_setting_tables.proofs.BuiltNames.{built_names, built_distinct}
use Rattle.meta_setting_tables.proofs.group_laws.built_groups_have_tables.Goals as goal

pub returns : goal.returns
returns c = record {
  layout = λ d valid. built_layout d valid (c.presets_turn_on_what_they_name.ensures.named d.presets) (built_distinct d valid);
  names = built_names;
}
