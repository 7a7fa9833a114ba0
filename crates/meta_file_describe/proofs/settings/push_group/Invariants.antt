use Rattle.std.proofs.Common.{◌≡◌, ◌∷◌, ◌++◌, take, map}
use Rattle.meta_file_syntax.specs.declared.items.Item.TheVariants as item
use Rattle.meta_file_reader.specs.Fits.{Fits, Every}
use Rattle.meta_file_describe.specs.Wording.{name_for}
use Rattle.meta_file_describe.specs.SettingItems.{item_of_setting, item_of_preset}
use Rattle.meta_file_describe.proofs.settings.push_group.Given as goal

-- after what was there come the group and the settings so far, and these fit
abbrev pub invariant-loop-setting : goal.invariant-loop-setting
invariant-loop-setting l = record {
  items : l.items.items
      ≡ l.fn.items.items ++ item.Group (name_for l.group.name) ∷ map item_of_setting (take l.setting-index l.group.settings);
  fit : Every Fits (map item_of_setting (take l.setting-index l.group.settings));
}

-- after what was there come the group, its settings and the presets so far, and the settings fit
abbrev pub invariant-loop-preset : goal.invariant-loop-preset
invariant-loop-preset l = record {
  items : l.items.items
      ≡ l.fn.items.items ++ item.Group (name_for l.group.name)
      ∷ (map item_of_setting l.group.settings ++ map (item_of_preset l.group) (take l.preset-index l.group.presets));
  fit : Every Fits (map item_of_setting l.group.settings);
}
