use Rattle.std.proofs.Common.{◌≡◌, ◌++◌, take}
use Rattle.meta_file_reader.specs.Fits.{Fits, Every}
use Rattle.meta_file_describe.specs.SettingItems.{items_of_groups}
use Rattle.meta_file_describe.proofs.settings.push_groups.Given as goal

-- after what was there come the items of the groups so far, and these fit
abbrev pub invariant-loop-group : goal.invariant-loop-group
invariant-loop-group l = record {
  items : l.items.items ≡ l.fn.items.items ++ items_of_groups (take l.group-index l.groups);
  fit : Every Fits (items_of_groups (take l.group-index l.groups));
}
