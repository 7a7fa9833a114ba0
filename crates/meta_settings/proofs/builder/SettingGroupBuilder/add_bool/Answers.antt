use Rattle.std.proofs.Common.{◌<◌, ◌+◌, ◌^◌, length, sym, subst, arith, rules}
use Rattle.meta_settings.specs.GroupDeclaration.{GroupDeclaration, entry_count}
use Rattle.meta_settings.proofs.Counting.{all_counted}
use Rattle.meta_settings.proofs.builder.SettingGroupBuilder.add_bool.Goals as goal

pub overflow_add-self : goal.overflow_add-self
overflow_add-self c =
    let room : length c.self.inside.settings.items + length c.self.inside.presets.items + 1 < 2 ^ 32 =
    subst (λ (d : GroupDeclaration). entry_count d + 1 < 2 ^ 32) (sym c.self.view_is) c.requires in
    let counted = all_counted c.self.inside.settings.items in
    let booleans = c.self.invariant.are_booleans in
    omega arith

pub returns-clause-number : goal.returns-clause-number
returns-clause-number c = search rules
