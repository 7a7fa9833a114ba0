use Rattle.std.proofs.Common.{◌≡◌, slice_get, Some, option_map, sym, ap, ◌∙◌, subst, string_bytes}
use Rattle.meta_setting_tables.specs.FoundSetting.{FindsEntry}
use Rattle.meta_setting_tables.specs.GroupTables.{names_in}
use Rattle.meta_query_lines.proofs.LineParts.{line_added, has_descriptor, unknown, unknown_without}
use Rattle.meta_query_lines.proofs.setting_line.push_setting_line.Goals as goal

pub returns-in_default-clause-none : goal.returns-in_default-clause-none
returns-in_default-clause-none c = λ e. unknown_without c.args.tables.now c.args.name.now
    (sym c.group.ensures ∙ ap (option_map (λ t. t.now)) c.in_default.is)

pub returns-in_default-find_setting-clause-none : goal.returns-in_default-find_setting-clause-none
returns-in_default-find_setting-clause-none c = λ e.
    let g = c.in-Some.group.now in
    let at : slice_get c.args.tables.now.groups 0 ≡ Some g = sym c.group.ensures ∙ ap (option_map (λ t. t.now)) c.in-Some.is in
    unknown c.args.tables.now c.args.name.now g at
    (subst (FindsEntry (names_in g.descriptors) c.args.name.now) c.in_default-find_setting.is c.find_setting.ensures.found)

pub returns-in_default-descriptor-clause-none : goal.returns-in_default-descriptor-clause-none
returns-in_default-descriptor-clause-none c = λ e.
    let g = c.in-Some.group.now in
    let at : slice_get c.args.tables.now.groups 0 ≡ Some g = sym c.group.ensures ∙ ap (option_map (λ t. t.now)) c.in-Some.is in
    let finds = subst (FindsEntry (names_in g.descriptors) c.args.name.now) c.in-Some-find_setting.is c.find_setting.ensures.found in
    absurd (has_descriptor c.args.tables.now c.args.name.now g at c.in-Some-find_setting.number finds
    (sym c.descriptor.ensures.entry ∙ ap (option_map (λ d. d.now)) c.in_default-descriptor.is))

pub returns-clause-found : goal.returns-clause-found
returns-clause-found c = λ e.
    let g = c.in-Some.group.now in
    let d = c.in-Some-descriptor.entry.now in
    let at : slice_get c.args.tables.now.groups 0 ≡ Some g = sym c.group.ensures ∙ ap (option_map (λ t. t.now)) c.in-Some.is in
    let finds = subst (FindsEntry (names_in g.descriptors) c.args.name.now) c.in-Some-find_setting.is c.find_setting.ensures.found in
    let there : slice_get g.descriptors c.in-Some-find_setting.number ≡ Some d = sym c.descriptor.ensures.entry
    ∙ ap (option_map (λ d. d.now)) c.in-Some-descriptor.is in
    line_added c.args.tables.now c.args.name.now g at c.in-Some-find_setting.number finds d
    (string_bytes c.args.out.now) (string_bytes c.push_line_of.new.out) there (c.in_ok-push_line_of.ensures there)
