use Rattle.std.proofs.Common.{◌++◌, map, ap, ◌∙◌, string_bytes}
use Rattle.std.proofs.lemmas.Result.{on_ok_weaker}
use Rattle.meta_query_lines.proofs.LineParts.{bool_line, num_line, enum_line, preset_line_in}
use Rattle.meta_query_lines.proofs.setting_line.push_line_of.Goals as goal

pub returns-in-Bool : goal.returns-in-Bool
returns-in-Bool c = λ there.
    on_ok_weaker c.push_bool_line.result
    (λ added. added ∙ ap (λ line. string_bytes c.args.out.now ++ line)
    (bool_line c.args.group.now c.args.entry.now c.default_value.result c.unwrap_or-default.result
    (c.default_value.ensures.entry c.args.entry.now there) c.unwrap_or-default.ensures c.in-Bool.bit c.in-Bool.is))
    c.push_bool_line.ensures

pub returns-in-Enum : goal.returns-in-Enum
returns-in-Enum c = λ there.
    on_ok_weaker c.push_enum_line.result
    (λ added. added ∙ ap (λ line. string_bytes c.args.out.now ++ line)
    (enum_line c.args.group.now c.args.entry.now _ _ _ c.in-Enum.is (c.values.ensures.entry c.args.entry.now there)))
    c.push_enum_line.ensures

pub returns-in-Num : goal.returns-in-Num
returns-in-Num c = λ there.
    on_ok_weaker c.push_num_line.result
    (λ added. added ∙ ap (λ line. string_bytes c.args.out.now ++ line)
    (num_line c.args.group.now c.args.entry.now c.default_value.result c.unwrap_or-default.result
    (c.default_value.ensures.entry c.args.entry.now there) c.unwrap_or-default.ensures c.in-Num.is))
    c.push_num_line.ensures

pub returns-in_ok-names-in-Preset : goal.returns-in_ok-names-in-Preset
returns-in_ok-names-in-Preset c = λ there.
    let names = ap (map (λ n. n.now)) c.as_slice.ensures.value
    ∙ c.in_ok-names-in-Preset.ensures.entry c.args.entry.now (record { there = there; is_preset = c.in-Preset.is }) in
    on_ok_weaker c.push_preset_line.result
    (λ added. added ∙ ap (λ line. string_bytes c.args.out.now ++ line)
    (preset_line_in c.args.group.now c.args.entry.now _ c.in-Preset.is names))
    c.push_preset_line.ensures
