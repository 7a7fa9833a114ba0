use Rattle.std.proofs.Common.{◌≡◌, ◌∙◌, ap, ◌++◌, ◌∷◌, [], length, arith}
use Rattle.meta_settings.proofs.Placing.{byte_below, one_byte_more}
use Rattle.meta_settings.proofs.layout.in_bytes.Goals as goal

pub overflow_cast-len : goal.overflow_cast-len
overflow_cast-len c =
    let below = byte_below c.args.settings.now c.loop-setting.setting-index _ c.loop-setting-test.true c.setting-item.is _
    c.loop-setting.invariant c.if-is_bool.ensures in
    let count : c.len.result ≡ length c.loop-setting.placed.items = c.len.ensures ∙ c.loop-setting.placed.ok.0 in
    let few = c.requires in
    omega arith

pub loop-setting-preserved : goal.loop-setting-preserved
loop-setting-preserved c =
    c.in_ok-push.ensures.items ∙ ap (λ z. c.loop-setting.placed.items ++ z ∷ []) c.in_ok-at.ensures
    ∙ one_byte_more c.args.settings.now c.loop-setting.setting-index _ c.loop-setting-test.true c.setting-item.is _
    c.loop-setting.invariant c.len.result (c.len.ensures ∙ c.loop-setting.placed.ok.0) c.if-is_bool.ensures
