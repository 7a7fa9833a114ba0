use Rattle.std.proofs.Common.{◌≡◌, ◌∙◌, ap, ◌++◌, ◌∷◌, [], length, arith}
use Rattle.meta_settings.proofs.Placing.{bit_below, one_bit_more}
use Rattle.meta_settings.proofs.layout.in_bits.Goals as goal

pub overflow_cast-number : goal.overflow_cast-number
overflow_cast-number c =
    let below = bit_below c.args.settings.now c.loop-setting.setting-index _ c.loop-setting-test.true
    c.setting-item.is c.args.start _ c.loop-setting.invariant c.if-not-is_bool.ensures in
    let count : c.len-number.result ≡ length c.loop-setting.placed.items = c.len-number.ensures ∙ c.loop-setting.placed.ok.0 in
    let few = c.requires.few in
    omega arith

pub overflow_add-start : goal.overflow_add-start
overflow_add-start c =
    let below = bit_below c.args.settings.now c.loop-setting.setting-index _ c.loop-setting-test.true
    c.setting-item.is c.args.start _ c.loop-setting.invariant c.if-not-is_bool.ensures in
    let count : c.len-number.result ≡ length c.loop-setting.placed.items = c.len-number.ensures ∙ c.loop-setting.placed.ok.0 in
    let bytes = c.requires.bytes in
    omega arith

pub loop-setting-preserved : goal.loop-setting-preserved
loop-setting-preserved c =
    c.in_ok-push.ensures.items ∙ ap (λ z. c.loop-setting.placed.items ++ z ∷ []) c.in_ok-at.ensures
    ∙ one_bit_more c.args.settings.now c.loop-setting.setting-index _ c.loop-setting-test.true c.setting-item.is
    c.args.start _ c.loop-setting.invariant c.len-number.result (c.len-number.ensures ∙ c.loop-setting.placed.ok.0) c.if-not-is_bool.ensures
