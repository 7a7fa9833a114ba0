use Rattle.std.proofs.Common.{◌≡◌, ◌<◌, All, List, ◌++◌, length, take, drop, slice_get, Some, sym, ap, subst, ◌∙◌, arith}
use Rattle.std.proofs.Math.Seq.{take-append_seam}
use Rattle.meta_settings.specs.Layout.{PlacedSetting}
use Rattle.meta_setting_tables.specs.DefaultBytes.{joined_at, AreDefaultsOf}
use Rattle.meta_setting_tables.proofs.Joining.{byte_inside, defaults_all}
use Rattle.meta_setting_tables.proofs.default_bytes.default_bytes.Goals as goal

pub join_defaults-requires-clause-within : goal.join_defaults-requires-clause-within
join_defaults-requires-clause-within c = λ k s e.
    let b = byte_inside c.args.group.now c.requires c.settings_size.ensures.sized k s
    (sym (ap (λ (w : List PlacedSetting). slice_get w k) c.settings.ensures) ∙ e) in
    let size = c.settings_size.ensures.size in
    let long = ap length c.deref_mut.ensures.value ∙ c.in_ok-bytes.ensures.size in
    omega (arith, b, size, long)

pub returns-clause-defaults : goal.returns-clause-defaults
returns-clause-defaults c =
    let new = c.join_defaults.new.bytes in
    let long = ap length c.deref_mut.ensures.value ∙ c.in_ok-bytes.ensures.size in
    let same : length new ≡ c.in_ok-bytes.bytes.len = c.join_defaults.auto.bytes ∙ c.deref_mut.ensures.len in
    let whole = ap (λ n. take n (new ++ drop (length new) c.in_ok-bytes.bytes.items)) (sym same)
    ∙ take-append_seam new (drop (length new) c.in_ok-bytes.bytes.items) in
    subst (AreDefaultsOf c.args.group.now) (sym whole) (defaults_all c.args.group.now c.requires c.settings_size.ensures.sized new
    (c.join_defaults.auto.bytes ∙ long ∙ c.settings_size.ensures.size)
    (λ byte l. let size = c.settings_size.ensures.size in c.join_defaults.ensures.joined byte (omega (arith, l, long, size))
    ∙ ap (λ (w : List PlacedSetting). Some (joined_at byte w)) c.settings.ensures))

pub returns-clause-bytes : goal.returns-clause-bytes
returns-clause-bytes c =
    let new = c.join_defaults.new.bytes in
    let same : length new ≡ c.in_ok-bytes.bytes.len = c.join_defaults.auto.bytes ∙ c.deref_mut.ensures.len in
    let whole = ap (λ n. take n (new ++ drop (length new) c.in_ok-bytes.bytes.items)) (sym same)
    ∙ take-append_seam new (drop (length new) c.in_ok-bytes.bytes.items) in
    subst (All (λ b. b < 256)) (sym whole) c.join_defaults.ensures.bytes
