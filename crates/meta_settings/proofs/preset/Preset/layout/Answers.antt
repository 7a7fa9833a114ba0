use Rattle.std.proofs.Common.{◌∙◌, [], sym, ap, subst, length}
use Rattle.meta_settings.specs.PresetLayout.{IsLayoutOn}
use Rattle.meta_settings.proofs.Bits.{byte_within, written_back}
use Rattle.meta_settings.proofs.preset.Preset.layout.Goals as goal

pub turn_on_all-requires : goal.turn_on_all-requires
turn_on_all-requires c =
    let empty = c.in_ok-layout.ensures 0 in
    rw (c.booleans.ensures, c.bool_start_byte_offset.ensures)
    (byte_within c.args.group.now c.args.self.now _ c.settings_size.ensures.sized (ap length c.deref_mut.ensures.value
    ∙ empty.size_is ∙ c.settings_size.ensures.size) c.requires)

pub returns : goal.returns
returns c =
    let start = c.bool_start_byte_offset.result in
    let empty = c.in_ok-layout.ensures start in
    let on = c.turn_on_all.ensures c.settings_size.result
    (subst (λ layout. IsLayoutOn start c.settings_size.result [] layout) (sym c.deref_mut.ensures.value) empty) in
    rw (written_back c.in_ok-layout.layout.len c.turn_on_all.new.layout c.in_ok-layout.layout.items
    (on.size_is ∙ sym empty.size_is) c.in_ok-layout.layout.ok.0)
    (rw (c.booleans.ensures, c.bool_start_byte_offset.ensures, c.settings_size.ensures.size) at on)
