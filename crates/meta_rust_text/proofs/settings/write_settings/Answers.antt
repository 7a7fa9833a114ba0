use Rattle.std.proofs.Common.{List, subst, ◌∙◌}
use Rattle.meta_settings.specs.Layout.{Layout}
use Rattle.meta_rust_text.specs.SettingsText.{settings_text}
use Rattle.meta_rust_text.specs.Written.{WritesMade}
use Rattle.meta_rust_text.proofs.settings.write_settings.Goals as goal

-- the groups that are built are those that were declared
pub returns : goal.returns
returns g c =
    subst (λ (groups : List Layout).
    WritesMade g.K.Sink.taken g.K.Sink.faults (settings_text groups) c.write_made.result c.args.sink.now c.write_made.new.sink)
    (c.groups.ensures.groups ∙ c.groups.ensures.built)
    (c.write_made.ensures _ c.settings_text.ensures)
