use Rattle.std.proofs.Common.{◌∙◌}
use Rattle.meta_program.proofs.ItemLines.{names_have_lines}
use Rattle.meta_program.proofs.told.told_of.Goals as goal

pub all_told-requires : goal.all_told-requires
all_told-requires c =
    names_have_lines c.what_is_read.ensures.read c.args.text.now c.in_ok-items.items.items.items c.in_ok-items.items.lines.items
    c.args.built.now c.requires c.declarations-declarations.ensures.built c.in_ok-items.ensures.read c.in_ok-items.ensures.lines
    c.deref.result.now (c.deref.ensures.value ∙ c.in_ok-refused.ensures)
