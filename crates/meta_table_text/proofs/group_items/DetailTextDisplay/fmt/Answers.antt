use Rattle.std.proofs.Common.{sym, subst}
use Rattle.std.specs.Fmt.{HasWritten}
use Rattle.meta_table_text.specs.GroupItems.{detail_text}
use Rattle.meta_table_text.proofs.group_items.DetailTextDisplay.fmt.Goals as goal

pub returns-in-Enum-clause-writes : goal.returns-in-Enum-clause-writes
returns-in-Enum-clause-writes g c = λ plain ok.
    subst (λ d. HasWritten g.W.Write.write_str_gives c.args.f.now (detail_text d) c.write-in-Enum.new.self) (sym c.in-Enum.is)
    (c.write-in-Enum.ensures.writes plain ok)
