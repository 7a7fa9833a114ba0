use Rattle.std.proofs.Common.{sym, ◌∙◌}
use Rattle.meta_table_reader.proofs.Offsets.{place_back}
use Rattle.meta_table_reader.proofs.entries.offset_of.Goals as goal

pub returns : goal.returns
returns c = λ offset shown is. place_back c.args.version offset c.args.shown shown is (λ e. c.if-shown-none.false (e ∙ sym c.none.ensures))
