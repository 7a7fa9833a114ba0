use Rattle.meta_program.proofs.NameItems.{names_have_items}
use Rattle.meta_program.proofs.NameLines.{messages_have_lines}
use Rattle.meta_program.proofs.laws.names_have_their_items.Goals as goal

pub returns-clause-items : goal.returns-clause-items
returns-clause-items c = names_have_items

pub returns-clause-lines : goal.returns-clause-lines
returns-clause-lines c = messages_have_lines c.what_is_read.ensures.read
