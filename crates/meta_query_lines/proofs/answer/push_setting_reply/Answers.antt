use Rattle.meta_gen.specs.declared.reply.Reply.TheVariants.{Setting}
use Rattle.meta_query_lines.proofs.answer.push_setting_reply.Goals as goal

pub returns-in-true : goal.returns-in-true
returns-in-true c = let h = c.in_ok-push_setting_line.ensures.found c.in-true.is in (Setting h.0, h.1, h.2)
