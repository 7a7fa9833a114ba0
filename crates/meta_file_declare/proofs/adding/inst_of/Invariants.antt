use Rattle.meta_file_declare.proofs.Mentioning.{before_side, before_marks}
use Rattle.meta_file_declare.proofs.adding.inst_of.Given as goal

-- after what stands before
abbrev pub ghost-operands_in : goal.ghost-operands_in
ghost-operands_in g a = before_side g.said a.side a.item.now

abbrev pub ghost-second_in : goal.ghost-second_in
ghost-second_in g a = before_marks g.said a.item.now
