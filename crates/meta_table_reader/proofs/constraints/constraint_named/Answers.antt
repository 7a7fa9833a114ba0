use Rattle.std.proofs.Common.{◌∙◌}
use Rattle.meta_types.specs.DerivedFunc.{function_of}
use Rattle.meta_inst.specs.Controls.{which_of}
use Rattle.meta_table_reader.proofs.Controls.{named_by, named_same}
use Rattle.meta_table_reader.proofs.constraints.constraint_named.Goals as goal

pub returns-in-Some : goal.returns-in-Some
returns-in-Some c = λ n is e.
    c.from.ensures ∙ named_by n c.args.word.now c.split_mark-split.result.name.now
    (which_of c.split_mark-split.result.which) (function_of c.in-Some.derived_func) is e c.split_mark-split.ensures c.in-Some.ensures.found

pub returns-in-None : goal.returns-in-None
returns-in-None c = λ n is e.
    c.from-in-None.ensures ∙ named_same n c.args.word.now c.split_mark-split.result.name.now
    (which_of c.split_mark-split.result.which) is e c.split_mark-split.ensures c.in-None.ensures.none
