use Rattle.std.proofs.Common.{sym, ◌∙◌}
use Rattle.std.proofs.lemmas.Result.{on_ok_weaker}
use Rattle.meta_inst.specs.Controls.{which_of}
use Rattle.meta_build.proofs.Needing.{adds_control, adds_no_control}
use Rattle.meta_build.proofs.needed.intern_control.Goals as goal

pub intern_set-requires : goal.intern_set-requires
intern_set-requires c = c.requires (which_of c.args.which) c.in-Some.v (sym c.get.ensures ∙ c.in-Some.is)

pub returns-in-Some : goal.returns-in-Some
returns-in-Some c = on_ok_weaker _ (adds_control _ _ _ _ _ _ (sym c.get.ensures ∙ c.in-Some.is)) c.intern_set.ensures

pub returns-in-None : goal.returns-in-None
returns-in-None c = adds_no_control _ _ _ _ (sym c.get.ensures ∙ c.in-None.is)
