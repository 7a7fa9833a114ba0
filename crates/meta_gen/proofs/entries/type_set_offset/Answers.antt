use Rattle.std.proofs.Common.{sym, ◌∙◌}
use Rattle.meta_inst.specs.Controls.{which_of}
use Rattle.meta_gen.proofs.Offsets.{offset_of, no_offset}
use Rattle.meta_gen.proofs.entries.type_set_offset.Goals as goal

pub set_place-requires-clause-of_registry : goal.set_place-requires-clause-of_registry
set_place-requires-clause-of_registry c = c.requires.controls (which_of c.args.which) c.in-Some.v (sym c.get.ensures ∙ c.in-Some.is)

pub set_place-requires-clause-held : goal.set_place-requires-clause-held
set_place-requires-clause-held c = c.requires.held c.in-Some.v (sym c.get.ensures ∙ c.in-Some.is)

pub returns-in-Some : goal.returns-in-Some
returns-in-Some c = λ tables has. offset_of c.args.vars.now c.args.controls.now c.args.type_sets.now
    (which_of c.args.which) c.in-Some.v c.set_place.result (sym c.get.ensures
    ∙ c.in-Some.is) c.set_place.ensures.below c.set_place.ensures.set tables has

pub returns-in-None : goal.returns-in-None
returns-in-None c = λ tables has. no_offset c.args.vars.now c.args.controls.now (which_of c.args.which) (sym c.get.ensures
    ∙ c.in-None.is) tables
