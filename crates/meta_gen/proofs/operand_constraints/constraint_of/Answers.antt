use Rattle.meta_inst.specs.Controls.{which_of}
use Rattle.meta_gen.proofs.Describing.{concrete, same, free, free_number, parent_controls, by_parent, underived_by}
use Rattle.meta_gen.proofs.operand_constraints.constraint_of.Goals as goal

pub returns-in-Some : goal.returns-in-Some
returns-in-Some c = concrete _ _ _ _ c.in-Some.fixed _ c.in-Some.ensures.found c.number.ensures

pub returns-in-Some-find : goal.returns-in-Some-find
returns-in-Some-find c = same _ _ _ _ c.in_default.ensures.none
    (which_of c.in-Some-find.which) c.in-Some-find.ensures.found c.from.result c.from.ensures

pub set_place-requires-clause-held : goal.set_place-requires-clause-held
set_place-requires-clause-held c =
    c.requires.held (free_number c.args.vars.now c.args.controls.now c.args.type_sets.now c.args.tv
    c.content.ensures.registry c.requires.controls c.requires.of_registry c.in_default.ensures.none c.in_default-find.ensures.none
    (underived_by c.args.vars.now c.args.controls.now c.args.type_sets.now c.args.tv c.content.ensures.registry
    c.requires.controls c.requires.of_registry c.in_default.ensures.none c.in_default-find.ensures.none
    c.content.result.now c.content.ensures.kept c.in-None.is))

pub which-which-requires : goal.which-which-requires
which-which-requires c =
    parent_controls c.args.vars.now c.args.controls.now c.args.type_sets.now c.args.tv c.content.ensures.registry
    c.requires.controls c.requires.of_registry c.in_default.ensures.none c.in_default-find.ensures.none
    c.content.result.now c.in-Some-base.parent c.content.ensures.kept c.in-Some-base.is c.requires.constrained

pub returns-in-Some-base : goal.returns-in-Some-base
returns-in-Some-base c =
    by_parent c.args.vars.now c.args.controls.now c.args.type_sets.now c.args.tv c.content.ensures.registry
    c.requires.controls c.requires.of_registry c.in_default.ensures.none c.in_default-find.ensures.none
    c.content.result.now c.in-Some-base.parent c.content.ensures.kept c.in-Some-base.is
    (which_of c.which-which.result) c.which-which.ensures.is c.from-in-Some-base.result c.from-in-Some-base.ensures

pub returns-in-None : goal.returns-in-None
returns-in-None c =
    free c.args.vars.now c.args.controls.now c.args.type_sets.now c.args.tv c.content.ensures.registry
    c.requires.controls c.requires.of_registry c.in_default.ensures.none c.in_default-find.ensures.none c.set_place.result
    (underived_by c.args.vars.now c.args.controls.now c.args.type_sets.now c.args.tv c.content.ensures.registry
    c.requires.controls c.requires.of_registry c.in_default.ensures.none c.in_default-find.ensures.none
    c.content.result.now c.content.ensures.kept c.in-None.is) c.set_place.ensures.set
