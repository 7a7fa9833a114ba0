use Rattle.std.proofs.Common.{arith}
use Rattle.std.proofs.lemmas.Option.{slice_get_within}
use Rattle.meta_build.proofs.Interning.{interned_at, found_there}
use Rattle.meta_build.proofs.Needing.{set_is, root_raw}
use Rattle.meta_gen.proofs.operand_constraints.set_place.Goals as goal

pub get_raw_typeset-requires-clause-raw : goal.get_raw_typeset-requires-clause-raw
get_raw_typeset-requires-clause-raw c = root_raw c.args.vars.now c.root-root.result c.root-root.ensures.underived

pub index_of-requires : goal.index_of-requires
index_of-requires c =
    let set = set_is c.args.vars.now c.args.tv c.root-root.result c.get_raw_typeset.result.now c.root-root.ensures.root
    c.root-root.ensures.underived c.get_raw_typeset.ensures in
    interned_at c.args.type_sets.now c.get_raw_typeset.result.now _ set c.requires.held

pub returns-clause-set : goal.returns-clause-set
returns-clause-set c =
    let set = set_is c.args.vars.now c.args.tv c.root-root.result c.get_raw_typeset.result.now c.root-root.ensures.root
    c.root-root.ensures.underived c.get_raw_typeset.ensures in
    found_there c.args.type_sets.now c.get_raw_typeset.result.now _ set c.requires.held c.index_of.result c.index_of.ensures.only

pub returns-clause-below : goal.returns-clause-below
returns-clause-below c =
    let set = set_is c.args.vars.now c.args.tv c.root-root.result c.get_raw_typeset.result.now c.root-root.ensures.root
    c.root-root.ensures.underived c.get_raw_typeset.ensures in
    let inside = slice_get_within c.args.type_sets.now c.index_of.result _
    (found_there c.args.type_sets.now c.get_raw_typeset.result.now _ set c.requires.held c.index_of.result c.index_of.ensures.only) in
    let few = c.requires.few in
    omega arith

pub overflow_cast-result : goal.overflow_cast-result
overflow_cast-result c =
    let set = set_is c.args.vars.now c.args.tv c.root-root.result c.get_raw_typeset.result.now c.root-root.ensures.root
    c.root-root.ensures.underived c.get_raw_typeset.ensures in
    let inside = slice_get_within c.args.type_sets.now c.index_of.result _
    (found_there c.args.type_sets.now c.get_raw_typeset.result.now _ set c.requires.held c.index_of.result c.index_of.ensures.only) in
    let few = c.requires.few in
    omega arith
