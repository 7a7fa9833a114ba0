use Rattle.std.proofs.Common.{subst}
use Rattle.meta_typevar.specs.TypeSetParts.{TypeSetParts}
use Rattle.meta_build.specs.Interned.{Adds}
use Rattle.meta_build.proofs.Interning.{adds_told}
use Rattle.meta_build.proofs.Needing.{set_is, root_raw}
use Rattle.meta_build.proofs.needed.intern_set.Goals as goal

pub get_raw_typeset-requires-clause-raw : goal.get_raw_typeset-requires-clause-raw
get_raw_typeset-requires-clause-raw c = root_raw c.args.vars.now c.root-root.result c.root-root.ensures.underived

pub returns : goal.returns
returns c =
    let set = set_is c.args.vars.now c.args.tv c.root-root.result c.get_raw_typeset.result.now c.root-root.ensures.root
    c.root-root.ensures.underived c.get_raw_typeset.ensures in
    subst (λ (s : TypeSetParts). Adds s c.args.type_sets.now c.add.new.self) set
    (adds_told c.get_raw_typeset.result.now c.args.type_sets.now c.add.new.self (λ i h. (c.in_ok-add.ensures.known i h).1)
    (λ n. c.in_ok-add.ensures.added n))
