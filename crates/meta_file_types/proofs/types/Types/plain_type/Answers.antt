use Rattle.std.proofs.Common.{List, sym, subst}
use Rattle.meta_file_types.specs.declared.plain.PlainRoot.{PlainRoot}
use Rattle.meta_file_types.specs.Held.{StandsFor}
use Rattle.meta_types.specs.ValueTypes.{type_parts_of}
use Rattle.meta_file_types.proofs.Fresh.{known_is, known_held, known_extends}
use Rattle.meta_file_types.proofs.types.Types.plain_type.Goals as goal

pub returns-in-Some-clause-means : goal.returns-in-Some-clause-means
returns-in-Some-clause-means g c =
    known_is c.args.self.now.vars g.said.symbols c.args.self.now.plain.items c.args.self.now.words g.said.roots g.said.words c.requires
    (type_parts_of c.args.value_type) c.in-Some.known
    (subst (λ (ps : List PlainRoot). StandsFor ps
    (type_parts_of c.args.value_type) c.in-Some.known) c.deref.ensures.value c.in-Some.ensures.found)

pub returns-in-Some-clause-holds : goal.returns-in-Some-clause-holds
returns-in-Some-clause-holds g c =
    known_held c.args.self.now.vars g.said.symbols c.args.self.now.plain.items c.args.self.now.words g.said.roots g.said.words c.requires
    (type_parts_of c.args.value_type) c.in-Some.known
    (subst (λ (ps : List PlainRoot). StandsFor ps
    (type_parts_of c.args.value_type) c.in-Some.known) c.deref.ensures.value c.in-Some.ensures.found)

pub returns-in-Some-clause-extends : goal.returns-in-Some-clause-extends
returns-in-Some-clause-extends g c =
    known_extends c.args.self.now.vars g.said.symbols c.args.self.now.plain.items c.args.self.now.words g.said.roots g.said.words c.requires
    (type_parts_of c.args.value_type) c.in-Some.known
    (subst (λ (ps : List PlainRoot). StandsFor ps
    (type_parts_of c.args.value_type) c.in-Some.known) c.deref.ensures.value c.in-Some.ensures.found)

pub new_plain-requires : goal.new_plain-requires
new_plain-requires g c = (
  c.requires,
  λ n s. c.in-None.ensures.none n
      (subst (λ (ps : List PlainRoot). StandsFor ps (type_parts_of c.args.value_type) n) (sym c.deref.ensures.value) s),
)
