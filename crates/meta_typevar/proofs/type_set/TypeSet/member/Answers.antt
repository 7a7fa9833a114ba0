use Rattle.std.proofs.Common.{◌∙◌, sym}
use Rattle.std.proofs.lemmas.Bool.{false≢true}
use Rattle.meta_typevar.proofs.Numbers.{number_of_member, member_numbered, member_not_numbered}
use Rattle.meta_typevar.proofs.type_set.TypeSet.member.Goals as goal

pub returns-then-not-contains-clause-none : goal.returns-then-not-contains-clause-none
returns-then-not-contains-clause-none c = λ r h e. false≢true (sym c.if-not-contains.true
    ∙ c.contains.ensures.1 (number_of_member c.self.inside.masks c.args.self.now r c.args.number c.self.view_is h e))

pub returns-clause-found : goal.returns-clause-found
returns-clause-found c =
    member_numbered c.self.inside.masks c.args.self.now c.args.number c.from_number.result c.self.view_is
    (c.contains.ensures.0 c.if-not-contains.false) c.from_number.ensures.found

pub returns-clause-none : goal.returns-clause-none
returns-clause-none c = member_not_numbered c.args.self.now c.args.number c.from_number.result c.from_number.ensures.none
