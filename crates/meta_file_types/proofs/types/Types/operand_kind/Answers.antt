use Rattle.std.proofs.Common.{subst}
use Rattle.meta_file_types.specs.Operands.{kind_by_word, AreKindsIn}
use Rattle.meta_file_types.specs.Held.{registered}
use Rattle.meta_file_types.proofs.OperandKinds.{kind_means, kind_holds, kind_extends, value_means, value_holds, value_extends}
use Rattle.meta_file_types.proofs.types.Types.operand_kind.Goals as goal

pub returns-in-Some-clause-means : goal.returns-in-Some-clause-means
returns-in-Some-clause-means g c =
    kind_means c.args.self.now g.said c.args.means.now c.in-Some.kind
    (subst (AreKindsIn (registered c.args.self.now g.said) (kind_by_word g.said.words c.args.means.now)) c.in-Some.is c.in_ok-kind.ensures)

pub returns-in-Some-clause-holds : goal.returns-in-Some-clause-holds
returns-in-Some-clause-holds g c =
    kind_holds c.args.self.now g.said c.args.means.now c.in-Some.kind
    (subst (AreKindsIn (registered c.args.self.now g.said) (kind_by_word g.said.words c.args.means.now)) c.in-Some.is c.in_ok-kind.ensures)
    c.requires

pub returns-in-Some-clause-extends : goal.returns-in-Some-clause-extends
returns-in-Some-clause-extends g c =
    kind_extends c.args.self.now g.said c.args.means.now c.in-Some.kind
    (subst (AreKindsIn (registered c.args.self.now g.said) (kind_by_word g.said.words c.args.means.now)) c.in-Some.is c.in_ok-kind.ensures)

pub returns-in-None-clause-means : goal.returns-in-None-clause-means
returns-in-None-clause-means g c =
    value_means (registered c.args.self.now g.said) g.said c.args.means.now
    (subst (AreKindsIn (registered c.args.self.now g.said) (kind_by_word g.said.words c.args.means.now)) c.in-None.is c.in_ok-kind.ensures)
    c.value_kind.new.self c.value_kind.result c.value_kind.ensures.means

pub returns-in-None-clause-holds : goal.returns-in-None-clause-holds
returns-in-None-clause-holds g c =
    value_holds (registered c.args.self.now g.said) g.said c.args.means.now
    (subst (AreKindsIn (registered c.args.self.now g.said) (kind_by_word g.said.words c.args.means.now)) c.in-None.is c.in_ok-kind.ensures)
    c.value_kind.new.self c.value_kind.result c.value_kind.ensures.holds

pub returns-in-None-clause-extends : goal.returns-in-None-clause-extends
returns-in-None-clause-extends g c =
    value_extends (registered c.args.self.now g.said) g.said c.args.means.now
    (subst (AreKindsIn (registered c.args.self.now g.said) (kind_by_word g.said.words c.args.means.now)) c.in-None.is c.in_ok-kind.ensures)
    (registered c.args.self.now g.said) c.value_kind.new.self c.value_kind.result c.value_kind.ensures.extends
