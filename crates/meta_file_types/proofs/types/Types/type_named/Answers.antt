use Rattle.meta_types.specs.ValueTypes.{type_parts_of}
use Rattle.meta_file_types.specs.Words.{type_named}
use Rattle.meta_file_types.specs.Held.{registered}
use Rattle.meta_file_types.proofs.Mentioned.{named_means, named_holds, named_extends, there_means, there_holds, there_extends}
use Rattle.meta_file_types.proofs.types.Types.type_named.Goals as goal

pub returns-in-Some-clause-means : goal.returns-in-Some-clause-means
returns-in-Some-clause-means g c =
    named_means g.said c.args.word.now (type_parts_of c.in-Some.value_type) c.in-Some.ensures.found c.plain_type-in-Some.new.self
    c.in_ok-plain_type.field-0 c.in_ok-plain_type.ensures.means

pub returns-in-Some-clause-holds : goal.returns-in-Some-clause-holds
returns-in-Some-clause-holds g c =
    named_holds g.said c.args.word.now (type_parts_of c.in-Some.value_type) c.in-Some.ensures.found c.plain_type-in-Some.new.self
    c.in_ok-plain_type.ensures.holds

pub returns-in-Some-clause-extends : goal.returns-in-Some-clause-extends
returns-in-Some-clause-extends g c =
    named_extends g.said c.args.word.now (type_parts_of c.in-Some.value_type) c.in-Some.ensures.found (registered c.args.self.now g.said)
    c.plain_type-in-Some.new.self c.in_ok-plain_type.ensures.extends

pub returns-clause-means : goal.returns-clause-means
returns-clause-means g c =
    there_means c.args.self.now g.said c.requires (type_named g.said.words c.args.word.now) c.kept_type.result c.kept_type.ensures

pub returns-clause-holds : goal.returns-clause-holds
returns-clause-holds g c =
    there_holds c.args.self.now g.said c.requires (type_named g.said.words c.args.word.now) c.kept_type.result c.kept_type.ensures

pub returns-clause-extends : goal.returns-clause-extends
returns-clause-extends g c =
    there_extends c.args.self.now g.said c.requires (type_named g.said.words c.args.word.now) c.kept_type.result c.kept_type.ensures
