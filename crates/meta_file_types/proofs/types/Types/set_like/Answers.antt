use Rattle.std.proofs.Common.{◌∙◌, sym}
use Rattle.meta_file_types.specs.Words.{type_named}
use Rattle.meta_file_types.specs.Said.{mentioning}
use Rattle.meta_file_types.specs.Held.{registered}
use Rattle.meta_file_types.proofs.Deriving.{like_root, like_derived}
use Rattle.meta_file_types.proofs.types.Types.set_like.Goals as goal

pub returns-then-is_some-clause-means : goal.returns-then-is_some-clause-means
returns-then-is_some-clause-means g c =
    rw c.of.ensures (like_derived (registered c.type_named.new.self (mentioning g.said (type_named g.said.words c.args.word.now))) g.said.roots
    c.in_ok-variable.ensures.holds.registry g.said.words c.args.word.now c.in_ok-variable.variable c.in_ok-variable.ensures.means
    c.content.result.now c.content.ensures.kept (sym c.if-is_some.true ∙ c.is_some.ensures))

pub returns-clause-means : goal.returns-clause-means
returns-clause-means g c =
    like_root (registered c.type_named.new.self (mentioning g.said (type_named g.said.words c.args.word.now))) g.said.roots
    c.in_ok-variable.ensures.holds.registry g.said.words c.args.word.now c.in_ok-variable.variable c.in_ok-variable.ensures.means
    c.content.result.now c.content.ensures.kept c.in_ok-get_typeset.field-0 (sym c.if-is_some.false ∙ c.is_some.ensures)
    c.in_ok-get_typeset.ensures
