use Rattle.meta_file_types.proofs.Deriving.{root_mentioned, type_means, type_holds, type_extends}
use Rattle.meta_file_types.proofs.types.Types.type_var.Goals as goal

pub returns-clause-means : goal.returns-clause-means
returns-clause-means g c =
    type_means c.args.self.now c.type_named.new.self g.said c.args.means.now c.in_ok-variable.variable c.as_slice-word.result.now
    c.as_slice-word.ensures
    c.as_slice.result.now c.as_slice.ensures c.in_ok-variable.ensures.means c.in_ok-variable.ensures.holds
    c.derive_all.new.self c.derive_all.result
    (c.derive_all.ensures.means g.said c.in_ok-variable.ensures.means.meaning
    (root_mentioned c.args.self.now c.type_named.new.self g.said c.args.means.now c.in_ok-variable.variable c.as_slice-word.result.now
    c.as_slice-word.ensures
    c.as_slice.result.now c.as_slice.ensures c.in_ok-variable.ensures.means c.in_ok-variable.ensures.holds))

pub returns-clause-holds : goal.returns-clause-holds
returns-clause-holds g c =
    type_holds c.args.self.now c.type_named.new.self g.said c.args.means.now c.in_ok-variable.variable c.as_slice-word.result.now
    c.as_slice-word.ensures
    c.as_slice.result.now c.as_slice.ensures c.in_ok-variable.ensures.means c.in_ok-variable.ensures.holds
    c.derive_all.new.self c.derive_all.result
    (c.derive_all.ensures.means g.said c.in_ok-variable.ensures.means.meaning
    (root_mentioned c.args.self.now c.type_named.new.self g.said c.args.means.now c.in_ok-variable.variable c.as_slice-word.result.now
    c.as_slice-word.ensures
    c.as_slice.result.now c.as_slice.ensures c.in_ok-variable.ensures.means c.in_ok-variable.ensures.holds))

pub returns-clause-extends : goal.returns-clause-extends
returns-clause-extends g c =
    type_extends c.args.self.now c.type_named.new.self g.said c.args.means.now c.in_ok-variable.variable c.as_slice-word.result.now
    c.as_slice-word.ensures
    c.as_slice.result.now c.as_slice.ensures c.in_ok-variable.ensures.means c.in_ok-variable.ensures.holds
    c.derive_all.new.self c.derive_all.result c.in_ok-variable.ensures.extends
    (c.derive_all.ensures.extends g.said c.in_ok-variable.ensures.means.meaning
    (root_mentioned c.args.self.now c.type_named.new.self g.said c.args.means.now c.in_ok-variable.variable c.as_slice-word.result.now
    c.as_slice-word.ensures
    c.as_slice.result.now c.as_slice.ensures c.in_ok-variable.ensures.means c.in_ok-variable.ensures.holds))
