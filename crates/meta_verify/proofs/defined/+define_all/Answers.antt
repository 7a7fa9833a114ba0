use Rattle.std.proofs.Common.{rules}
use Rattle.std.proofs.lemmas.Result.{on_ok_weaker, on_err_weaker}
use Rattle.meta_lists.proofs.Results.{on_err}
use Rattle.meta_verify.proofs.DefineLemmas.{first_numbered, all_defined, between_known, others_known, others_fresh, first_taken_back}
use Rattle.meta_verify.proofs.DefineLemmas.{less_known, same_environment, same_known}
use Rattle.meta_verify.proofs.defined.+define_all.Goals as goal

pub insert-requires : goal.insert-requires
insert-requires n c = first_numbered c.args.results.now _ c.in-len1-up.len_at_least c.requires.numbered

pub define_all-defined-requires : goal.define_all-defined-requires
define_all-defined-requires n c = (
  search rules,
  (
    others_fresh c.args.types.now c.insert.new.self c.args.results.now _ c.in-len1-up.len_at_least c.in_ok-insert.ensures.defined
        c.requires.fresh,
    others_known c.args.types.now c.insert.new.self c.args.results.now _ c.in-len1-up.len_at_least c.in_ok-insert.ensures.defined
        c.requires.numbered,
  ),
)

pub returns-in_err-insert-clause-kept : goal.returns-in_err-insert-clause-kept
returns-in_err-insert-clause-kept n c =
    on_err c.from_residual.result (same_environment c.args.types.now c.insert.new.self c.in_err-insert.ensures.kept)

pub returns-in_err-insert-clause-known : goal.returns-in_err-insert-clause-known
returns-in_err-insert-clause-known n c = same_known c.args.types.now c.insert.new.self c.in_err-insert.ensures.kept

pub returns-then-is_err-clause-kept : goal.returns-then-is_err-clause-kept
returns-then-is_err-clause-kept n c =
    on_err_weaker c.define_all-defined.result
    (λ same. first_taken_back c.args.types.now c.insert.new.self c.args.results.now _ c.in-len1-up.len_at_least
    c.in_ok-insert.ensures.defined c.requires.fresh c.define_all-defined.new.types c.remove.new.self same c.remove.ensures)
    c.define_all-defined.ensures.kept

pub returns-then-is_err-clause-known : goal.returns-then-is_err-clause-known
returns-then-is_err-clause-known n c = λ known.
    less_known c.define_all-defined.new.types c.remove.new.self _ c.remove.ensures
    (c.define_all-defined.ensures.known (between_known c.args.types.now c.insert.new.self c.args.results.now _ c.in-len1-up.len_at_least
    c.in_ok-insert.ensures.defined known c.requires.numbered))

pub returns-else-is_err-clause-defined : goal.returns-else-is_err-clause-defined
returns-else-is_err-clause-defined n c =
    on_ok_weaker c.define_all-defined.result
    (all_defined c.args.types.now c.insert.new.self c.args.results.now _ c.in-len1-up.len_at_least c.in_ok-insert.ensures.defined
    c.define_all-defined.new.types)
    c.define_all-defined.ensures.defined

pub returns-else-is_err-clause-known : goal.returns-else-is_err-clause-known
returns-else-is_err-clause-known n c = λ known.
    c.define_all-defined.ensures.known (between_known c.args.types.now c.insert.new.self c.args.results.now _ c.in-len1-up.len_at_least
    c.in_ok-insert.ensures.defined known c.requires.numbered)
