use Rattle.std.proofs.Common.{ap}
use Rattle.meta_types.specs.DerivedFunc.{function_of}
use Rattle.meta_types.proofs.Typed.{typed}
use Rattle.meta_types.proofs.Relating.{tests_narrower, tests_wider, tests_answer, no_relation}
use Rattle.meta_types.proofs.derived_func.DerivedFunc.relates.Goals as goal

pub returns-in-Narrower : goal.returns-in-Narrower
returns-in-Narrower c = tests_narrower _ _ _ _ _ _ (ap function_of c.in-Narrower.is) c.of-in-Narrower.ensures c.of.ensures (typed c.args.c)
    (typed c.args.t) c.is_narrower.ensures

pub returns-in-Wider : goal.returns-in-Wider
returns-in-Wider c = tests_wider _ _ _ _ _ _ (ap function_of c.in-Wider.is) c.of-in-Wider.ensures c.of-in-Wider-2.ensures (typed c.args.c)
    (typed c.args.t) c.is_narrower-in-Wider.ensures

pub returns-in_default : goal.returns-in_default
returns-in_default c = tests_answer _ _ _ c.apply.result _ (no_relation c.args.self c.in_default.not-Narrower c.in_default.not-Wider)
    c.apply.ensures.found c.apply.ensures.none c.eq.ensures
