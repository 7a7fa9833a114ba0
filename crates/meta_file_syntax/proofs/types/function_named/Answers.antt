use Rattle.std.proofs.Common.{refl, ◌∙◌}
use Rattle.meta_types.specs.declared.derived_func.TheConstants.{DERIVED_FUNCS}
use Rattle.meta_types.specs.declared.derived_func.DerivedFunc.TheVariants.{LaneOf}
use Rattle.meta_file_syntax.specs.Words.{function_text, function_named}
use Rattle.meta_file_syntax.proofs.Written.{this_one, not_this_one, none_of_them}
use Rattle.meta_file_syntax.proofs.types.function_named.Goals as goal

pub loop-function-init : goal.loop-function-init
unfolding function_named
loop-function-init c = refl

pub returns-then-eq : goal.returns-then-eq
returns-then-eq c =
    let at = c.loop-function.function-index in
    this_one function_text DERIVED_FUNCS at LaneOf c.args.name.now _ _ _ c.loop-function-test.true
    (c.as_bytes.ensures.value ∙ c.name.ensures) c.eq.ensures c.if-eq.true c.loop-function.invariant

pub loop-function-preserved : goal.loop-function-preserved
loop-function-preserved c =
    let at = c.loop-function.function-index in
    not_this_one function_text DERIVED_FUNCS at LaneOf c.args.name.now _ _ _ c.loop-function-test.true
    (c.as_bytes.ensures.value ∙ c.name.ensures) c.eq.ensures c.if-eq.false c.loop-function.invariant

pub returns : goal.returns
returns c =
    let at = c.loop-function.function-index in
    none_of_them function_text DERIVED_FUNCS at c.args.name.now _ c.loop-function-test.false c.loop-function.invariant
