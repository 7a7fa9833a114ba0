use Rattle.std.proofs.Common.{ℕ, IfNone, subst, sym, rules}
use Rattle.meta_types.specs.Function.{AnswersNumber}
use Rattle.meta_types.specs.ValueTypes.{type_parts_of}
use Rattle.meta_types.specs.DerivedFunc.{function_of}
use Rattle.meta_types.proofs.Typed.{typed}
use Rattle.meta_types.proofs.ByNumber.{no_number}
use Rattle.meta_types.proofs.derived_func.DerivedFunc.apply_number.Goals as goal

pub returns-in_err-t-clause-none : goal.returns-in_err-t-clause-none
returns-in_err-t-clause-none c =
    subst (λ r. IfNone r ((m : ℕ) → ¬ AnswersNumber (function_of c.args.self) c.args.c m)) (sym c.from_residual-in_err-t.ensures)
    (λ m. no_number _ (type_parts_of c.in_ok-from_number.field-0) _ m
    (typed c.in_ok-from_number.field-0) c.in_ok-from_number.ensures.found c.in_err-t.ensures.none)

pub returns-clause-found : goal.returns-clause-found
returns-clause-found c = search rules
