use Rattle.std.proofs.Common.{◌≡◌, ap, Err}
use Rattle.std.specs.Prelude.{⊤}
use Rattle.std.proofs.lemmas.Result.{err_from_is_err_and}
use Rattle.std.proofs.lemmas.Option.{MatchOption-at_some}
use Rattle.meta_build.specs.AllDeclared.{HasFirstFault}
use Rattle.meta_program.specs.declared.loading.LoadError.{LoadError}
use Rattle.meta_program.specs.declared.loading.LoadError.TheVariants as errors
use Rattle.meta_program.proofs.Texts.{is_undeclared}
use Rattle.meta_program.proofs.loading.loaded.Goals as goal

pub faulty-requires-clause-item : goal.faulty-requires-clause-item
faulty-requires-clause-item c = (
  c.in_ok-declarations.declarations,
  c.faults_have_their_items.ensures _ _ _ c.in_ok-declarations.ensures.said
      (MatchOption-at_some ⊤ (HasFirstFault c.in_ok-declarations.declarations) c.in-Some.fault c.in-Some.is c.in_ok-fault_in.ensures.some),
)

pub returns-in_err-declarations-clause-refused : goal.returns-in_err-declarations-clause-refused
returns-in_err-declarations-clause-refused c = λ message is.
    let gives = c.from_residual-in_err-declarations in
    let p = err_from_is_err_and gives.result gives.ensures.1 in
    let gave = p.1 in
    let which = p.2 in
    let same : c.in_err-declarations.field-0.0 ≡ errors.Refused message = cc in
    is_undeclared c.args.path.now c.args.text.now _ _ c.in_ok-items.ensures.read message
    (c.in_err-declarations.ensures.refused message (ap (λ (e : LoadError). Err e) same))
