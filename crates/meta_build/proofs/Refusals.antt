-- What is said of the error of a call that is handed on.
use Rattle.std.proofs.Common.{◌≡◌, ◌≢◌, Result, Ok, Err, sym, ◌∙◌, subst}
use Rattle.std.specs.Result.{IfErr, IsErrAnd}
use Rattle.meta_types.specs.declared.fault.DefinitionError.{DefinitionError}
use Rattle.meta_types.specs.declared.fault.DefinitionError.TheVariants.{OutOfMemory}

-- an error is passed on with what it says, unless memory ran out
pub handed_on : {T : Type 0} (f : DefinitionError) (r : Result T DefinitionError) (Has : DefinitionError → Type 0)
    → IsErrAnd r (λ e. e ≡ f) → (f ≢ OutOfMemory → Has f) → IfErr r (λ e. e ≢ OutOfMemory → Has e)
handed_on f (Ok t) Has is shows = tt
handed_on f (Err e) Has is shows = λ other. subst Has (sym is) (shows (λ same. other (is ∙ same)))
