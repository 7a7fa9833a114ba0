-- A call that fails only because memory runs out answers no fault.
use Rattle.std.proofs.Common.{◌≡◌, ◌≢◌, Result, Ok, Err, IfErr, IsErrAnd}
use Rattle.meta_types.specs.declared.fault.DefinitionError.{DefinitionError}
use Rattle.meta_types.specs.declared.fault.DefinitionError.TheVariants.{OutOfMemory}

pub only_memory : {X : Type 0} (r : Result X DefinitionError) (P : DefinitionError → Type 0)
    → IsErrAnd r (λ e. e ≡ OutOfMemory) → IfErr r (λ e. e ≢ OutOfMemory → P e)
only_memory (Ok x) P h = tt
only_memory (Err e) P h = λ other. absurd (other h)
