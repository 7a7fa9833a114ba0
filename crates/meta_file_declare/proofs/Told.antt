-- What was returned, and what is meant.
use Rattle.std.proofs.Common.{◌≡◌, sym, subst}
use Rattle.std.specs.Prelude.{Result}
use Rattle.meta_file_types.specs.declared.refused.Reason.{Reason}
use Rattle.meta_file_types.specs.declared.refused.ItemError.{ItemError}
use Rattle.meta_file_types.specs.Telling.{Fails}

-- an error of what is the same
pub fails_same : {A : Type 0} (e : ItemError) (a b : Result A Reason) → a ≡ b → Fails e b → Fails e a
fails_same e a b same h = subst (Fails e) (sym same) h
