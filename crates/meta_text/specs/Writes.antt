-- What a call does to the sink that it writes a text to.
use Rattle.std.specs.Prelude.{◌≡◌, ℕ, ◌≤◌, List, Option, Result, OnOk, OnErr, IfErr}
use Rattle.meta_text.specs.Outside.{Rose, with_more, TookPart}
use Rattle.meta_text.specs.declared.whole.WriteError.{WriteError}
use Rattle.meta_text.specs.declared.whole.WriteError.TheVariants.{WriteFault}

-- From the sink before a call to the sink after it, the text was written if the answer is `Ok`. Otherwise a front of the text was written,
-- and not all of it; the error is `WriteFault`, and the sink counted a fault. The count never falls. What the sink took is given by taken,
-- and the count of its faults by faults.
pub record Writes {K : Type 0} (taken : K → Option (List ℕ)) (faults : K → ℕ) (text : List ℕ)
    (result : Result (Unit {0}) WriteError) (old new : K) : Type 0 where
  pub ok : OnOk result (taken new ≡ with_more (taken old) text)
  pub err : OnErr result (TookPart text (taken old) (taken new))
  pub only : IfErr result (λ error. error ≡ WriteFault)
  pub fault : OnErr result (Rose (faults old) (faults new))
  pub counted : faults old ≤ faults new
