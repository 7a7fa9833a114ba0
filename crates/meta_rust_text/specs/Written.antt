-- What a call does to the sink that it writes a text to, which it first makes as a whole.
use Rattle.std.specs.Prelude.{◌≡◌, ℕ, ◌≤◌, List, Option, Result, OnOk, IsErrOf}
use Rattle.meta_text.specs.Outside.{Rose, with_more, TookPart}
use Rattle.meta_text.specs.declared.whole.WriteError.{WriteError}
use Rattle.meta_text.specs.declared.whole.WriteError.TheVariants.{WriteFault, OutOfMemory}

-- From the sink before a call to the sink after it, the text was made and written if the answer is `Ok`. If memory ran out before it was
-- made, the sink is as before. After a fault the sink took a front of the text, and not all of it, and counted the fault. The count never
-- falls. What the sink took is given by taken, and the count of its faults by faults.
pub record WritesMade {K : Type 0} (taken : K → Option (List ℕ)) (faults : K → ℕ) (text : List ℕ)
    (result : Result (Unit {0}) WriteError) (old new : K) : Type 0 where
  pub ok : OnOk result (taken new ≡ with_more (taken old) text)
  pub in_part : IsErrOf result WriteFault → TookPart text (taken old) (taken new)
  pub memory : IsErrOf result OutOfMemory → new ≡ old
  pub fault : IsErrOf result WriteFault → Rose (faults old) (faults new)
  pub counted : faults old ≤ faults new
