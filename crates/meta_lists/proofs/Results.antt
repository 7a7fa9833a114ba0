-- What holds of a result.
use Rattle.std.proofs.Common.{◌≡◌, false, Result, Ok, Err, IfOk, OnOk, OnErr}
use Rattle.std.specs.Result.{is_err}

-- if P and Q hold of the value of a result, and imply R, R holds of it
pub both_ok : {T E : Type 0} (r : Result T E) (P Q R : T → Type 0) → ((t : T) → P t → Q t → R t) → IfOk r P → IfOk r Q → IfOk r R
both_ok (Ok t) P Q R f p q = f t p q
both_ok (Err e) P Q R f p q = tt

-- what holds anyway holds on `Ok`
pub on_ok : {T E P : Type 0} (r : Result T E) → P → OnOk r P
on_ok (Ok t) p = p
on_ok (Err e) p = tt

pub on_err : {T E P : Type 0} (r : Result T E) → P → OnErr r P
on_err (Ok t) p = tt
on_err (Err e) p = p

-- what holds on `Ok` holds if there is no error
pub from_ok : {T E : Type 0} (r : Result T E) (P : Type 0) → is_err r ≡ false → OnOk r P → P
from_ok (Ok t) P e h = h
from_ok (Err x) P e h = absurd (cc)
