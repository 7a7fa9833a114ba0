-- What a source gave over several reads.
use Rattle.std.proofs.Common.{◌≡◌, ℕ, ◌+◌, ◌<◌, ◌≤◌, List, [], ◌++◌, length, take, refl, ap, append_assoc, length-append, length-take}
use Rattle.std.proofs.Common.{arith}
use Rattle.std.specs.Prelude.{Option, None, Some}
use Rattle.meta_text.specs.Outside.{with_front, GaveMore, GaveAtMost}

-- no bytes in front change nothing
pub gave_none : (left : Option (List ℕ)) → left ≡ with_front [] left
gave_none None = refl
gave_none (Some left) = refl

-- some bytes were given, and then more
pub gave_both : (bytes more : List ℕ) (old mid new : Option (List ℕ)) → old ≡ with_front bytes mid
    → mid ≡ with_front more new → old ≡ with_front (bytes ++ more) new
gave_both bytes more old mid None e f = rw (e, f) refl
gave_both bytes more old mid (Some left) e f = rw (e, f) (ap Some (simp append_assoc))

-- with the last read, more than n bytes were given
pub gave_too_much : (n count : ℕ) (bytes block : List ℕ) (old mid new : Option (List ℕ)) → old ≡ with_front bytes mid
    → mid ≡ with_front (take count block) new → count ≤ length block → n < length bytes + count → GaveMore n old new
gave_too_much n count bytes block old mid new e f fits many =
    record {
      bytes = bytes ++ take count block;
      given = gave_both bytes (take count block) old mid new e f;
      more = simp (length-append, length-take) (omega arith);
    }

-- with the last read, n bytes or fewer were given
pub gave_few : (n count : ℕ) (bytes block : List ℕ) (old mid new : Option (List ℕ)) → old ≡ with_front bytes mid
    → mid ≡ with_front (take count block) new → count ≤ length block → length bytes + count ≤ n → GaveAtMost n old new
gave_few n count bytes block old mid new e f fits few =
    record {
      bytes = bytes ++ take count block;
      given = gave_both bytes (take count block) old mid new e f;
      within = simp (length-append, length-take) (omega arith);
    }
