-- What a sink took over several writes of parts of one text.
use Rattle.std.proofs.Common.{◌≡◌, ℕ, ◌<◌, ◌≤◌, List, [], ◌++◌, length, refl, ap, sym, ◌∙◌, subst, append_assoc, length-append, arith}
use Rattle.std.proofs.lemmas.List.{append-nil}
use Rattle.std.specs.Prelude.{Option, Result, Ok, Err, IsErrAnd}
use Rattle.std.proofs.lemmas.Result.{err_from_is_err_and}
use Rattle.meta_text.specs.Outside.{Rose, with_more, TookPart}
use Rattle.meta_text.specs.Writes.{Writes}
use Rattle.meta_text.specs.declared.whole.WriteError.{WriteError}
use Rattle.meta_text.proofs.Taken.{took_none, took_both}

-- a part of the first of two texts is a part of both
part_first : (a b : List ℕ) (old new : Option (List ℕ)) → TookPart a old new → TookPart (a ++ b) old new
part_first a b old new t = record {
  front = t.front;
  rest = t.rest ++ b;
  parts = ap (λ (xs : List ℕ). xs ++ b) t.parts ∙ append_assoc t.front t.rest b;
  short = let s : 0 < length t.rest = t.short in simp length-append (omega arith);
  took = t.took;
}

-- the first text, and a part of the second
part_then : (a b : List ℕ) (old mid new : Option (List ℕ)) → mid ≡ with_more old a → TookPart b mid new → TookPart (a ++ b) old new
part_then a b old mid new e t = record {
  front = a ++ t.front;
  rest = t.rest;
  parts = ap (λ (xs : List ℕ). a ++ xs) t.parts ∙ sym (append_assoc a t.front t.rest);
  short = t.short;
  took = took_both a t.front old mid new e t.took;
}

-- a count that rose later rose
rose_later : (old mid new : ℕ) → old ≤ mid → Rose mid new → Rose old new
rose_later old mid new h r = grind (arith)

-- a front of the text was written, and the rest is still to be written
pub record Writing {K : Type 0} (taken : K → Option (List ℕ)) (faults : K → ℕ) (text rest : List ℕ) (old new : K) : Type 0 where
  pub front : List ℕ
  pub parts : text ≡ front ++ rest
  pub wrote : Writes taken faults front (Ok tt) old new

module _ {K : Type 0} (taken : K → Option (List ℕ)) (faults : K → ℕ) where
  both : (a b : List ℕ) (r : Result (Unit {0}) WriteError) (old mid new : K) → Writes taken faults a (Ok tt) old mid
      → Writes taken faults b r mid new → Writes taken faults (a ++ b) r old new
  both a b (Ok u) old mid new v w = record {
    ok = took_both a b (taken old) (taken mid) (taken new) v.ok w.ok;
    err = tt;
    only = tt;
    fault = tt;
    counted = let x : faults old ≤ faults mid = v.counted in let y : faults mid ≤ faults new = w.counted in omega arith;
  }
  both a b (Err e) old mid new v w = record {
    ok = tt;
    err = part_then a b (taken old) (taken mid) (taken new) v.ok w.err;
    only = w.only;
    fault = rose_later (faults old) (faults mid) (faults new) v.counted w.fault;
    counted = let x : faults old ≤ faults mid = v.counted in let y : faults mid ≤ faults new = w.counted in omega arith;
  }

  front_only : (a b : List ℕ) (e : WriteError) (old new : K) → Writes taken faults a (Err e) old new
      → Writes taken faults (a ++ b) (Err e) old new
  front_only a b e old new w = record {
    ok = tt;
    err = part_first a b (taken old) (taken new) w.err;
    only = w.only;
    fault = w.fault;
    counted = w.counted;
  }

  as_text : (a b : List ℕ) (r : Result (Unit {0}) WriteError) (old new : K) → b ≡ a → Writes taken faults a r old new
      → Writes taken faults b r old new
  as_text a b r old new same w = subst (λ (text : List ℕ). Writes taken faults text r old new) (sym same) w

-- before the first write
pub starts : {K : Type 0} (taken : K → Option (List ℕ)) (faults : K → ℕ) (text : List ℕ) (sink : K)
    → Writing taken faults text text sink sink
starts taken faults text sink = record {
  front = [];
  parts = refl;
  wrote = record { ok = took_none (taken sink); err = tt; only = tt; fault = tt; counted = omega arith };
}

-- the next part was written
pub goes_on : {K : Type 0} {taken : K → Option (List ℕ)} {faults : K → ℕ} {text part rest : List ℕ} {old mid new : K}
    → Writing taken faults text (part ++ rest) old mid → Writes taken faults part (Ok tt) mid new → Writing taken faults text rest old new
goes_on {taken = taken} {faults = faults} {part = part} {rest = rest} {old = old} {mid = mid} {new = new} so w = record {
  front = so.front ++ part;
  parts = so.parts ∙ sym (append_assoc so.front part rest);
  wrote = both taken faults so.front part (Ok tt) old mid new so.wrote w;
}

-- the last part was written, or was not
pub ends : {K : Type 0} {taken : K → Option (List ℕ)} {faults : K
    → ℕ} {text part : List ℕ} {r : Result (Unit {0}) WriteError} {old mid new : K}
    → Writing taken faults text part old mid → Writes taken faults part r mid new → Writes taken faults text r old new
ends {taken = taken} {faults = faults} {text = text} {part = part} {r = r} {old = old} {mid = mid} {new = new} so w =
    as_text taken faults (so.front ++ part) text r old new so.parts (both taken faults so.front part r old mid new so.wrote w)

-- the next part was not written, and the error was handed on
pub stops : {K : Type 0} {taken : K → Option (List ℕ)} {faults : K → ℕ} {text part : List ℕ}
    (rest : List ℕ) {r : Result (Unit {0}) WriteError} {e : WriteError} {old mid new : K} → IsErrAnd r (λ x. x ≡ e)
    → Writing taken faults text (part ++ rest) old mid → Writes taken faults part (Err e) mid new → Writes taken faults text r old new
stops {taken = taken} {faults = faults} {part = part} rest {r = r} {e = e} {mid = mid} {new = new} handed so w =
    let p = err_from_is_err_and r handed in
    rw (p.1, p.2) (ends so (front_only taken faults part rest e mid new w))

-- the same for another way to put what is left
pub left_as : {K : Type 0} {taken : K → Option (List ℕ)} {faults : K → ℕ} {text rest other : List ℕ} {old new : K}
    → rest ≡ other → Writing taken faults text rest old new → Writing taken faults text other old new
left_as {taken = taken} {faults = faults} {text = text} {old = old} {new = new} same so =
    subst (λ (xs : List ℕ). Writing taken faults text xs old new) same so

-- nothing is left to write
pub all_written : {K : Type 0} {taken : K → Option (List ℕ)} {faults : K → ℕ} {text rest : List ℕ} {old new : K}
    → Writing taken faults text rest old new → rest ≡ [] → Writes taken faults text (Ok tt) old new
all_written {taken = taken} {faults = faults} {text = text} {rest = rest} {old = old} {new = new} so none =
    as_text taken faults so.front text (Ok tt) old new
    (so.parts ∙ (ap (λ (xs : List ℕ). so.front ++ xs) none ∙ append-nil so.front)) so.wrote
