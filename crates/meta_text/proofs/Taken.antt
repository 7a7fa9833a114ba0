-- What a sink took over several writes.
use Rattle.std.proofs.Common.{◌≡◌, ℕ, ◌+◌, ◌<◌, ◌≤◌, List, [], ◌++◌, length, take, drop, refl, ap, sym, ◌∙◌, append_assoc, length-append}
use Rattle.std.proofs.Common.{arith}
use Rattle.std.proofs.lemmas.List.{take-append-drop, append-nil}
use Rattle.std.specs.Prelude.{Option, None, Some}
use Rattle.meta_text.specs.Outside.{with_more, TookPart}

-- the sink took the front of the bytes, and the rest is still to be written
pub record Took (bytes rest : List ℕ) (old new : Option (List ℕ)) : Type 0 where
  pub front : List ℕ
  pub parts : bytes ≡ front ++ rest
  pub took : new ≡ with_more old front

-- no more bytes change nothing
pub took_none : (taken : Option (List ℕ)) → taken ≡ with_more taken []
took_none None = refl
took_none (Some taken) = ap Some (sym (append-nil taken))

-- before the first write
pub took_start : (bytes : List ℕ) (old : Option (List ℕ)) → Took bytes bytes old old
took_start bytes old = record { front = []; parts = refl; took = took_none old }

-- some bytes were taken, and then more
pub took_both : (bytes more : List ℕ) (old mid new : Option (List ℕ)) → mid ≡ with_more old bytes
    → new ≡ with_more mid more → new ≡ with_more old (bytes ++ more)
took_both bytes more None mid new e f = rw (f, e) refl
took_both bytes more (Some taken) mid new e f = rw (f, e) (ap Some (simp append_assoc))

-- after a write of the first n bytes of the rest
pub took_next : (n : ℕ) (bytes rest : List ℕ) (old mid new : Option (List ℕ)) → Took bytes rest old mid
    → new ≡ with_more mid (take n rest) → Took bytes (drop n rest) old new
took_next n bytes rest old mid new t e =
    record {
      front = t.front ++ take n rest;
      parts = t.parts ∙ (ap (λ (xs : List ℕ). t.front ++ xs) (sym (take-append-drop n rest))
          ∙ sym (append_assoc t.front (take n rest) (drop n rest)));
      took = took_both t.front (take n rest) old mid new t.took e;
    }

-- where no rest is left, all was taken
pub took_all : (bytes rest : List ℕ) (old new : Option (List ℕ)) → Took bytes rest old new → rest ≡ [] → new ≡ with_more old bytes
took_all bytes rest old new t e =
    t.took ∙ ap (λ (xs : List ℕ). with_more old xs) (sym (t.parts ∙ (ap (λ (xs : List ℕ). t.front ++ xs) e ∙ append-nil t.front)))

-- where a rest is left, a part was taken
pub took_part : (bytes rest : List ℕ) (old new : Option (List ℕ)) → Took bytes rest old new → 0 < length rest → TookPart bytes old new
took_part bytes rest old new t h = record { front = t.front; rest = rest; parts = t.parts; short = h; took = t.took }

-- of no bytes, no rest is left
pub took_of_none : (n : ℕ) (bytes rest : List ℕ) (old new : Option (List ℕ)) → Took bytes rest old new → bytes ≡ []
    → 1 ≤ n → n ≤ length rest → ⊥
took_of_none n bytes rest old new t none some fits =
    let whole : length bytes ≡ length t.front + length rest = ap length t.parts ∙ length-append t.front rest in
    let empty : length bytes ≡ 0 = ap length none in
    omega arith
