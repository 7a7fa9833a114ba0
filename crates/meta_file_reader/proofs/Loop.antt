-- Reading parts one after the other, as a loop does.
use Rattle.std.proofs.Common.{◌≡◌, ℕ, suc, ◌-◌, ◌+◌, ◌≤◌, ◌<◌, List, [], ◌∷◌, ◌++◌, Some, None, Result, Ok, Err, refl, sym, ap, ◌∙◌}
use Rattle.std.proofs.Common.{append_assoc, arith}
use Rattle.std.proofs.lemmas.List.{append-nil}
use Rattle.meta_file_syntax.specs.declared.token.Token.{Token}
use Rattle.meta_file_reader.specs.declared.fault.Fault.{Fault}
use Rattle.meta_file_reader.specs.declared.fault.PartError.{PartError}
use Rattle.meta_file_reader.specs.declared.fault.PartError.TheVariants as errors
use Rattle.meta_file_reader.specs.declared.lists.Layout.{Layout}
use Rattle.meta_file_reader.specs.Parts.{◌>>=◌, Fails}
use Rattle.meta_file_reader.specs.Lists.{step_at, more_at, with_front}

regroup : {A : Type 0} (front : List A) (n : A) (read : Result (List A × List Token) Fault)
    → with_front front (read >>= λ x. Ok (n ∷ x.0, x.1)) ≡ with_front (front ++ n ∷ []) read
regroup {A} front n (Ok x) = ap (λ (ns : List A). Ok (ns, x.1)) (simp append_assoc)
regroup {A} front n (Err f) = refl

pub goes_on : {A : Type 0} (part : List Token → Result (A × List Token) Fault) (layout : Layout) (front : List A) (count i : ℕ)
    (ts : List Token) (n : A) (after : List Token)
    (total : Result (List A × List Token) Fault) → i < count → step_at part layout ts ≡ Ok (Some n, after)
    → with_front front (more_at part layout (count - i) ts) ≡ total
    → with_front (front ++ n ∷ []) (more_at part layout (count - (i + 1)) after)
    ≡ total
unfolding more_at
goes_on part layout front count i ts n after total lt h so_far =
    let k : count - i ≡ suc (count - (i + 1)) = omega arith in
    let one : with_front front (more_at part layout (count - i) ts)
    ≡ with_front (front ++ n ∷ []) (more_at part layout (count - (i + 1)) after) =
    rw (k, h) (regroup front n (more_at part layout (count - (i + 1)) after)) in
    sym one ∙ so_far

pub ends_here : {A : Type 0} (part : List Token → Result (A × List Token) Fault) (layout : Layout) (front : List A) (count i : ℕ)
    (ts after : List Token) (total : Result (List A × List Token) Fault)
    → i < count → step_at part layout ts ≡ Ok (None, after)
    → with_front front (more_at part layout (count - i) ts) ≡ total → total ≡ Ok (front, after)
unfolding more_at
ends_here {A} part layout front count i ts after total lt h so_far =
    let k : count - i ≡ suc (count - (i + 1)) = omega arith in
    let one : with_front front (more_at part layout (count - i) ts) ≡ Ok (front, after) =
    rw (k, h) (ap (λ (ns : List A). Ok (ns, after)) (append-nil front)) in
    sym so_far ∙ one

-- a fault of what is still read is one of it alone
bare : {A : Type 0} (old : List A) (read : Result (List A × List Token) Fault) (f : Fault) → with_front old read ≡ Err f → read ≡ Err f
bare old (Ok x) f e = absurd cc
bare old (Err g) f e = cc

pub fails : {A : Type 0} (part : List Token → Result (A × List Token) Fault) (layout : Layout) (e : PartError) (old front : List A)
    (count i : ℕ) (ts : List Token)
    (read : Result (List A × List Token) Fault) → i < count → Fails e (step_at part layout ts)
    → with_front front (more_at part layout (count - i) ts) ≡ with_front old read → Fails e read
unfolding more_at
fails part layout errors.Memory old front count i ts read lt h so_far = tt
fails part layout (errors.Fault f) old front count i ts read lt h so_far =
    let k : count - i ≡ suc (count - (i + 1)) = omega arith in
    let one : with_front front (more_at part layout (count - i) ts) ≡ Err f = rw (k, h) refl in
    bare old read f (sym so_far ∙ one)

pub runs_out : {A : Type 0} (part : List Token → Result (A × List Token) Fault) (layout : Layout) (old front : List A) (count i : ℕ)
    (ts : List Token) (read : Result (List A × List Token) Fault)
    (f : Fault) → count ≤ i → more_at part layout 0 ts ≡ Err f
    → with_front front (more_at part layout (count - i) ts) ≡ with_front old read → read ≡ Err f
runs_out part layout old front count i ts read f le h so_far =
    let k : count - i ≡ 0 = omega arith in
    let one : with_front front (more_at part layout (count - i) ts) ≡ Err f = rw (k, h) refl in
    bare old read f (sym so_far ∙ one)
