-- What is given for each operand and those before it.
use Rattle.std.proofs.Common.{◌≡◌, ℕ, ◌+◌, ◌<◌, ◌≤◌, List, [], ◌∷◌, ◌++◌, length, get_or, take, drop, sym, ap, ◌∙◌, append_assoc}
use Rattle.std.proofs.lemmas.List.{take_more, drop_more, drop_all, append-nil}
use Rattle.meta_operands.specs.declared.operand.Operand.{Operand}
use Rattle.meta_rust_text.specs.MethodArguments.{each_with_before}

-- one operand more
pub one_after : {A : Type 0} (f : List Operand → Operand → List A) (xs : List Operand) (k : ℕ) (o : Operand) (old new whole : List A)
    → k < length xs → o ≡ get_or xs k o → new ≡ old ++ f (take k xs) o
    → old ++ each_with_before f (take k xs) (drop k xs) ≡ whole → new ++ each_with_before f (take (k + 1) xs) (drop (k + 1) xs) ≡ whole
one_after f xs k o old new whole within is added so =
    let rest = each_with_before f (take (k + 1) xs) (drop (k + 1) xs) in
    let first : drop k xs ≡ o ∷ drop (k + 1) xs = drop_more xs k o within ∙ ap (λ (y : Operand). y ∷ drop (k + 1) xs) (sym is) in
    let before : take (k + 1) xs ≡ take k xs ++ o ∷ [] = take_more xs k o within ∙ ap (λ (y : Operand). take k xs ++ y ∷ []) (sym is) in
    let after : f (take k xs) o ++ rest ≡ each_with_before f (take k xs) (drop k xs) =
    ap (λ (b : List Operand). f (take k xs) o ++ each_with_before f b (drop (k + 1) xs)) before
    ∙ sym (ap (each_with_before f (take k xs)) first) in
    ap (λ w. w ++ rest) added ∙ (append_assoc old (f (take k xs) o) rest ∙ (ap (λ w. old ++ w) after ∙ so))

-- all of them
pub all_after : {A : Type 0} (f : List Operand → Operand → List A) (xs : List Operand) (k : ℕ) (old whole : List A) → length xs ≤ k
    → old ++ each_with_before f (take k xs) (drop k xs) ≡ whole → old ≡ whole
all_after f xs k old whole past so = sym (append-nil old)
    ∙ (sym (ap (λ (d : List Operand). old ++ each_with_before f (take k xs) d) (drop_all k xs past)) ∙ so)
