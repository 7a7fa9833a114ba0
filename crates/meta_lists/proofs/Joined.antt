-- Lists that are added to another one after the other: what was added is one list.
use Rattle.std.proofs.Common.{◌≡◌, List, ◌++◌, Result, Ok, Err, is_ok, OnOk, if◌then◌else◌, append_assoc, ap, ◌∙◌}

pub two : {X : Type 0} (old a b : List X) {x y : List X} → x ≡ old ++ a → y ≡ x ++ b → y ≡ old ++ (a ++ b)
two old a b first second = second ∙ ap (λ o. o ++ b) first ∙ append_assoc old a b

pub three : {X : Type 0} (old a b c : List X) {x y z : List X} → x ≡ old ++ a → y ≡ x ++ b → z ≡ y ++ c → z ≡ old ++ (a ++ (b ++ c))
three old a b c {x} first second third = two old a (b ++ c) first (two x b c second third)

pub four : {X : Type 0} (old a b c d : List X) {x y z w : List X} → x ≡ old ++ a → y ≡ x ++ b → z ≡ y ++ c
    → w ≡ z ++ d → w ≡ old ++ (a ++ (b ++ (c ++ d)))
four old a b c d {x} first second third fourth = two old a (b ++ (c ++ d)) first (three x b c d second third fourth)

-- what was added exactly where a call succeeded, was added if it succeeded
pub where_ok : {X T E : Type 0} (r : Result T E) (old part : List X) {x : List X}
    → x ≡ (if is_ok r then (old ++ part) else old) → OnOk r (x ≡ old ++ part)
where_ok (Ok v) old part e = e
where_ok (Err f) old part e = tt
