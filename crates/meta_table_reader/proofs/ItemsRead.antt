-- Items that are read one after the other.
use Rattle.std.proofs.Common.{◌≡◌, ℕ, suc, ◌+◌, ◌<◌, ◌≤◌, List, [], ◌∷◌, ◌++◌, length, get_or, slice_get, take, drop, Some, All, sym}
use Rattle.std.proofs.Common.{ap, ◌∙◌, append_assoc, add-one, arith}
use Rattle.std.specs.List.{flat_map}
use Rattle.std.proofs.Math.Seq.{drop-cons}
use Rattle.std.proofs.lemmas.List.{take_more, take_all, length-append}
use Rattle.std.proofs.lemmas.List.Elements.{All-get_or}
use Rattle.std.proofs.lemmas.Option.{slice_get_past, slice_get-get_or}
use Rattle.meta_lists.proofs.Places.{drop_past}

-- the item at a place: what comes before the next place, and what from this one on
pub record At {X : Type 0} (xs : List X) (i : ℕ) (x : X) : Type 0 where
  pub there : slice_get xs i ≡ Some x
  pub taken : take (i + 1) xs ≡ take i xs ++ x ∷ []
  pub dropped : drop i xs ≡ x ∷ drop (i + 1) xs

-- there is one below the length, and it has what all have
pub one_within : {X : Type 0} (P : X → Type 0) (xs : List X) (i : ℕ) → All P xs → i < length xs → (x : X) × At xs i x × P x
one_within P [] i all within = absurd (omega (arith, within))
one_within P (x ∷ xs) i all within = (
  get_or (x ∷ xs) i x,
  record {
    there = slice_get-get_or (x ∷ xs) i x within;
    taken = take_more (x ∷ xs) i x within;
    dropped = drop-cons (x ∷ xs) i x within ∙ ap (λ k. get_or (x ∷ xs) i x ∷ drop k (x ∷ xs)) (sym (add-one i));
  },
  All-get_or P (x ∷ xs) i x within all,
)

-- the first i items are read, the others are left, and then the rest
pub record AreRead {X : Type 0} (text : X → List ℕ) (items : List X) (rest : List ℕ) (i : ℕ) (so_far : List X) (now : List ℕ) : Type 0 where
  pub got : so_far ≡ take i items
  pub left : now ≡ flat_map text (drop i items) ++ rest

-- the next one is at the front of what is left
pub front : {X : Type 0} (text : X → List ℕ) (items : List X) (rest left : List ℕ) (i : ℕ) (x : X) → At items i x
    → left ≡ flat_map text (drop i items) ++ rest → left ≡ text x ++ (flat_map text (drop (i + 1) items) ++ rest)
front text items rest left i x at e = e ∙ ap (λ xs. flat_map text xs ++ rest) at.dropped
    ∙ append_assoc (text x) (flat_map text (drop (i + 1) items)) rest

-- one more is
pub one_more_read : {X : Type 0} (text : X → List ℕ) (items : List X) (rest : List ℕ) (i : ℕ) (x y : X)
    (got more : List X) (left after : List ℕ)
    → At items i x → AreRead text items rest i got left → more ≡ got ++ y ∷ [] → y ≡ x
    → after ≡ flat_map text (drop (i + 1) items) ++ rest → AreRead text items rest (i + 1) more after
one_more_read text items rest i x y got more left after at read pushed same e =
    record { got = pushed ∙ (λ k. read.got k ++ same k ∷ []) ∙ sym at.taken; left = e }

-- what all have, the first has, and so have those after it
pub all_first : {X : Type 0} (P : X → Type 0) (x : X) (xs : List X) → All P (x ∷ xs) → P x
all_first P x xs all = all 0 x (omega arith)

pub all_after : {X : Type 0} (P : X → Type 0) (x : X) (xs : List X) → All P (x ∷ xs) → All P xs
all_after P x xs all = λ k d within. all (suc k) d (omega (arith, within))

-- nothing is left but the rest
pub only_rest_left : {X : Type 0} (text : X → List ℕ) (items : List X) (rest : List ℕ) (i : ℕ) (left : List ℕ)
    → length items ≤ i → left ≡ flat_map text (drop i items) ++ rest → left ≡ rest
only_rest_left text items rest i left past e = e ∙ ap (λ xs. flat_map text xs ++ rest) (drop_past items i (slice_get_past items i past))

-- all are
pub all_read : {X : Type 0} (text : X → List ℕ) (items : List X) (rest : List ℕ) (i : ℕ) (got : List X)
    (left : List ℕ) → length items ≤ i → AreRead text items rest i got left → (got ≡ items) × (left ≡ rest)
all_read text items rest i got left past read = (read.got ∙ take_all i items past, only_rest_left text items rest i left past read.left)

-- there are no more items than bytes
pub few_items : {X : Type 0} (text : X → List ℕ) (items : List X) → All (λ x. 1 ≤ length (text x)) items
    → (rest : List ℕ) → length items ≤ length (flat_map text items ++ rest)
few_items text [] some rest = omega arith
few_items text (x ∷ items) some rest =
    let more = few_items text items (all_after (λ x. 1 ≤ length (text x)) x items some) rest in
    let here : 1 ≤ length (text x) = all_first (λ x. 1 ≤ length (text x)) x items some in
    let both = length-append (text x) (flat_map text items ++ rest) in
    let regrouped = ap length (append_assoc (text x) (flat_map text items) rest) in
    omega (arith, more, here, both, regrouped)
