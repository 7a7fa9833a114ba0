-- What is written of a line, part by part.
use Rattle.std.proofs.Common.{◌≡◌, ◌⊎◌, inl, inr, IfSome, is_some, ℕ, zero, suc, ◌+◌, ◌==◌, ◌||◌, Bool, true, false, List, [], ◌∷◌}
use Rattle.std.proofs.Common.{◌++◌, map, take, drop, length, get_or, slice_get, Option, None, Some, codes, Result, Ok, Err, is_ok, OnOk}
use Rattle.std.proofs.Common.{if◌then◌else◌, refl, sym, ap, ap₂, ◌∙◌, append_assoc, arith}
use Rattle.std.specs.List.{list_any, join_with_byte}
use Rattle.std.proofs.Math.Seq.{take-length}
use Rattle.std.proofs.lemmas.Bool.{eqb-true}
use Rattle.std.proofs.lemmas.Option.{same_Some}
use Rattle.std.proofs.lemmas.List.{length-map, map-append, take-map, drop-map}
use Rattle.meta_lists.proofs.Places.{take_next}
use Rattle.meta_lists.proofs.Mapped.{get_map}
use Rattle.meta_inst.specs.Tables.{TableContents, NumberConstraint}
use Rattle.meta_gen.specs.Constraint.{number_constraint_of}
use Rattle.meta_gen.specs.declared.constraint.Constraint.{Constraint}
use Rattle.meta_verify.specs.Statement.{TypedValue, Statement, OfParameter, IsStatement, value_text}
use Rattle.meta_verify.specs.Environment.{Environment}
use Rattle.meta_verify.specs.Wrong.{Replies, IsMistake, IsWrong}
use Rattle.meta_verify.specs.declared.reason.Reason.{Reason}
use Rattle.meta_verify.specs.Numbers.{typed_value_of}
use Rattle.meta_verify.specs.declared.statement.TypedNumber.{TypedNumber}
use Rattle.meta_asm.specs.Short.{shortened, short_results, short_result_text, joined}
use Rattle.meta_asm.specs.Short.{results_part, parameter_text}
use Rattle.meta_asm.specs.ShortWritten.{AddsShort, before_place}

-- ---- texts that are added one after the other

pub two : (old a b : List ℕ) {x y : List ℕ} → x ≡ old ++ a → y ≡ x ++ b → y ≡ old ++ (a ++ b)
two old a b first second = second ∙ ap (λ o. o ++ b) first ∙ append_assoc old a b

pub three : (old a b c : List ℕ) {x y z : List ℕ} → x ≡ old ++ a → y ≡ x ++ b → z ≡ y ++ c → z ≡ old ++ (a ++ (b ++ c))
three old a b c {x} first second third = two old a (b ++ c) first (two x b c second third)

pub four : (old a b c d : List ℕ) {x y z w : List ℕ} → x ≡ old ++ a → y ≡ x ++ b → z ≡ y ++ c → w ≡ z ++ d
    → w ≡ old ++ (a ++ (b ++ (c ++ d)))
four old a b c d {x} first second third fourth = two old a (b ++ (c ++ d)) first (three x b c d second third fourth)

-- where a call succeeded, and only there, its text was added
pub where_ok : {X E : Type 0} (r : Result X E) (old part : List ℕ) {x : List ℕ}
    → x ≡ (if is_ok r then (old ++ part) else old) → OnOk r (x ≡ old ++ part)
where_ok (Ok v) old part e = e
where_ok (Err f) old part e = tt

-- ---- the constraints of an entry

pub any_map : {X Y : Type 0} (p : Y → Bool) (f : X → Y) (xs : List X) → list_any p (map f xs) ≡ list_any (λ x. p (f x)) xs
any_map p f [] = refl
any_map p f (x ∷ xs) = ap (λ b. p (f x) || b) (any_map p f xs)

pub part_of : (held got : List Constraint) (all : List NumberConstraint) (place count from n : ℕ)
    → got ≡ take count (drop place held) → place ≡ from → count ≡ n → map number_constraint_of held ≡ all
    → map number_constraint_of got ≡ take n (drop from all)
part_of held got all place count from n is at many same =
    ap (map number_constraint_of) is ∙ ap₂ (λ (p k : ℕ). map number_constraint_of (take k (drop p held))) at many
    ∙ sym (take-map number_constraint_of n (drop from held))
    ∙ ap (take n) (sym (drop-map number_constraint_of from held)) ∙ ap (λ cs. take n (drop from cs)) same

-- ---- lists

pub nothing_listed : {X : Type 0} (xs : List X) → (length xs == 0) ≡ true → xs ≡ []
nothing_listed [] h = refl
nothing_listed (x ∷ xs) h = let e : suc (length xs) ≡ 0 = eqb-true (suc (length xs)) 0 h in absurd (omega (arith, e))

join_more : (c : ℕ) (x : List ℕ) (xs : List (List ℕ)) (u : List ℕ)
    → join_with_byte c (x ∷ (xs ++ u ∷ [])) ≡ join_with_byte c (x ∷ xs) ++ c ∷ u
join_more c x [] u = refl
join_more c x (y ∷ ys) u = ap (λ t. x ++ c ∷ t) (join_more c y ys u) ∙ sym (append_assoc x (c ∷ join_with_byte c (y ∷ ys)) (c ∷ u))

joined_more : (t : List ℕ) (ts : List (List ℕ)) (u : List ℕ) → joined (t ∷ (ts ++ u ∷ [])) ≡ joined (t ∷ ts) ++ 44 ∷ 32 ∷ u
joined_more t ts u = ap (λ xs. join_with_byte 44 (t ∷ xs)) (map-append (λ (v : List ℕ). 32 ∷ v) ts (u ∷ []))
    ∙ join_more 44 t (map (λ (v : List ℕ). 32 ∷ v) ts) (32 ∷ u)

-- one text more
joined_step : (xs : List (List ℕ)) (k : ℕ) (x : List ℕ) → slice_get xs k ≡ Some x
    → joined (take (k + 1) xs) ≡ joined (take k xs) ++ (before_place k ++ x)
joined_step [] k x e = absurd (cc)
joined_step (y ∷ ys) zero x e = same_Some y x e
joined_step (y ∷ ys) (suc k) x e = ap joined (take_next (y ∷ ys) (suc k) x e) ∙ joined_more y (take k ys) x

pub joined_next : (old : List ℕ) (xs : List (List ℕ)) (k : ℕ) (x : List ℕ) {a b c : List ℕ} → slice_get xs k ≡ Some x
    → a ≡ old ++ joined (take k xs) → b ≡ a ++ before_place k → c ≡ b ++ x → c ≡ old ++ joined (take (k + 1) xs)
joined_next old xs k x at first second third = three old (joined (take k xs)) (before_place k) x first second third
    ∙ ap (λ t. old ++ t) (sym (joined_step xs k x at))

pub joined_all : (old : List ℕ) (xs : List (List ℕ)) (k : ℕ) {a : List ℕ} → k ≡ length xs
    → a ≡ old ++ joined (take k xs) → a ≡ old ++ joined xs
joined_all old xs k end e = e ∙ ap (λ n. old ++ joined (take n xs)) end ∙ ap (λ ys. old ++ joined ys) (take-length xs)

pub before_first : (k : ℕ) → k ≡ 0 → [] ≡ before_place k
before_first k e = ap before_place (sym e)

-- ---- results

short_at : (opened : List Bool) (rs : List TypedValue) (k : ℕ) (r : TypedValue) → slice_get rs k ≡ Some r
    → slice_get (short_results opened rs) k ≡ Some (shortened (get_or opened k false) r)
short_at opened [] k r e = absurd (cc)
short_at [] (q ∷ rs) zero r e = ap (λ x. Some (shortened false x)) (same_Some q r e)
short_at [] (q ∷ rs) (suc k) r e = short_at [] rs k r e
short_at (o ∷ os) (q ∷ rs) zero r e = ap (λ x. Some (shortened o x)) (same_Some q r e)
short_at (o ∷ os) (q ∷ rs) (suc k) r e = short_at os rs k r e

short_length : (opened : List Bool) (rs : List TypedValue) → length (short_results opened rs) ≡ length rs
short_length opened [] = refl
short_length [] (r ∷ rs) = ap suc (short_length [] rs)
short_length (o ∷ os) (r ∷ rs) = ap suc (short_length os rs)

-- the texts of results as the program holds them
abbrev pub result_texts : List Bool → List TypedNumber → List (List ℕ)
result_texts opened rs = map short_result_text (short_results opened (map typed_value_of rs))

pub text_at : (opened : List Bool) (rs : List TypedNumber) (k : ℕ) (r : TypedNumber) (o : Bool)
    → slice_get rs k ≡ Some r → o ≡ get_or opened k false
    → slice_get (result_texts opened rs) k ≡ Some (short_result_text (shortened o (typed_value_of r)))
text_at opened rs k r o at is =
    get_map short_result_text (short_results opened (map typed_value_of rs)) k
    (shortened (get_or opened k false) (typed_value_of r))
    (short_at opened (map typed_value_of rs) k (typed_value_of r) (get_map typed_value_of rs k r at))
    ∙ ap (λ b. Some (short_result_text (shortened b (typed_value_of r)))) (sym is)

pub texts_length : (opened : List Bool) (rs : List TypedNumber) → length (result_texts opened rs) ≡ length rs
texts_length opened rs = length-map (short_results opened (map typed_value_of rs)) short_result_text
    ∙ short_length opened (map typed_value_of rs) ∙ length-map rs typed_value_of

pub values_length : (vs : List ℕ) → length (map value_text vs) ≡ length vs
values_length vs = length-map vs value_text

pub results_some : (opened : List Bool) (rs : List TypedNumber) → (length rs == 0) ≡ false
    → joined (result_texts opened rs) ++ codes " = " ≡ results_part (result_texts opened rs)
results_some opened [] h = absurd (cc)
results_some [] (r ∷ rs) h = refl
results_some (o ∷ os) (r ∷ rs) h = refl

-- ---- values

-- ---- controls

-- ---- what was added, and why nothing was

-- a parameter is written in any manner
pub adds_parameter : (tables : TableContents) (r : TypedNumber) (old new : List ℕ)
    → new ≡ old ++ parameter_text (typed_value_of r) → AddsShort tables (OfParameter (typed_value_of r)) old new
adds_parameter tables r old new e = record { manner = record { leaves_out = false; opened = [] }; has_manner = tt; is = e }

-- what is stated is a mistake, so the line is wrong
pub wrong_by : (R : Replies) (env : Environment) (line : List ℕ) (s : Statement) (o : Option Reason)
    → true ≡ is_some o → IsStatement line s → IfSome o (λ reason. IsMistake R env s reason)
    → (line ≡ []) ⊎ ((reason : Reason) × IsWrong R env line reason)
wrong_by R env line s None some states h = absurd (cc)
wrong_by R env line s (Some reason) some states h = inr (reason, inl (s, states, h))
