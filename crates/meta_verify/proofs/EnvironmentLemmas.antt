-- Which values are defined.
use Rattle.std.proofs.Common.{◌≡◌, ℕ, ◌+◌, ◌<◌, ◌||◌, not, Bool, true, false, cond, nat_eq, List, [], ◌∷◌, ◌++◌, map, length, take, drop}
use Rattle.std.proofs.Common.{get_or, slice_get, Option, Some, None, IfSome, is_some, refl, sym, ap, ap₂, ◌∙◌, subst}
use Rattle.std.specs.Option.{option_map}
use Rattle.std.specs.Cmp.{unsigned_tied}
use Rattle.std.specs.Ordering.{nat_cmp}
use Rattle.std.specs.BTreeMap.{is_at}
use Rattle.std.specs.BTreeSet.{BTreeSet, contains}
use Rattle.std.proofs.lemmas.Bool.{or_right}
use Rattle.std.proofs.lemmas.Option.{slice_get-get_or}
use Rattle.std.proofs.lemmas.List.{map-append}
use Rattle.meta_lists.proofs.Places.{take_next, drop_next}
use Rattle.meta_types.specs.TypeParts.{TypeParts, number_of}
use Rattle.meta_types.specs.TypeNumber.{type_with, IsTypeNumber}
use Rattle.meta_verify.specs.Statement.{TypedValue}
use Rattle.meta_verify.specs.Environment.{Environment, with_value, with_values, first_undefined, first_redefined, HaveTypes}
use Rattle.meta_verify.specs.Numbers.{typed_value_of}
use Rattle.meta_verify.specs.Defined.{known_number, environment_of, AreTypeNumbers}
use Rattle.meta_verify.specs.declared.known.KnownTypes.{KnownTypes}
use Rattle.meta_verify.specs.declared.statement.TypedNumber.{TypedNumber}

-- one value more at the end
pub with_values_more : (env : Environment) (rs : List TypedValue) (r : TypedValue)
    → with_values env (rs ++ r ∷ []) ≡ with_value (with_values env rs) r
with_values_more env [] r = refl
with_values_more env (q ∷ rs) r = with_values_more (with_value env q) rs r

-- the values so far, and the next
pub next_typed : (rs : List TypedNumber) (i : ℕ) (r : TypedNumber) → slice_get rs i ≡ Some r
    → map typed_value_of (take (i + 1) rs) ≡ map typed_value_of (take i rs) ++ typed_value_of r ∷ []
next_typed rs i r at = ap (map typed_value_of) (take_next rs i r at) ∙ map-append typed_value_of (take i rs) (r ∷ [])

pub next_defined : (env : Environment) (rs : List TypedNumber) (i : ℕ) (r : TypedNumber) → slice_get rs i ≡ Some r
    → with_values env (map typed_value_of (take (i + 1) rs))
    ≡ with_value (with_values env (map typed_value_of (take i rs))) (typed_value_of r)
next_defined env rs i r at = ap (with_values env) (next_typed rs i r at)
    ∙ with_values_more env (map typed_value_of (take i rs)) (typed_value_of r)

-- what stands at a key by the order of keys stands there by their equality
pub at_key : {X : Type 0} (old new : ℕ → X) (k : ℕ) (w : X) → ((q : ℕ) → new q ≡ cond (is_at (nat_cmp k) q) w (old q)) → (q : ℕ)
    → new q ≡ cond (nat_eq k q) w (old q)
at_key old new k w h q = h q ∙ ap (λ b. cond b w (old q)) (unsigned_tied k q)

-- a map with one value more, or another type for it
pub defined_step : (old new : ℕ → Option ℕ) (env : Environment) (k n : ℕ) → ((q : ℕ) → new q ≡ cond (nat_eq k q) (Some n) (old q))
    → ((v : ℕ) → option_map type_with (old v) ≡ env v) → (v : ℕ)
    → option_map type_with (new v) ≡ with_value env (record { value = k; type = type_with n }) v
defined_step old new env k n h e v = ap (option_map type_with) (h v) ∙ by_test (nat_eq k v)
  where
    by_test : (b : Bool) → option_map type_with (cond b (Some n) (old v)) ≡ cond b (Some (type_with n)) (env v)
    by_test true = refl
    by_test false = e v

pub known_step : (old new : ℕ → Option ℕ) (k n : ℕ) → ((q : ℕ) → new q ≡ cond (nat_eq k q) (Some n) (old q)) → IsTypeNumber n
    → ((v : ℕ) → IfSome (old v) IsTypeNumber) → (v : ℕ) → IfSome (new v) IsTypeNumber
known_step old new k n h is e v = subst (λ o. IfSome o IsTypeNumber) (sym (h v)) (by_test (nat_eq k v))
  where
    by_test : (b : Bool) → IfSome (cond b (Some n) (old v)) IsTypeNumber
    by_test true = is
    by_test false = e v

-- the first result that is defined before, or twice
pub redefined_here : (env : Environment) (r : TypedValue) (rs : List TypedValue) → is_some (env r.value) ≡ true
    → first_redefined env (r ∷ rs) ≡ Some r.value
redefined_here env r rs h = ap (λ b. cond b (Some r.value) (first_redefined (with_value env r) rs)) h

pub redefined_later : (env : Environment) (r : TypedValue) (rs : List TypedValue) → is_some (env r.value) ≡ false
    → first_redefined env (r ∷ rs) ≡ first_redefined (with_value env r) rs
redefined_later env r rs h = ap (λ b. cond b (Some r.value) (first_redefined (with_value env r) rs)) h

-- the values that are defined after some results: those defined before, and those seen
pub seen_step : (first env : Environment) (old new : ℕ → Bool) (r : TypedValue) → ((q : ℕ) → new q ≡ cond (nat_eq r.value q) true (old q))
    → ((v : ℕ) → is_some (env v) ≡ (is_some (first v) || old v)) → (v : ℕ) → is_some (with_value env r v) ≡ (is_some (first v) || new v)
seen_step first env old new r h e v = by_test (nat_eq r.value v) ∙ ap (λ b. is_some (first v) || b) (sym (h v))
  where
    by_test : (b : Bool) → is_some (cond b (Some r.type) (env v)) ≡ (is_some (first v) || cond b true (old v))
    by_test true = sym (or_right (is_some (first v)) true refl)
    by_test false = e v

pub undefined_later : (env : Environment) (v : ℕ) (vs : List ℕ) (t : TypeParts) → env v ≡ Some t
    → first_undefined env (v ∷ vs) ≡ first_undefined env vs
undefined_later env v vs t h = ap (λ o. cond (is_some o) (first_undefined env vs) (Some v)) h

-- one value more has its type
pub one_more_type : (env : Environment) (vs : List ℕ) (i v : ℕ) (ns : List ℕ) (n : ℕ) → slice_get vs i ≡ Some v
    → env v ≡ Some (type_with n) → HaveTypes env (take i vs) (map type_with ns)
    → HaveTypes env (take (i + 1) vs) (map type_with (ns ++ n ∷ []))
one_more_type env vs i v ns n at has h =
    ap (map env) (take_next vs i v at) ∙ map-append env (take i vs) (v ∷ [])
    ∙ ap₂ (λ (a b : List (Option TypeParts)). a ++ b) h (ap (λ o. o ∷ []) has)
    ∙ sym (map-append (λ t. Some t) (map type_with ns) (type_with n ∷ [])) ∙ ap (map (λ t. Some t)) (sym (map-append type_with ns (n ∷ [])))

-- the number of the type with a number is that number
pub number_back : (o : Option ℕ) → IfSome o IsTypeNumber → option_map number_of (option_map type_with o) ≡ o
number_back None h = refl
number_back (Some n) h = ap (λ m. Some m) h.numbered

-- ---- steps of loops

-- one result more was seen
pub seen_next : (old new : BTreeSet ℕ) (env : Environment) (rs : List TypedNumber) (i : ℕ) (d : TypedNumber) → i < length rs
    → ((q : ℕ) → contains nat_cmp new q ≡ cond (is_at (nat_cmp (get_or rs i d).value) q) true (contains nat_cmp old q))
    → ((v : ℕ) → is_some (with_values env (map typed_value_of (take i rs)) v) ≡ (is_some (env v) || contains nat_cmp old v))
    → (v : ℕ) → is_some (with_values env (map typed_value_of (take (i + 1) rs)) v) ≡ (is_some (env v) || contains nat_cmp new v)
seen_next old new env rs i d l h e v =
    ap (λ (f : Environment). is_some (f v)) (next_defined env rs i (get_or rs i d) (slice_get-get_or rs i d l))
    ∙ seen_step env (with_values env (map typed_value_of (take i rs))) (contains nat_cmp old) (contains nat_cmp new)
    (typed_value_of (get_or rs i d)) (at_key (contains nat_cmp old) (contains nat_cmp new) (get_or rs i d).value true h) e v

-- the results that are left begin with the next
left_typed : (rs : List TypedNumber) (i : ℕ) (d : TypedNumber) → i < length rs
    → map typed_value_of (drop i rs) ≡ typed_value_of (get_or rs i d) ∷ map typed_value_of (drop (i + 1) rs)
left_typed rs i d l = ap (map typed_value_of) (drop_next rs i (get_or rs i d) (slice_get-get_or rs i d l))

-- the next result is neither defined before nor seen
is_fresh : (a b : Bool) (c : Bool) → a ≡ false → true ≡ not b → c ≡ (a || b) → c ≡ false
is_fresh false false c h k e = e
is_fresh false true c h k e = absurd (cc)
is_fresh true b c h k e = absurd (cc)

-- a value that isn't found to be defined before isn't
pub not_before : (b : Bool) (v : ℕ) (o : Option ℕ) → o ≡ cond b (Some v) None → is_some o ≡ false → b ≡ false
not_before true v o e none =
    let both : true ≡ false = sym (ap is_some e) ∙ none in
    absurd (cc)
not_before false v o e none = refl

pub redefined_next : (env : Environment) (rs : List TypedNumber) (i : ℕ) (d : TypedNumber) (seen : Bool) → i < length rs
    → is_some (env (get_or rs i d).value) ≡ false → true ≡ not seen
    → is_some (with_values env (map typed_value_of (take i rs)) (get_or rs i d).value) ≡ (is_some (env (get_or rs i d).value) || seen)
    → first_redefined (with_values env (map typed_value_of (take i rs))) (map typed_value_of (drop i rs))
    ≡ first_redefined env (map typed_value_of rs)
    → first_redefined (with_values env (map typed_value_of (take (i + 1) rs))) (map typed_value_of (drop (i + 1) rs))
    ≡ first_redefined env (map typed_value_of rs)
redefined_next env rs i d seen l before new both e =
    let now = with_values env (map typed_value_of (take i rs)) in
    let r = get_or rs i d in
    ap (λ (f : Environment). first_redefined f (map typed_value_of (drop (i + 1) rs))) (next_defined env rs i r (slice_get-get_or rs i d l))
    ∙ sym (redefined_later now (typed_value_of r) (map typed_value_of (drop (i + 1) rs)) (is_fresh _ _ _ before new both))
    ∙ ap (first_redefined now) (sym (left_typed rs i d l)) ∙ e

-- one value more is defined
pub undefined_next : (env : Environment) (vs : List ℕ) (i v n : ℕ) → slice_get vs i ≡ Some v → env v ≡ Some (type_with n)
    → first_undefined env (drop i vs) ≡ first_undefined env vs → first_undefined env (drop (i + 1) vs) ≡ first_undefined env vs
undefined_next env vs i v n at has e =
    sym (undefined_later env v (drop (i + 1) vs) (type_with n) has) ∙ ap (first_undefined env) (sym (drop_next vs i v at)) ∙ e

-- what a look-up found is what is defined
pub has_type : (m : KnownTypes) (v n : ℕ) (o : Option ℕ) → o ≡ known_number m v → o ≡ Some n → environment_of m v ≡ Some (type_with n)
has_type m v n o is some = ap (option_map type_with) (sym is ∙ some)

pub known_there : (m : KnownTypes) (v n : ℕ) (o : Option ℕ) → o ≡ known_number m v → o ≡ Some n → AreTypeNumbers m → IsTypeNumber n
known_there m v n o is some known = subst (λ o. IfSome o IsTypeNumber) (sym is ∙ some) (known v)
