-- What a map defines once results are put in.
use Rattle.std.proofs.Common.{◌≡◌, ℕ, ◌-◌, ◌≤◌, Bool, true, false, cond, nat_eq, List, [], ◌∷◌, map, length, take, drop, get_or, All}
use Rattle.std.proofs.Common.{Option, Some, None, IfSome, is_some, refl, sym, ap, ◌∙◌, subst, eqb-true, arith}
use Rattle.std.specs.Option.{option_map}
use Rattle.std.proofs.lemmas.List.{take_all}
use Rattle.std.proofs.lemmas.List.Elements.{All-tail}
use Rattle.meta_types.specs.TypeParts.{TypeParts}
use Rattle.meta_types.specs.TypeNumber.{type_with, IsTypeNumber}
use Rattle.meta_verify.specs.Statement.{TypedValue}
use Rattle.meta_verify.specs.Environment.{Environment, with_value, with_values, first_redefined}
use Rattle.meta_verify.specs.Numbers.{typed_value_of, IsTypedNumber}
use Rattle.meta_verify.specs.Defined.{known_number, environment_of, AreTypeNumbers}
use Rattle.meta_verify.specs.declared.known.KnownTypes.{KnownTypes}
use Rattle.meta_verify.specs.declared.statement.TypedNumber.{TypedNumber}
use Rattle.meta_verify.proofs.EnvironmentLemmas.{defined_step, known_step}

-- the first result is defined nowhere before, and no other one is with it
pub fresh_head : (env : Environment) (r : TypedValue) (rs : List TypedValue) → first_redefined env (r ∷ rs) ≡ None
    → (env r.value ≡ None) × (first_redefined (with_value env r) rs ≡ None)
fresh_head env r rs e = by_value (env r.value) refl
  where
    by_value : (o : Option TypeParts) → env r.value ≡ o → (o ≡ None) × (first_redefined (with_value env r) rs ≡ None)
    by_value None is = (refl, sym (ap (λ o. cond (is_some o) (Some r.value) (first_redefined (with_value env r) rs)) is) ∙ e)
    by_value (Some t) is =
        let there : Some r.value ≡ None = sym (ap (λ o. cond (is_some o) (Some r.value) (first_redefined (with_value env r) rs)) is) ∙ e in
        absurd (cc)

-- the first result and the others
abbrev others_of : List TypedNumber → List TypedNumber
others_of rs = take (length rs - 1) (drop 1 rs)

parted : (rs : List TypedNumber) (d : TypedNumber) → 1 ≤ length rs → rs ≡ get_or rs 0 d ∷ others_of rs
parted [] d some = absurd (omega (arith, some))
parted (r ∷ rs) d some = ap (λ xs. r ∷ xs) (sym (take_all (length (r ∷ rs) - 1) rs (omega arith)))

-- the number of the first result is one of a type
pub first_numbered : (rs : List TypedNumber) (d : TypedNumber) → 1 ≤ length rs → All IsTypedNumber rs → IsTypeNumber (get_or rs 0 d).number
first_numbered rs d some all = (all 0 d (omega (arith, some))).number

-- the first result was put in, and it was defined nowhere before
module _ (types between : KnownTypes) (rs : List TypedNumber) (d : TypedNumber) (some : 1 ≤ length rs) (put : (v : ℕ)
    → known_number between v ≡ cond (nat_eq (get_or rs 0 d).value v) (Some (get_or rs 0 d).number) (known_number types v)) where
  put_there : environment_of between ≡ with_value (environment_of types) (typed_value_of (get_or rs 0 d))
  put_there = λ i v. defined_step (known_number types) (known_number between) (environment_of types) (get_or rs 0 d).value
      (get_or rs 0 d).number put (λ u. refl) v i

  split : map typed_value_of rs ≡ typed_value_of (get_or rs 0 d) ∷ map typed_value_of (others_of rs)
  split = ap (map typed_value_of) (parted rs d some)

  -- the others are put in after it
  pub all_defined : (after : KnownTypes)
      → ((v : ℕ) → environment_of after v ≡ with_values (environment_of between) (map typed_value_of (others_of rs)) v) → (v : ℕ)
      → environment_of after v ≡ with_values (environment_of types) (map typed_value_of rs) v
  all_defined after h v =
      h v ∙ ap (λ (env : Environment). with_values env (map typed_value_of (others_of rs)) v) put_there
      ∙ ap (λ xs. with_values (environment_of types) xs v) (sym split)

  pub between_known : AreTypeNumbers types → All IsTypedNumber rs → AreTypeNumbers between
  between_known known all =
      known_step (known_number types) (known_number between) (get_or rs 0 d).value (get_or rs 0 d).number put
      (first_numbered rs d some all) known

  pub others_known : All IsTypedNumber rs → All IsTypedNumber (others_of rs)
  others_known all = All-tail IsTypedNumber (get_or rs 0 d) (others_of rs) (subst (All IsTypedNumber) (parted rs d some) all)

  module _ (fresh : first_redefined (environment_of types) (map typed_value_of rs) ≡ None) where
    heads : (environment_of types (get_or rs 0 d).value ≡ None)
        × (first_redefined (with_value (environment_of types) (typed_value_of (get_or rs 0 d))) (map typed_value_of (others_of rs)) ≡ None)
    heads = fresh_head (environment_of types) (typed_value_of (get_or rs 0 d)) (map typed_value_of (others_of rs))
        (sym (ap (first_redefined (environment_of types)) split) ∙ fresh)

    pub others_fresh : first_redefined (environment_of between) (map typed_value_of (others_of rs)) ≡ None
    others_fresh = ap (λ (env : Environment). first_redefined env (map typed_value_of (others_of rs))) put_there ∙ heads.1

    -- it is taken back if the others couldn't be put in
    pub first_taken_back : (defined after : KnownTypes) → ((v : ℕ) → environment_of defined v ≡ environment_of between v)
        → ((v : ℕ) → known_number after v ≡ cond (nat_eq (get_or rs 0 d).value v) None (known_number defined v)) → (v : ℕ)
        → environment_of after v ≡ environment_of types v
    first_taken_back defined after same took v = ap (option_map type_with) (took v) ∙ by_test (nat_eq (get_or rs 0 d).value v) refl
      where
        by_test : (b : Bool) → nat_eq (get_or rs 0 d).value v ≡ b → option_map type_with (cond b None (known_number defined v))
            ≡ environment_of types v
        by_test true e = sym (sym (ap (environment_of types) (eqb-true (get_or rs 0 d).value v e)) ∙ heads.0)
        by_test false e = same v ∙ ap (λ (env : Environment). env v) put_there
            ∙ ap (λ b. cond b (Some (type_with (get_or rs 0 d).number)) (environment_of types v)) e

-- one value less
pub less_known : (defined after : KnownTypes) (k : ℕ) → ((v : ℕ) → known_number after v ≡ cond (nat_eq k v) None (known_number defined v))
    → AreTypeNumbers defined → AreTypeNumbers after
less_known defined after k took known v = subst (λ o. IfSome o IsTypeNumber) (sym (took v)) (by_test (nat_eq k v))
  where
    by_test : (b : Bool) → IfSome (cond b None (known_number defined v)) IsTypeNumber
    by_test true = tt
    by_test false = known v

-- no value more
pub same_environment : (types after : KnownTypes) → ((v : ℕ) → known_number after v ≡ known_number types v) → (v : ℕ)
    → environment_of after v ≡ environment_of types v
same_environment types after same v = ap (option_map type_with) (same v)

pub same_known : (types after : KnownTypes) → ((v : ℕ) → known_number after v ≡ known_number types v) → AreTypeNumbers types
    → AreTypeNumbers after
same_known types after same known v = subst (λ o. IfSome o IsTypeNumber) (sym (same v)) (known v)
