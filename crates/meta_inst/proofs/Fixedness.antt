-- Whether a type is fixed for a variable is decided, for each set and each chain. Of sets and chains alone.
--     fixed_or_nowhere s chain       a type is fixed, or none is
--     fixed_from_one, one_from_fixed, nowhere_from_several      for an underived variable it is whether its set has one type
use Rattle.std.proofs.Common.{◌≡◌, ◌⊎◌, List, [], ◌∷◌, All, sym, ◌∙◌, inl, inr, ⊎_elim}
use Rattle.std.proofs.lemmas.List.Elements.{All-nil, All-cons, All-head, All-tail}
use Rattle.meta_types.specs.TypeParts.{TypeParts, IsType}
use Rattle.meta_types.specs.Function.{Function, IsFunction, StepsTypes, relates}
use Rattle.meta_types.proofs.Functions.{relation_or_not, no_function}
use Rattle.meta_typevar.specs.TypeSetParts.{TypeSetParts, IsMember, HasOne, widths_in, lanes_in}
use Rattle.meta_typevar.specs.Chain.{Agrees, IsFixed, IsFixedNowhere}
use Rattle.meta_inst.proofs.Chains.{agrees_type}
use Rattle.meta_types.proofs.Decided.{Decided, decided_like, decided_both, decided_if, decided_some, decided_all, decided_contains}
use Rattle.meta_types.proofs.Decided.{decided_type, decided_same, decided_test}

-- that a function is no relation
decided_function : (f : Function) → Decided (IsFunction f)
decided_function f = ⊎_elim (λ r. inr (no_function f r)) (λ h. inl h) (relation_or_not f)

-- that a chain has no relation
decided_functions : (fs : List Function) → Decided (All IsFunction fs)
decided_functions [] = inl (All-nil IsFunction)
decided_functions (f ∷ fs) = decided_like (λ h. All-cons IsFunction f fs h.0 h.1)
    (λ h. (All-head IsFunction f fs h, All-tail IsFunction f fs h)) (decided_both (decided_function f) (decided_functions fs))

-- membership
decided_member : (s : TypeSetParts) (t : TypeParts) → Decided (IsMember s t)
decided_member s t = decided_like
    (λ h. record { is_type = h.0; width = h.1.0; lanes = h.1.1 })
    (λ h. (h.is_type, (h.width, h.lanes)))
    (decided_both (decided_type t) (decided_both (decided_contains (widths_in s t.kind) t.width)
    (decided_contains (lanes_in s t.is_dynamic) t.lanes)))

-- a step
decided_step : (f : Function) (u t : TypeParts) → Decided (StepsTypes f u t)
decided_step f u t = decided_like
    (λ h. record { from = h.0; to = h.1.0; relates = h.1.1 })
    (λ h. (h.from, (h.to, h.relates)))
    (decided_both (decided_type u) (decided_both (decided_type t) (decided_test (relates f u t))))

-- where a chain leads to
decided_agrees : (chain : List Function) (r t : TypeParts) → Decided (Agrees chain r t)
decided_agrees [] r t = decided_same t r
decided_agrees (f ∷ fs) r t = decided_like
    (λ h. (h.0, h.2.0, h.2.1))
    (λ h. (h.0, h.1.to, (h.1, h.2)))
    (decided_some (λ u. StepsTypes f r u × Agrees fs u t) (λ u. decided_both (decided_step f r u) (decided_agrees fs u t)))

module _ (s : TypeSetParts) (chain : List Function) where
  -- a member leads to t, and to nothing else
  abbrev LeadsOnly : TypeParts → TypeParts → Type 0
  LeadsOnly t r = IsMember s r → (Agrees chain r t × ((x : TypeParts) → IsType x → Agrees chain r x → x ≡ t))

  -- it is decided
  decided_leads : (t r : TypeParts) → Decided (LeadsOnly t r)
  decided_leads t r = decided_if (decided_member s r)
      (decided_both (decided_agrees chain r t) (decided_all (λ x. Agrees chain r x
      → x ≡ t) (λ x. decided_if (decided_agrees chain r x) (decided_same x t))))

  -- what fixes t: no relation, a member, and that each member leads to t alone
  abbrev Fixes : TypeParts → Type 0
  Fixes t = All IsFunction chain × (((m : TypeParts) × IsType m × IsMember s m) × ((r : TypeParts) → IsType r → LeadsOnly t r))

  -- it fixes t
  fixed_from : (t : TypeParts) → Fixes t → IsFixed s chain t
  fixed_from t h = record {
    functions = h.0;
    member = h.1.0.0;
    inhabited = h.1.0.2;
    reached = λ r m. (h.1.1 r m.is_type m).0;
    only = λ r x m a. (h.1.1 r m.is_type m).1 x (agrees_type chain r x m.is_type a) a;
  }

  -- and nothing else does
  from_fixed : (t : TypeParts) → IsFixed s chain t → Fixes t
  from_fixed t h = (h.functions, ((h.member, h.inhabited.is_type, h.inhabited), λ r is m. (h.reached r m, λ x is_x a. h.only r x m a)))

  -- that t is fixed
  decided_fixed : (t : TypeParts) → Decided (IsFixed s chain t)
  decided_fixed t = decided_like (fixed_from t) (from_fixed t)
      (decided_both (decided_functions chain) (decided_both (decided_some (λ m. IsMember s m) (decided_member s))
      (decided_all (LeadsOnly t) (decided_leads t))))

  -- A fixed type, or none is.
  pub fixed_or_nowhere : ((t : TypeParts) × IsFixed s chain t) ⊎ IsFixedNowhere s chain
  fixed_or_nowhere = by_case (decided_some (λ t. IsFixed s chain t) decided_fixed)
    where
      -- a fixed type is a type
      by_case : Decided ((t : TypeParts) × IsType t × IsFixed s chain t) → ((t : TypeParts) × IsFixed s chain t) ⊎ IsFixedNowhere s chain
      by_case (inl (t, is, h)) = inl (t, h)
      by_case (inr nowhere) = inr (λ t h. nowhere (t, agrees_type chain h.member t h.inhabited.is_type (h.reached h.member h.inhabited), h))

-- The one type of a set is fixed for an underived variable.
pub fixed_from_one : (s : TypeSetParts) (one : HasOne s) → IsFixed s [] one.one
fixed_from_one s one = record {
  functions = All-nil IsFunction;
  member = one.one;
  inhabited = one.member;
  reached = λ r m. sym (one.only r m);
  only = λ r x m e. e ∙ one.only r m;
}

-- Where a type is fixed for an underived variable, its set has that one type.
pub one_from_fixed : (s : TypeSetParts) (t : TypeParts) → IsFixed s [] t → HasOne s
one_from_fixed s t h = record { one = h.member; member = h.inhabited; only = λ r m. sym (h.reached r m) ∙ h.reached h.member h.inhabited }
