-- At each place, the one type that its operand's root must have; and two places of one root ask for the same type.
use Rattle.std.proofs.Common.{◌≡◌, ℕ, ◌⊎◌, List, [], ◌∷◌, ◌++◌, Option, Some, slice_get, refl, sym, ap, ◌∙◌, subst, subst₂, inl, inr}
use Rattle.std.proofs.lemmas.Option.{same_Some}
use Rattle.meta_types.specs.TypeParts.{TypeParts}
use Rattle.meta_types.specs.Function.{Function, StepsTypes}
use Rattle.meta_typevar.specs.TypeSetParts.{TypeSetParts, IsMember, HasOne}
use Rattle.meta_typevar.specs.Chain.{Agrees, IsFixed}
use Rattle.meta_typevar.specs.Variable.{Variable, Sets}
use Rattle.meta_inst.specs.Instruction.{Instruction, IsOperand}
use Rattle.meta_inst.specs.Control.{IsLoneInput}
use Rattle.meta_inst.specs.Which.{Which}
use Rattle.meta_inst.specs.Constraint.{TypeConstraint, ConcreteType, FreeType, SameType, ByType, IsConstraint, Passes, PassesOwn}
use Rattle.meta_inst.specs.Constraint.{ControlFits}
use Rattle.meta_inst.proofs.Family.{IsUnder, IsControlled, IsSettled, Ruling, AllFit}

-- two variables with one root and one chain are one
pub same_variable : (v w : Variable) → v.root ≡ w.root → v.chain ≡ w.chain → v ≡ w
same_variable v w r c = λ i. record { root = r i; chain = c i }

-- an equal chain leads from an equal type to the same types
pub agrees_same : (chain fs : List Function) (r s t : TypeParts) → chain ≡ fs → r ≡ s → Agrees fs s t → Agrees chain r t
agrees_same chain fs r s t c e h = subst₂ (λ (x : List Function) (y : TypeParts). Agrees x y t) (sym c) (sym e) h

-- an underived variable has its root's type
pub agrees_underived : (chain : List Function) (r t : TypeParts) → chain ≡ [] → t ≡ r → Agrees chain r t
agrees_underived chain r t c e = agrees_same chain [] r r t c refl e

-- and only that
pub underived_agrees : (chain : List Function) (r t : TypeParts) → chain ≡ [] → Agrees chain r t → t ≡ r
underived_agrees chain r t c h = agrees_same [] chain r r t (sym c) refl h

-- one step from a type leads to what the function leads to
pub agrees_step : (chain : List Function) (f : Function) (r t : TypeParts) → chain ≡ f ∷ [] → StepsTypes f r t → Agrees chain r t
agrees_step chain f r t c s = agrees_same chain (f ∷ []) r r t c refl (t, s, refl)

-- and only there
pub step_agrees : (chain : List Function) (f : Function) (r t : TypeParts) → chain ≡ f ∷ [] → Agrees chain r t → StepsTypes f r t
step_agrees chain f r t c h =
    let (u, s, e) = agrees_same (f ∷ []) chain r r t (sym c) refl h in
    subst (λ x. StepsTypes f r x) (sym e) s

-- a fixed type of an underived variable is a member of its root's set
pub fixed_member : (s : TypeSetParts) (chain : List Function) (t : TypeParts) → IsFixed s chain t → chain ≡ [] → IsMember s t
fixed_member s chain t x c =
    subst (λ y. IsMember s y) (sym (underived_agrees chain x.member t c (x.reached x.member x.inhabited))) x.inhabited

module _ (sets : Sets) (i : Instruction) (controls : Which → Option Variable) (c : Which → Option TypeParts) where
  -- why an operand's root must have the type e: it is the type of the control with that root; or no control has the root,
  -- and the root has one type alone, or the operand is a lone input of the type e itself
  abbrev pub RootReason : ℕ → Variable → TypeParts → TypeParts → Type 0
  RootReason k w t e =
      ((a : Which) × IsUnder controls w a × (c a ≡ Some e))
      ⊎ ((IsControlled controls w → ⊥) × (HasOne (sets w.root) ⊎ (IsLoneInput i k w × (e ≡ t))))

  -- the type that the root of the operand w at place k must have where the operand has the type t
  pub record Candidate (k : ℕ) (w : Variable) (t : TypeParts) : Type 0 where
    pub type_of : TypeParts
    pub member : IsMember (sets w.root) type_of
    pub agrees : Agrees w.chain type_of t
    pub reason : RootReason k w t type_of

module _ (sets : Sets) (i : Instruction) (controls : Which → Option Variable) (ruling : Ruling sets i controls)
    (c : Which → Option TypeParts) where
  -- two controls over one variable have one controlling type
  under_same : (v w : Variable) (a b : Which) → IsUnder controls v a → IsUnder controls w b → v.root ≡ w.root → c a ≡ c b
  under_same v w a b p q r = ap c (ruling.one a b p.variable q.variable p.controls_is q.controls_is (sym p.root ∙ (r ∙ q.root)))

  -- a control that stands at w has the type of each control with its root
  stands_same : (w : Variable) (a b : Which) (e t : TypeParts) → IsUnder controls w a → c a ≡ Some e → controls b ≡ Some w → c b ≡ Some t
      → t ≡ e
  stands_same w a b e t p is at b_is =
      let q : IsUnder controls w b = record { variable = w; controls_is = at; root = refl } in
      same_Some t e (sym b_is ∙ (sym (under_same w w a b p q refl) ∙ is))

  -- where a control has w's root, its type leads to each type that passes w's rule
  agrees_under : (w : Variable) (a : Which) (e t : TypeParts) → IsUnder controls w a → c a ≡ Some e → IsMember (sets w.root) e
      → (x : TypeConstraint) → IsConstraint sets controls w x → Passes c x t → Agrees w.chain e t
  agrees_under w a e t p is m (ConcreteType n) r passes = subst (λ y. Agrees w.chain e y) (sym passes) (r.reached e m)
  agrees_under w a e t p is m (FreeType s) r passes =
      let same : p.variable ≡ w = same_variable p.variable w (sym p.root) (ruling.underived a p.variable p.controls_is ∙ sym r.underived) in
      absurd (r.other a (p.controls_is ∙ ap Some same))
  agrees_under w a e t p is m (SameType b) r passes =
      agrees_underived w.chain e t (ruling.underived b w r.controls_is) (stands_same w a b e t p is r.controls_is passes)
  agrees_under w a e t p is m (ByType b f) r passes =
      let (u, b_is, steps) = passes in
      let q : IsUnder controls w b = record { variable = r.variable; controls_is = r.controls_is; root = r.derived.root } in
      let same : u ≡ e = same_Some u e (sym b_is ∙ (sym (under_same w w a b p q refl) ∙ is)) in
      let one : w.chain ≡ f ∷ [] = r.derived.chain
      ∙ ap (λ (fs : List Function). fs ++ (f ∷ [])) (ruling.underived b r.variable r.controls_is) in
      agrees_step w.chain f e t one (subst (λ y. StepsTypes f y t) same steps)

  -- where no control has w's root and that has one type, this type leads to each type that passes w's rule
  agrees_alone : (w : Variable) (e t : TypeParts) → (IsControlled controls w → ⊥) → IsMember (sets w.root) e
      → ((y : TypeParts) → IsMember (sets w.root) y → y ≡ e)
      → (x : TypeConstraint) → IsConstraint sets controls w x → Passes c x t → Agrees w.chain e t
  agrees_alone w e t free m only (ConcreteType n) r passes = subst (λ y. Agrees w.chain e y) (sym passes) (r.reached e m)
  agrees_alone w e t free m only (FreeType s) r passes =
      agrees_underived w.chain e t r.underived (only t (subst (λ y. IsMember y t) r.set passes))
  agrees_alone w e t free m only (SameType b) r passes =
      absurd (free (b, record { variable = w; controls_is = r.controls_is; root = refl }))
  agrees_alone w e t free m only (ByType b f) r passes =
      absurd (free (b, record { variable = r.variable; controls_is = r.controls_is; root = r.derived.root }))

  -- where no control has w's root and w is underived, what passes w's rule is a member of the root's set
  member_alone : (w : Variable) (t : TypeParts) → (IsControlled controls w → ⊥) → w.chain ≡ []
      → (x : TypeConstraint) → IsConstraint sets controls w x → Passes c x t → IsMember (sets w.root) t
  member_alone w t free d (ConcreteType n) r passes =
      subst (λ y. IsMember (sets w.root) y) (sym passes) (fixed_member (sets w.root) w.chain n r d)
  member_alone w t free d (FreeType s) r passes = subst (λ y. IsMember y t) r.set passes
  member_alone w t free d (SameType b) r passes = absurd (free (b, record { variable = w; controls_is = r.controls_is; root = refl }))
  member_alone w t free d (ByType b f) r passes =
      absurd (free (b, record { variable = r.variable; controls_is = r.controls_is; root = r.derived.root }))

  -- the controlling type of a control that is there
  fits_at : (a : Which) (v : Variable) → controls a ≡ Some v → AllFit sets controls c → ControlFits sets (Some v) (c a)
  fits_at a v e fits = subst (λ o. ControlFits sets o (c a)) e (fits a)

  -- at each settled operand whose type passes its rule there is a candidate
  candidate_of : (k : ℕ) (w : Variable) (t : TypeParts) → AllFit sets controls c → PassesOwn sets controls c w t
      → IsSettled sets i controls k w → Candidate sets i controls c k w t
  candidate_of k w t fits (x, r, passes) (inl (a, p)) =
      let (e, is, m) = fits_at a p.variable p.controls_is fits in
      let member : IsMember (sets w.root) e = subst (λ n. IsMember (sets n) e) (sym p.root) m in
      record { type_of = e; member = member; agrees = agrees_under w a e t p is member x r passes; reason = inl (a, p, is) }
  candidate_of k w t fits (x, r, passes) (inr (free, inl one)) =
      record {
        type_of = one.one;
        member = one.member;
        agrees = agrees_alone w one.one t free one.member one.only x r passes;
        reason = inr (free, inl one);
      }
  candidate_of k w t fits (x, r, passes) (inr (free, inr lone)) =
      record {
        type_of = t;
        member = member_alone w t free lone.underived x r passes;
        agrees = agrees_underived w.chain t t lone.underived refl;
        reason = inr (free, inr (lone, refl));
      }

  -- at each operand whose type passes its rule there is a candidate
  pub has_candidate : (k : ℕ) (w : Variable) (t : TypeParts) → AllFit sets controls c → IsOperand i k w → PassesOwn sets controls c w t
      → Candidate sets i controls c k w t
  has_candidate k w t fits at passes = candidate_of k w t fits passes (ruling.settled k w at)

  -- a control with the root of w is one with the root of v, where these are one
  moved : (v w : Variable) → v.root ≡ w.root → IsControlled controls w → IsControlled controls v
  moved v w r (a, p) = (a, record { variable = p.variable; controls_is = p.controls_is; root = r ∙ p.root })

  -- two candidates of one root, by their reasons
  same_by_reasons : (ts : List TypeParts) (j k : ℕ) (v w : Variable) (s t d e : TypeParts) → v.root ≡ w.root → IsOperand i j v
      → IsOperand i k w → slice_get ts j ≡ Some s → slice_get ts k ≡ Some t
      → IsMember (sets v.root) d → IsMember (sets w.root) e → RootReason sets i controls c j v s d → RootReason sets i controls c k w t e
      → d ≡ e
  same_by_reasons ts j k v w s t d e r at_j at_k s_at t_at m n (inl (a, p, d_is)) (inl (b, q, e_is)) =
      same_Some d e (sym d_is ∙ (under_same v w a b p q r ∙ e_is))
  same_by_reasons ts j k v w s t d e r at_j at_k s_at t_at m n (inl (a, p, d_is)) (inr (free, why)) =
      absurd (free (moved w v (sym r) (a, p)))
  same_by_reasons ts j k v w s t d e r at_j at_k s_at t_at m n (inr (free, why)) (inl (b, q, e_is)) = absurd (free (moved v w r (b, q)))
  same_by_reasons ts j k v w s t d e r at_j at_k s_at t_at m n (inr (free, inl one)) (inr (_, _)) =
      one.only d m ∙ sym (one.only e (subst (λ x. IsMember (sets x) e) (sym r) n))
  same_by_reasons ts j k v w s t d e r at_j at_k s_at t_at m n (inr (free, inr lone)) (inr (_, inl one)) =
      one.only d (subst (λ x. IsMember (sets x) d) r m) ∙ sym (one.only e n)
  same_by_reasons ts j k v w s t d e r at_j at_k s_at t_at m n (inr (free, inr (lone, d_is))) (inr (_, inr (other, e_is))) =
      let same : v ≡ w = same_variable v w r (lone.underived ∙ sym other.underived) in
      let place : j ≡ k = other.alone j lone.is_input (at_j ∙ ap Some same) in
      d_is ∙ (same_Some s t (sym s_at ∙ (ap (slice_get ts) place ∙ t_at)) ∙ sym e_is)

  -- two places of one root have one candidate
  pub same_candidate : (ts : List TypeParts) (j k : ℕ) (v w : Variable) (s t : TypeParts) → v.root ≡ w.root → IsOperand i j v
      → IsOperand i k w → slice_get ts j ≡ Some s → slice_get ts k ≡ Some t
      → (x : Candidate sets i controls c j v s) (y : Candidate sets i controls c k w t) → x.type_of ≡ y.type_of
  same_candidate ts j k v w s t r at_j at_k s_at t_at x y =
      same_by_reasons ts j k v w s t x.type_of y.type_of r at_j at_k s_at t_at x.member y.member x.reason y.reason
