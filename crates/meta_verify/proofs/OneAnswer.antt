-- If a question has at most one reply, a line has at most one answer, and an input at most one verdict.
use Rattle.std.proofs.Common.{◌≡◌, ◌⊎◌, inl, inr, ℕ, ◌+◌, ◌<◌, Bool, true, false, List, [], ◌∷◌, map, take, Option, None, Some, refl, sym}
use Rattle.std.proofs.Common.{ap, ap₂, ◌∙◌, subst}
use Rattle.std.proofs.lemmas.Bool.{cases_order}
use Rattle.std.proofs.lemmas.Option.{same_Some, slice_get_within}
use Rattle.meta_types.specs.TypeParts.{TypeParts}
use Rattle.meta_lines.specs.Lines.{lines_of}
use Rattle.meta_gen.specs.Question.{Question}
use Rattle.meta_gen.specs.declared.reply.Reply.{Reply}
use Rattle.meta_gen.specs.declared.reply.Reply.TheVariants as reply
use Rattle.meta_verify.specs.Statement.{Statement, OfParameter, OfApplication, defined_by}
use Rattle.meta_verify.specs.Environment.{Environment, nothing_defined, with_values, HaveTypes}
use Rattle.meta_verify.specs.Wrong.{Replies, question_of, IsAccepted, IsRefused, IsMistake, IsFaultless, IsRight, IsWrong, AnswersLine}
use Rattle.meta_verify.specs.Wrong.{Feeds}
use Rattle.meta_verify.specs.Verdict.{LeadTo, IsAnsweredAt, IsFirstWrong, wrong_text, IsVerdict}
use Rattle.meta_verify.specs.declared.reason.Reason.{Reason}
use Rattle.meta_verify.specs.declared.reason.Reason.TheVariants.{Bad, Unknown, Undefined, Redefined, Refused}
use Rattle.meta_verify.proofs.StatementLemmas.{one_statement}

-- values have at most one list of types
same_found : (ts us : List TypeParts) → map (λ t. Some t) ts ≡ map (λ t. Some t) us → ts ≡ us
same_found [] [] e = refl
same_found [] (u ∷ us) e = absurd (cc)
same_found (t ∷ ts) [] e = absurd (cc)
same_found (t ∷ ts) (u ∷ us) e =
    let first : t ≡ u = cc in
    let others : map (λ t. Some t) ts ≡ map (λ t. Some t) us = cc in
    ap₂ ◌∷◌ first (same_found ts us others)

pub same_found_types : (env : Environment) (values : List ℕ) (ts us : List TypeParts) → HaveTypes env values ts → HaveTypes env values us
    → ts ≡ us
same_found_types env values ts us h g = same_found ts us (sym h ∙ g)

module _ (R : Replies) (one : (q : Question) (r s : Reply) → R q r → R q s → r ≡ s) where
  -- what is accepted isn't refused
  not_both : (env : Environment) (s : Statement) → IsAccepted R env s → IsRefused R env s → ⊥
  not_both env (OfParameter r) h g = g
  not_both env (OfApplication a) (types, have, accepts) (others, has, refuses) =
      let same = same_found_types env a.values types others have has in
      let e : reply.Accept ≡ reply.Refuse =
      one (question_of a others) reply.Accept reply.Refuse (subst (λ ts. R (question_of a ts) reply.Accept) same accepts) refuses in
      absurd (cc)

  -- what is right is no mistake
  pub right_is_none : (env : Environment) (s : Statement) (reason : Reason) → IsFaultless R env s → IsMistake R env s reason → ⊥
  right_is_none env s Bad h g = g
  right_is_none env s Unknown h g = h.named g
  right_is_none env s (Undefined v) h (known, u) = let e : None ≡ Some v = sym h.defined ∙ u in absurd (cc)
  right_is_none env s (Redefined v) h (known, u, r) = let e : None ≡ Some v = sym h.fresh ∙ r in absurd (cc)
  right_is_none env s Refused h (known, u, r, refused) = not_both env s h.accepted refused

  -- a statement has at most one mistake
  pub one_mistake : (env : Environment) (s : Statement) (a b : Reason) → IsMistake R env s a → IsMistake R env s b → a ≡ b
  one_mistake env s Bad b h g = absurd h
  one_mistake env s a Bad h g = absurd g
  one_mistake env s Unknown Unknown h g = refl
  one_mistake env s Unknown (Undefined w) h (known, u) = absurd (known h)
  one_mistake env s Unknown (Redefined w) h (known, u, r) = absurd (known h)
  one_mistake env s Unknown Refused h (known, u, r, refused) = absurd (known h)
  one_mistake env s (Undefined v) Unknown (known, u) g = absurd (known g)
  one_mistake env s (Undefined v) (Undefined w) (known, u) (other, t) = ap (λ v. Undefined v) (same_Some v w (sym u ∙ t))
  one_mistake env s (Undefined v) (Redefined w) (known, u) (other, t, r) = let e : Some v ≡ None = sym u ∙ t in absurd (cc)
  one_mistake env s (Undefined v) Refused (known, u) (other, t, r, refused) = let e : Some v ≡ None = sym u ∙ t in absurd (cc)
  one_mistake env s (Redefined v) Unknown (known, u, r) g = absurd (known g)
  one_mistake env s (Redefined v) (Undefined w) (known, u, r) (other, t) = let e : None ≡ Some w = sym u ∙ t in absurd (cc)
  one_mistake env s (Redefined v) (Redefined w) (known, u, r) (other, t, q) = ap (λ v. Redefined v) (same_Some v w (sym r ∙ q))
  one_mistake env s (Redefined v) Refused (known, u, r) (other, t, q, refused) = let e : Some v ≡ None = sym r ∙ q in absurd (cc)
  one_mistake env s Refused Unknown (known, u, r, refused) g = absurd (known g)
  one_mistake env s Refused (Undefined w) (known, u, r, refused) (other, t) = let e : None ≡ Some w = sym u ∙ t in absurd (cc)
  one_mistake env s Refused (Redefined w) (known, u, r, refused) (other, t, q) = let e : None ≡ Some w = sym r ∙ q in absurd (cc)
  one_mistake env s Refused Refused h g = refl

  -- a line is wrong for at most one reason
  one_wrong : (env : Environment) (line : List ℕ) (a b : Reason) → IsWrong R env line a → IsWrong R env line b → a ≡ b
  one_wrong env line a b (inl (s, states, h)) (inl (t, also, g)) =
      one_mistake env s a b h (subst (λ x. IsMistake R env x b) (one_statement line t s also states) g)
  one_wrong env line a b (inl (s, states, h)) (inr (bad, none)) = absurd (none s states)
  one_wrong env line a b (inr (bad, none)) (inl (t, also, g)) = absurd (none t also)
  one_wrong env line a b (inr (bad, none)) (inr (too, nothing)) = bad ∙ sym too

  pub not_wrong : (env : Environment) (line : List ℕ) (s : Statement) (reason : Reason) → IsRight R env line s → IsWrong R env line reason
      → ⊥
  not_wrong env line s reason (states, h) (inl (t, also, g)) =
      right_is_none env s reason h (subst (λ x. IsMistake R env x reason) (one_statement line t s also states) g)
  not_wrong env line s reason (states, h) (inr (bad, none)) = none s states

  -- a line has at most one answer, and leads to at most one environment
  one_answer : (env e f : Environment) (line : List ℕ) (a b : Option Reason) → AnswersLine R env line a e → AnswersLine R env line b f
      → (a ≡ b) × (e ≡ f)
  one_answer env e f line None None (s, (states, h), is) (t, (also, g), too) =
      (refl, is ∙ ap (λ x. with_values env (defined_by x)) (one_statement line s t states also) ∙ sym too)
  one_answer env e f line None (Some b) (s, right, is) (wrong, too) = absurd (not_wrong env line s b right wrong)
  one_answer env e f line (Some a) None (wrong, is) (t, right, too) = absurd (not_wrong env line t a right wrong)
  one_answer env e f line (Some a) (Some b) (wrong, is) (also, too) = (ap (λ r. Some r) (one_wrong env line a b wrong also), is ∙ sym too)

  pub one_fed : (env e f : Environment) (line : List ℕ) (a b : Option Reason) → Feeds R env line a e → Feeds R env line b f
      → (a ≡ b) × (e ≡ f)
  one_fed env e f [] a b (none, is) (nothing, too) = (none ∙ sym nothing, is ∙ sym too)
  one_fed env e f (c ∷ cs) a b h g = one_answer env e f (c ∷ cs) a b h g

  -- lines lead to at most one environment
  pub one_lead : (env : Environment) (lines : List (List ℕ)) (e f : Environment) → LeadTo R env lines e → LeadTo R env lines f → e ≡ f
  one_lead env [] e f h g = h ∙ sym g
  one_lead env (line ∷ lines) e f (a, m, fed, rest) (b, n, also, others) =
      one_lead n lines e f (subst (λ x. LeadTo R x lines e) (one_fed env m n line a b fed also).1 rest) others

  -- a line among others has at most one answer
  pub one_answered : (lines : List (List ℕ)) (n : ℕ) (a b : Option Reason) → IsAnsweredAt R lines n a → IsAnsweredAt R lines n b → a ≡ b
  one_answered lines n a b h g =
      let line : h.line ≡ g.line = same_Some h.line g.line (sym h.at ∙ g.at) in
      let before : h.before ≡ g.before = one_lead nothing_defined (take n lines) h.before g.before h.leads g.leads in
      let fed : Feeds R g.before g.line a h.after =
      subst (λ x. Feeds R x g.line a h.after) before (subst (λ l. Feeds R h.before l a h.after) line h.fed) in
      (one_fed g.before h.after g.after g.line a b fed g.fed).0

  pub right_not_wrong : (lines : List (List ℕ)) (n : ℕ) (reason : Reason) → IsAnsweredAt R lines n None
      → IsAnsweredAt R lines n (Some reason) → ⊥
  right_not_wrong lines n reason h g = let e = one_answered lines n None (Some reason) h g in absurd (cc)

  -- two lines that are the first wrong ones are the same
  one_first : (lines : List (List ℕ)) (n m : ℕ) (a b : Reason) → IsFirstWrong R lines n a → IsFirstWrong R lines m b
      → wrong_text (n + 1) a ≡ wrong_text (m + 1) b
  one_first lines n m a b h g = by_order (cases_order n m)
    where
      by_order : (n ≡ m) ⊎ ((n < m) ⊎ (m < n)) → wrong_text (n + 1) a ≡ wrong_text (m + 1) b
      by_order (inl e) =
          let same = one_answered lines m (Some a) (Some b) (subst (λ x. IsAnsweredAt R lines x (Some a)) e h.wrong) g.wrong in
          ap₂ (λ (x : ℕ) (r : Reason). wrong_text (x + 1) r) e (same_Some a b same)
      by_order (inr (inl l)) = absurd (g.before.none_wrong n a l h.wrong)
      by_order (inr (inr l)) = absurd (h.before.none_wrong m b l g.wrong)

  -- an input has at most one verdict
  pub one_said : (input : List ℕ) (a b : Bool) (s t : List ℕ) → IsVerdict R input a s → IsVerdict R input b t → (a ≡ b) × (s ≡ t)
  one_said input false false s t (right, is) (also, too) = (refl, is ∙ sym too)
  one_said input false true s t (right, is) (n, reason, first, too) =
      absurd (right.none_wrong n reason (slice_get_within (lines_of input) n first.wrong.line first.wrong.at) first.wrong)
  one_said input true false s t (n, reason, first, is) (right, too) =
      absurd (right.none_wrong n reason (slice_get_within (lines_of input) n first.wrong.line first.wrong.at) first.wrong)
  one_said input true true s t (n, a, first, is) (m, b, also, too) = (refl, is ∙ one_first (lines_of input) n m a b first also ∙ sym too)
