-- What is said of a list of lines, line by line.
use Rattle.std.proofs.Common.{◌≡◌, ◌⊎◌, inl, inr, ℕ, zero, suc, ◌+◌, ◌<◌, ◌≤◌, List, [], ◌∷◌, ◌++◌, take, drop, length, slice_get, Option}
use Rattle.std.proofs.Common.{None, Some, refl, sym, ap, ◌∙◌, subst, arith}
use Rattle.std.proofs.lemmas.Bool.{cases_order}
use Rattle.meta_lists.proofs.Places.{take_next, drop_next}
use Rattle.meta_inst.specs.Tables.{TableContents}
use Rattle.meta_gen.specs.Reply.{AllowedReply}
use Rattle.meta_verify.specs.Environment.{Environment, nothing_defined}
use Rattle.meta_verify.specs.Wrong.{Replies, IsWrong, Feeds}
use Rattle.meta_verify.specs.Verdict.{LeadTo, IsAnsweredAt, AreRightTo, AreRight, IsFirstWrong}
use Rattle.meta_verify.specs.declared.reason.Reason.{Reason}
use Rattle.meta_verify.proofs.OneAnswer.{right_not_wrong}
use Rattle.meta_gen.proofs.OneReply.{one_allowed}

-- a line that is answered by a reason is wrong for it, and defines nothing
pub fed_wrong : (R : Replies) (env env' : Environment) (line : List ℕ) (reason : Reason) → Feeds R env line (Some reason) env'
    → IsWrong R env line reason × (env' ≡ env)
fed_wrong R env env' [] reason (none, same) = absurd (cc)
fed_wrong R env env' (c ∷ cs) reason h = h

-- one more line leads further
leads_on : (R : Replies) (env between env' : Environment) (lines : List (List ℕ)) (line : List ℕ)
    (answer : Option Reason) → LeadTo R env lines between → Feeds R between line answer env' → LeadTo R env (lines ++ line ∷ []) env'
leads_on R env between env' [] line answer h fed = (answer, env', subst (λ e. Feeds R e line answer env') h fed, refl)
leads_on R env between env' (l ∷ lines) line answer (first, e, fed_first, rest) fed =
    (first, e, fed_first, leads_on R e between env' lines line answer rest fed)

-- where the lines from this one on begin with this line
pub at_front : (lines : List (List ℕ)) (n : ℕ) (line : List ℕ) (rest : List (List ℕ)) → drop n lines ≡ line ∷ rest
    → slice_get lines n ≡ Some line
at_front [] zero line rest e = absurd (cc)
at_front [] (suc n) line rest e = absurd (cc)
at_front (l ∷ lines) zero line rest e = let same : l ≡ line = cc in ap (λ x. Some x) same
at_front (l ∷ lines) (suc n) line rest e = at_front lines n line rest e

pub left_next : (lines : List (List ℕ)) (n : ℕ) (line : List ℕ) (rest : List (List ℕ)) → drop n lines ≡ line ∷ rest
    → drop (n + 1) lines ≡ rest
left_next lines n line rest e =
    let both : line ∷ drop (n + 1) lines ≡ line ∷ rest = sym (drop_next lines n line (at_front lines n line rest e)) ∙ e in
    cc

-- no line is left
past : (lines : List (List ℕ)) (n : ℕ) → drop n lines ≡ [] → length lines ≤ n
past [] n e = omega arith
past (l ∷ lines) zero e = absurd (cc)
past (l ∷ lines) (suc n) e = let h = past lines n e in omega (arith, h)

-- the number of a line is at most that of the lines
pub few_so_far : (lines : List (List ℕ)) (n : ℕ) (line : List ℕ) (rest : List (List ℕ)) → drop n lines ≡ line ∷ rest → n < length lines
few_so_far [] zero line rest e = absurd (cc)
few_so_far [] (suc n) line rest e = absurd (cc)
few_so_far (l ∷ lines) zero line rest e = omega arith
few_so_far (l ∷ lines) (suc n) line rest e = let h = few_so_far lines n line rest e in omega (arith, h)

module _ (tables : TableContents) (lines : List (List ℕ)) where
  -- what was found of the lines so far, which lead to an environment
  pub record AreRightSoFar (n : ℕ) (env : Environment) : Type 0 where
    pub leads : LeadTo (AllowedReply tables) nothing_defined (take n lines) env
    pub each : (k : ℕ) → k < n → IsAnsweredAt (AllowedReply tables) lines k None

  pub none_so_far : AreRightSoFar 0 nothing_defined
  none_so_far = record { leads = refl; each = λ k l. absurd (omega (arith, l)) }

  -- the answer to the next line
  answered : (n : ℕ) (env env' : Environment) (line : List ℕ) (rest : List (List ℕ)) (answer : Option Reason)
      → AreRightSoFar n env → drop n lines ≡ line ∷ rest → Feeds (AllowedReply tables) env line answer env'
      → IsAnsweredAt (AllowedReply tables) lines n answer
  answered n env env' line rest answer h e fed = record {
    line = line;
    at = at_front lines n line rest e;
    before = env;
    leads = h.leads;
    after = env';
    fed = fed;
  }

  -- one more line is right
  pub one_right : (n : ℕ) (env env' : Environment) (line : List ℕ) (rest : List (List ℕ)) → AreRightSoFar n env
      → drop n lines ≡ line ∷ rest → Feeds (AllowedReply tables) env line None env' → AreRightSoFar (n + 1) env'
  one_right n env env' line rest h e fed = record {
    leads = subst (λ ls. LeadTo (AllowedReply tables) nothing_defined ls env')
        (sym (take_next lines n line (at_front lines n line rest e)))
        (leads_on (AllowedReply tables) nothing_defined env env' (take n lines) line None h.leads fed);
    each = λ k l. by_order k l (cases_order k n);
  }
    where
      by_order : (k : ℕ) → k < n + 1 → (k ≡ n) ⊎ ((k < n) ⊎ (n < k)) → IsAnsweredAt (AllowedReply tables) lines k None
      by_order k l (inl is) = subst (λ x. IsAnsweredAt (AllowedReply tables) lines x None) (sym is)
          (answered n env env' line rest None h e fed)
      by_order k l (inr (inl before)) = h.each k before
      by_order k l (inr (inr after)) = absurd (omega (arith, l, after))

  right_to : (n : ℕ) (env : Environment) → AreRightSoFar n env → AreRightTo (AllowedReply tables) lines n
  right_to n env h = record {
    each = h.each;
    none_wrong = λ k reason l. right_not_wrong (AllowedReply tables) (one_allowed tables) lines k reason (h.each k l);
  }

  -- the next line is wrong: it is the first such line, after those that lead to what is defined
  pub first_wrong : (n : ℕ) (env env' : Environment) (line : List ℕ) (rest : List (List ℕ)) (reason : Reason)
      → AreRightSoFar n env → drop n lines ≡ line ∷ rest → Feeds (AllowedReply tables) env line (Some reason) env'
      → (first : IsFirstWrong (AllowedReply tables) lines n reason) × (first.wrong.line ≡ line) × (first.wrong.before ≡ env')
  first_wrong n env env' line rest reason h e fed = (
    record {
      wrong = record {
        line = line;
        at = at_front lines n line rest e;
        before = env;
        leads = h.leads;
        after = env';
        fed = fed;
      };
      before = right_to n env h;
    },
    refl,
    sym (fed_wrong (AllowedReply tables) env env' line reason fed).1,
  )

  -- no line is left
  pub all_right : (n : ℕ) (env : Environment) → AreRightSoFar n env → drop n lines ≡ [] → AreRight (AllowedReply tables) lines
  all_right n env h e =
      let all = right_to n env h in
      let over = past lines n e in
      record {
        each = λ k l. all.each k (omega (arith, l, over));
        none_wrong = λ k reason l. all.none_wrong k reason (omega (arith, l, over));
      }
