-- What is wrong by the tables of declarations is wrong by what they mean. If they are valid, the reverse holds too.
use Rattle.std.proofs.Common.{◌≡◌, ◌↔◌, inl, inr, ℕ, ◌==◌, cond, Bool, true, false, List, [], ◌∷◌, map, take, length, All, Option, Some}
use Rattle.std.proofs.Common.{None, IfSome, sym, subst}
use Rattle.std.specs.Option.{option_map}
use Rattle.std.proofs.lemmas.List.Elements.{All-nil, All-cons, All-head, All-tail, All-map, All-weaker}
use Rattle.meta_types.specs.TypeParts.{TypeParts, IsType}
use Rattle.meta_types.specs.TypeNumber.{type_with, IsTypeNumber}
use Rattle.meta_inst.specs.Faults.{IsValid}
use Rattle.meta_inst.specs.InstructionSet.{InstructionSet}
use Rattle.meta_inst.specs.Tables.{TableContents, Allows}
use Rattle.meta_gen.specs.TablesOf.{AreTablesOf, AcceptsOpcode}
use Rattle.meta_lines.specs.Lines.{lines_of}
use Rattle.meta_gen.specs.Question.{Question}
use Rattle.meta_gen.specs.Reply.{AllowedReply, AcceptedReply}
use Rattle.meta_gen.specs.declared.reply.Reply.{Reply}
use Rattle.meta_gen.specs.declared.reply.Reply.TheVariants as reply
use Rattle.meta_gen.proofs.Meant.{HasTypes, accepted}
use Rattle.meta_verify.specs.Statement.{TypedValue, Application, Statement, OfParameter, OfApplication, IsTyped, CanBeStated}
use Rattle.meta_verify.specs.Statement.{AppliesTypes, GivesTypes, defined_by}
use Rattle.meta_verify.specs.Numbers.{typed_value_of, stated, IsTypedNumber, HasTypeNumbers}
use Rattle.meta_verify.specs.declared.statement.Statement as held
use Rattle.meta_verify.specs.declared.statement.Statement.TheVariants.{Parameter, Applied}
use Rattle.meta_verify.specs.Environment.{Environment, nothing_defined, with_value, with_values, HaveTypes, HasNamedTypes}
use Rattle.meta_verify.specs.Wrong.{Replies, question_of, LacksName, IsRepliedTo, IsAccepted, IsMistake, IsFaultless, IsWrong, AnswersLine}
use Rattle.meta_verify.specs.Wrong.{Feeds}
use Rattle.meta_verify.specs.Verdict.{LeadTo, IsAnsweredAt, AreRightTo, IsVerdict}
use Rattle.meta_verify.specs.Why.{IsExplainedVerdict}
use Rattle.meta_verify.proofs.OneAnswer.{right_not_wrong}
use Rattle.meta_gen.proofs.OneReply.{one_accepted}
use Rattle.meta_verify.proofs.Allowed.{unknown_back, allowed, unknown_forth}
use Rattle.meta_verify.specs.declared.reason.Reason.{Reason}
use Rattle.meta_verify.specs.declared.reason.Reason.TheVariants.{Bad, Unknown, Undefined, Redefined, Refused}

-- the types of values that are defined can be named, where all can
pub types_named : (env : Environment) (values : List ℕ) (types : List TypeParts) → HasNamedTypes env → HaveTypes env values types
    → All IsType types
types_named env [] [] named h = All-nil IsType
types_named env [] (t ∷ ts) named h = absurd (cc)
types_named env (v ∷ vs) [] named h = absurd (cc)
types_named env (v ∷ vs) (t ∷ ts) named h =
    let first : env v ≡ Some t = cc in
    let others : map env vs ≡ map (λ t. Some t) ts = cc in
    All-cons IsType t ts (named v t first) (types_named env vs ts named others)

one_named : (env : Environment) (r : TypedValue) → HasNamedTypes env → IsTyped r → HasNamedTypes (with_value env r)
one_named env r named is v t e = by_test (r.value == v) e
  where
    by_test : (b : Bool) → cond b (Some r.type) (env v) ≡ Some t → IsType t
    by_test true e = let same : r.type ≡ t = cc in subst IsType same is.is_type
    by_test false e = named v t e

pub all_named : (env : Environment) (rs : List TypedValue) → HasNamedTypes env → All IsTyped rs → HasNamedTypes (with_values env rs)
all_named env [] named h = named
all_named env (r ∷ rs) named h = all_named (with_value env r) rs (one_named env r named (All-head IsTyped r rs h)) (All-tail IsTyped r rs h)

pub results_typed : (s : Statement) → CanBeStated s → All IsTyped (defined_by s)
results_typed (OfParameter r) can = All-cons IsTyped r [] can (All-nil IsTyped)
results_typed (OfApplication a) can = can.results

-- the types of what a line states can be named
pub statable_types : (s : Statement) → CanBeStated s → GivesTypes s
statable_types (OfParameter r) can = can.is_type
statable_types (OfApplication a) can = record {
  control = can.control;
  second = can.second;
  results = All-weaker IsTyped (λ (r : TypedValue). IsType r.type) (λ r is. is.is_type) a.results can.results;
}

-- a number of a type gives a type that can be named
type_numbered : (n : Option ℕ) → IfSome n IsTypeNumber → IfSome (option_map type_with n) IsType
type_numbered None h = tt
type_numbered (Some n) h = h.is_type

-- the types of a stored statement can be named
pub numbered_types : (s : held.Statement) → HasTypeNumbers s → GivesTypes (stated s)
numbered_types (Parameter r) h = h.number.is_type
numbered_types (Applied a) h = record {
  control = type_numbered a.control h.control;
  second = type_numbered a.second h.second;
  results = All-map (λ (r : TypedValue). IsType r.type) typed_value_of a.results.items
      (All-weaker IsTypedNumber (λ r. IsType (type_with r.number)) (λ r is. is.number.is_type) a.results.items h.results);
}

-- what is asked of an application can be named, where the types of its values can
pub question_typed : (a : Application) (types : List TypeParts) → AppliesTypes a → All IsType types → HasTypes (question_of a types)
question_typed a types can h = record {
  control = can.control;
  second = can.second;
  results = All-map IsType (λ (r : TypedValue). r.type) a.results can.results;
  values = h;
}

-- no value is defined, so all types can be named
pub nothing_named : HasNamedTypes nothing_defined
nothing_named v t e = absurd (cc)

-- ---- after lines the types can still be named

module _ (R : Replies) where
  answers_named : (env env' : Environment) (line : List ℕ) (answer : Option Reason) → HasNamedTypes env
      → AnswersLine R env line answer env' → HasNamedTypes env'
  answers_named env env' line None named (s, (states, h), e) =
      subst HasNamedTypes (sym e) (all_named env (defined_by s) named (results_typed s states.can))
  answers_named env env' line (Some reason) named (h, e) = subst HasNamedTypes (sym e) named

  feeds_named : (env env' : Environment) (line : List ℕ) (answer : Option Reason) → HasNamedTypes env → Feeds R env line answer env'
      → HasNamedTypes env'
  feeds_named env env' [] answer named (a, e) = subst HasNamedTypes (sym e) named
  feeds_named env env' (c ∷ cs) answer named h = answers_named env env' (c ∷ cs) answer named h

  pub leads_named : (env env' : Environment) (lines : List (List ℕ)) → HasNamedTypes env → LeadTo R env lines env' → HasNamedTypes env'
  leads_named env env' [] named e = subst HasNamedTypes (sym e) named
  leads_named env env' (line ∷ lines) named (answer, between, fed, rest) =
      leads_named between env' lines (feeds_named env between line answer named fed) rest

-- ---- where S replies what R does, and `unknown` only where R does, S says the same of lines

module _ (R S : Replies) (means : (q : Question) → HasTypes q → (r : Reply) → R q r → S q r) (unknown : (q : Question) → HasTypes q
    → S q reply.Unknown → R q reply.Unknown) where
  lacks_back : (s : Statement) → GivesTypes s → LacksName S s → LacksName R s
  lacks_back (OfParameter r) can h = h
  lacks_back (OfApplication a) can h = unknown (question_of a []) (question_typed a [] can (All-nil IsType)) h

  replied : (env : Environment) (a : Application) (answer : Reply) → HasNamedTypes env → AppliesTypes a → IsRepliedTo R env a answer
      → IsRepliedTo S env a answer
  replied env a answer named can (types, have, h) =
      (types, have, means (question_of a types) (question_typed a types can (types_named env a.values types named have)) answer h)

  accepts : (env : Environment) (s : Statement) → HasNamedTypes env → GivesTypes s → IsAccepted R env s → IsAccepted S env s
  accepts env (OfParameter r) named can h = h
  accepts env (OfApplication a) named can h = replied env a reply.Accept named can h

  pub mistake : (env : Environment) (s : Statement) (reason : Reason) → HasNamedTypes env → GivesTypes s → IsMistake R env s reason
      → IsMistake S env s reason
  mistake env s Bad named can h = h
  mistake env (OfParameter r) Unknown named can h = h
  mistake env (OfApplication a) Unknown named can h = means (question_of a []) (question_typed a [] can (All-nil IsType)) reply.Unknown h
  mistake env s (Undefined v) named can (known, u) = (λ l. known (lacks_back s can l), u)
  mistake env s (Redefined v) named can (known, u, r) = (λ l. known (lacks_back s can l), u, r)
  mistake env (OfParameter r) Refused named can (known, u, f, h) = absurd h
  mistake env (OfApplication a) Refused named can (known, u, f, h) =
      (λ l. known (lacks_back (OfApplication a) can l), u, f, replied env a reply.Refuse named can h)

  pub faultless : (env : Environment) (s : Statement) → HasNamedTypes env → GivesTypes s → IsFaultless R env s → IsFaultless S env s
  faultless env s named can h = record {
    named = λ l. h.named (lacks_back s can l);
    defined = h.defined;
    fresh = h.fresh;
    accepted = accepts env s named can h.accepted;
  }

  wrong : (env : Environment) (line : List ℕ) (reason : Reason) → HasNamedTypes env → IsWrong R env line reason → IsWrong S env line reason
  wrong env line reason named (inl (s, states, h)) = inl (s, states, mistake env s reason named (statable_types s states.can) h)
  wrong env line reason named (inr h) = inr h

  answers : (env env' : Environment) (line : List ℕ) (answer : Option Reason) → HasNamedTypes env → AnswersLine R env line answer env'
      → AnswersLine S env line answer env'
  answers env env' line None named (s, (states, h), e) = (s, (states, faultless env s named (statable_types s states.can) h), e)
  answers env env' line (Some reason) named (h, e) = (wrong env line reason named h, e)

  feeds : (env env' : Environment) (line : List ℕ) (answer : Option Reason) → HasNamedTypes env → Feeds R env line answer env'
      → Feeds S env line answer env'
  feeds env env' [] answer named h = h
  feeds env env' (c ∷ cs) answer named h = answers env env' (c ∷ cs) answer named h

  leads : (env env' : Environment) (lines : List (List ℕ)) → HasNamedTypes env → LeadTo R env lines env' → LeadTo S env lines env'
  leads env env' [] named e = e
  leads env env' (line ∷ lines) named (answer, between, fed, rest) = (
    answer,
    between,
    feeds env between line answer named fed,
    leads between env' lines (feeds_named R env between line answer named fed) rest,
  )

-- ---- by tables of declarations

module _ (d : InstructionSet) (tables : TableContents) (made : AreTablesOf d tables) (means : (op : ℕ) (c e : Option ℕ) (rs vs : List ℕ)
    → (Allows tables op c e rs vs ↔ AcceptsOpcode d op c e rs vs)) where
  -- the answer to a line
  pub answered_means : (lines : List (List ℕ)) (n : ℕ) (answer : Option Reason) → IsAnsweredAt (AllowedReply tables) lines n answer
      → IsAnsweredAt (AcceptedReply d) lines n answer
  answered_means lines n answer h =
      let named = leads_named (AllowedReply tables) nothing_defined h.before (take n lines) nothing_named h.leads in
      record {
        line = h.line;
        at = h.at;
        before = h.before;
        leads = leads (AllowedReply tables) (AcceptedReply d) (accepted d tables made means)
            (unknown_back d tables made) nothing_defined h.before (take n lines) nothing_named h.leads;
        after = h.after;
        fed = feeds (AllowedReply tables) (AcceptedReply d) (accepted d tables made means)
            (unknown_back d tables made) h.before h.after h.line answer named h.fed;
      }

  -- the same, and the declarations are valid
  module _ (valid : IsValid d) where
    module _ (env : Environment) (named : HasNamedTypes env) where
      pub mistake_means : (s : Statement) → GivesTypes s → (reason : Reason)
          → (IsMistake (AllowedReply tables) env s reason ↔ IsMistake (AcceptedReply d) env s reason)
      mistake_means s can reason = (
        λ h. mistake (AllowedReply tables) (AcceptedReply d) (accepted d tables made means)
            (unknown_back d tables made) env s reason named can h,
        λ h. mistake (AcceptedReply d) (AllowedReply tables) (allowed d tables made means valid)
            (unknown_forth d tables made means) env s reason named can h,
      )

      pub right_means : (s : Statement) → GivesTypes s → (IsFaultless (AllowedReply tables) env s ↔ IsFaultless (AcceptedReply d) env s)
      right_means s can = (
        λ h. faultless (AllowedReply tables) (AcceptedReply d) (accepted d tables made means)
            (unknown_back d tables made) env s named can h,
        λ h. faultless (AcceptedReply d) (AllowedReply tables) (allowed d tables made means valid)
            (unknown_forth d tables made means) env s named can h,
      )

      pub fed_means : (line : List ℕ) (answer : Option Reason) (after : Environment)
          → (Feeds (AllowedReply tables) env line answer after ↔ Feeds (AcceptedReply d) env line answer after)
      fed_means line answer after = (
        λ h. feeds (AllowedReply tables) (AcceptedReply d) (accepted d tables made means)
            (unknown_back d tables made) env after line answer named h,
        λ h. feeds (AcceptedReply d) (AllowedReply tables) (allowed d tables made means valid)
            (unknown_forth d tables made means) env after line answer named h,
      )

      pub led_means : (lines : List (List ℕ)) (after : Environment)
          → (LeadTo (AllowedReply tables) env lines after ↔ LeadTo (AcceptedReply d) env lines after)
      led_means lines after = (
        λ h. leads (AllowedReply tables) (AcceptedReply d) (accepted d tables made means)
            (unknown_back d tables made) env after lines named h,
        λ h. leads (AcceptedReply d) (AllowedReply tables) (allowed d tables made means valid)
            (unknown_forth d tables made means) env after lines named h,
      )

    -- what is said of an input
    rights_mean : (lines : List (List ℕ)) (count : ℕ) → AreRightTo (AllowedReply tables) lines count
        → AreRightTo (AcceptedReply d) lines count
    rights_mean lines count h = record {
      each = λ n l. answered_means lines n None (h.each n l);
      none_wrong = λ n reason l. right_not_wrong (AcceptedReply d) (one_accepted d valid) lines n reason
          (answered_means lines n None (h.each n l));
    }

    pub verdict_means : (input : List ℕ) (is_rejection : Bool) (text : List ℕ) → IsVerdict (AllowedReply tables) input is_rejection text
        → IsVerdict (AcceptedReply d) input is_rejection text
    verdict_means input false text (right, is) = (rights_mean (lines_of input) (length (lines_of input)) right, is)
    verdict_means input true text (n, reason, first, is) = (
      n,
      reason,
      record {
        wrong = answered_means (lines_of input) n (Some reason) first.wrong;
        before = rights_mean (lines_of input) n first.before;
      },
      is,
    )

    -- the same with what is told of a refusal
    pub explained_means : (input : List ℕ) (is_rejection : Bool) (text : List ℕ)
        → IsExplainedVerdict (AllowedReply tables) tables input is_rejection text
        → IsExplainedVerdict (AcceptedReply d) tables input is_rejection text
    unfolding answered_means
    explained_means input false text h = verdict_means input false text h
    explained_means input true text (n, reason, first, more, told, is) = (
      n,
      reason,
      record {
        wrong = answered_means (lines_of input) n (Some reason) first.wrong;
        before = rights_mean (lines_of input) n first.before;
      },
      more,
      told,
      is,
    )
