-- What is told of a wrong line.
use Rattle.std.proofs.Common.{◌≡◌, inl, inr, ℕ, zero, suc, ◌+◌, ◌<◌, ◌≤◌, Bool, true, false, List, [], ◌++◌, map, length, All, Option, Some, None, refl, sym, ap, ◌∙◌, subst}
use Rattle.std.proofs.Common.{slice_get, is_some, arith}
use Rattle.std.specs.Option.{option_map}
use Rattle.std.proofs.lemmas.List.{length-map}
use Rattle.std.proofs.lemmas.Option.{slice_get_within}
use Rattle.meta_lists.proofs.Mapped.{get_map}
use Rattle.meta_lists.proofs.Places.{get_stays, get_right}
use Rattle.meta_lists.specs.First.{IsFirst}
use Rattle.meta_types.specs.TypeParts.{number_of}
use Rattle.meta_types.specs.TypeNumber.{type_with, IsTypeNumber}
use Rattle.meta_inst.specs.Tables.{TableContents, at_opcode}
use Rattle.meta_build.specs.AllDeclared.{Declared}
use Rattle.meta_lines.proofs.TypeListLemmas.{numbers_back}
use Rattle.meta_gen.specs.Contents.{IsOpcodeNamed}
use Rattle.meta_gen.specs.Reply.{AllowedReply, AcceptedReply}
use Rattle.meta_gen.specs.TablesOf.{AreTablesOf}
use Rattle.meta_explain.specs.Parts.{Accepts}
use Rattle.meta_explain.specs.Wanted.{IsExplained}
use Rattle.meta_explain.specs.declared.part.Part.{Part}
use Rattle.meta_explain.specs.declared.explained.Wanted.{Wanted}
use Rattle.meta_explain.specs.declared.explained.Explained.TheVariants.{Refuse}
use Rattle.meta_verify.specs.Statement.{TypedValue, Statement, OfParameter, OfApplication, IsStatement}
use Rattle.meta_verify.specs.Environment.{Environment, HaveTypes}
use Rattle.meta_verify.specs.Numbers.{typed_value_of, applied, controls_in, HasNumbers}
use Rattle.meta_verify.specs.Why.{refusal_text, IsToldOf, IsTold, IsFoundWrong, IsExplainedVerdict, explained_verdicts}
use Rattle.meta_verify.specs.Wrong.{Replies, question_of, IsMistake, IsWrong}
use Rattle.meta_verify.specs.declared.statement.Application as held
use Rattle.meta_verify.specs.declared.statement.TypedNumber.{TypedNumber}
use Rattle.meta_verify.specs.declared.reason.Reason.{Reason}
use Rattle.meta_verify.specs.declared.reason.Reason.TheVariants.{Bad, Unknown, Undefined, Redefined, Refused}
use Rattle.meta_verify.specs.declared.verdict.WrongLine.{WrongLine}
use Rattle.meta_verify.proofs.CheckerLemmas.{result_numbers, is_faultless}
use Rattle.meta_verify.proofs.EnvironmentLemmas.{number_back}
use Rattle.meta_verify.proofs.OneAnswer.{right_is_none}
use Rattle.meta_verify.proofs.StatementLemmas.{one_statement}
use Rattle.meta_verify.proofs.VerdictLemmas.{fed_wrong}
use Rattle.meta_gen.proofs.OneReply.{one_allowed}

-- ---- wrong lines

-- a line that is found is wrong
pub found_wrong : (R : Replies) (lines : List (List ℕ)) (env : Environment) (w : WrongLine) → IsFoundWrong R lines env w
    → IsWrong R env w.line.now w.reason
found_wrong R lines env w h =
    let wrong = h.first.wrong in
    subst (λ (e : Environment). IsWrong R e w.line.now w.reason) h.before
    (subst (λ l. IsWrong R wrong.before l w.reason) h.line
    (fed_wrong R wrong.before wrong.after wrong.line w.reason wrong.fed).0)

-- what is told of the line that was found
pub found_told : (R : Replies) (tables : TableContents) (lines : List (List ℕ)) (env : Environment) (w : WrongLine) (more : List ℕ)
    → (h : IsFoundWrong R lines env w) → IsTold tables env w.line.now w.reason more
    → IsTold tables h.first.wrong.before h.first.wrong.line w.reason more
found_told R tables lines env w more h told =
    subst (λ (e : Environment). IsTold tables e h.first.wrong.line w.reason more) (sym h.before)
    (subst (λ l. IsTold tables env l w.reason more) (sym h.line) told)

-- a mistake of what a refused line states
pub refused_line : (R : Replies) (env : Environment) (line : List ℕ) (s : Statement) (reason : Reason) → reason ≡ Refused
    → IsStatement line s → IsWrong R env line reason → IsMistake R env s Refused
refused_line R env line s reason is states (inl (t, also, h)) =
    subst (IsMistake R env s) is (subst (λ x. IsMistake R env x reason) (one_statement line t s also states) h)
refused_line R env line s reason is states (inr (bad, none)) = absurd (none s states)

-- a parameter isn't refused
pub no_parameter : (R : Replies) (env : Environment) (r : TypedValue) → IsMistake R env (OfParameter r) Refused → ⊥
no_parameter R env r (known, u, f, refused) = refused

-- a refused line states something
pub states_something : (R : Replies) (env : Environment) (line : List ℕ) (reason : Reason) → reason ≡ Refused
    → ((s : Statement) → IsStatement line s → ⊥) → IsWrong R env line reason → ⊥
states_something R env line reason is none (inl (t, states, h)) = none t states
states_something R env line reason is none (inr (bad, nothing)) = let no : Refused ≡ Bad = sym is ∙ bad in absurd (cc)

-- nothing is told but of a refusal
pub told_nothing : (tables : TableContents) (env : Environment) (line : List ℕ) (reason : Reason) → (reason ≡ Refused → ⊥)
    → IsTold tables env line reason []
told_nothing tables env line Bad other = refl
told_nothing tables env line Unknown other = refl
told_nothing tables env line (Undefined v) other = refl
told_nothing tables env line (Redefined v) other = refl
told_nothing tables env line Refused other = absurd (other refl)

pub nothing_else : (tables : TableContents) (env : Environment) (line : List ℕ) (reason : Reason) (more : List ℕ)
    → IsTold tables env line reason more → (reason ≡ Refused → ⊥) → more ≡ []
nothing_else tables env line Bad more told other = told
nothing_else tables env line Unknown more told other = told
nothing_else tables env line (Undefined v) more told other = told
nothing_else tables env line (Redefined v) more told other = told
nothing_else tables env line Refused more told other = absurd (other refl)

pub told_refused : (tables : TableContents) (env : Environment) (line : List ℕ) (reason : Reason) (a : held.Application) (more : List ℕ)
    → reason ≡ Refused → IsStatement line (OfApplication (applied a)) → IsToldOf tables env (applied a) more
    → IsTold tables env line reason more
told_refused tables env line reason a more is states told =
    subst (λ r. IsTold tables env line r more) (sym is) (applied a, states, told)

-- ---- the value at a place

-- a result, and a value after the results
pub result_at : (rs : List TypedNumber) (vs : List ℕ) (k : ℕ) (r : TypedNumber) → slice_get rs k ≡ Some r
    → slice_get (map (λ (r : TypedValue). r.value) (map typed_value_of rs) ++ vs) k ≡ Some r.value
result_at rs vs k r at =
    get_stays (map (λ (r : TypedValue). r.value) (map typed_value_of rs)) vs k r.value
    (get_map (λ (r : TypedValue). r.value) (map typed_value_of rs) k (typed_value_of r) (get_map typed_value_of rs k r at))

pub value_after : (rs : List TypedNumber) (vs : List ℕ) (k j : ℕ) → k ≡ length rs + j
    → slice_get (map (λ (r : TypedValue). r.value) (map typed_value_of rs) ++ vs) k ≡ slice_get vs j
value_after rs vs k j e =
    let values = map (λ (r : TypedValue). r.value) (map typed_value_of rs) in
    let long = length-map (map typed_value_of rs) (λ (r : TypedValue). r.value) in
    let same = length-map rs typed_value_of in
    let at : k ≡ length values + j = omega (arith, e, long, same) in
    ap (slice_get (values ++ vs)) at ∙ get_right values vs j

-- ---- what is asked, by the stored numbers

module _ (a : held.Application) (h : HasNumbers a) (ns : List ℕ) (known : All IsTypeNumber ns) (results : List ℕ)
    (are : results ≡ map (λ (r : TypedNumber). r.number) a.results.items) where
  asked_numbers : (F : Option ℕ → Option ℕ → List ℕ → List ℕ → Type 0) → F a.control a.second results ns
      → F (option_map number_of (applied a).control) (option_map number_of (applied a).second)
      (map number_of (question_of (applied a) (map type_with ns)).results) (map number_of (map type_with ns))
  asked_numbers F f =
      let c = sym (number_back a.control h.control) in
      let d = sym (number_back a.second h.second) in
      let rs = are ∙ sym (result_numbers a.results.items h.results) in
      let vs = sym (numbers_back ns known) in
      subst (λ (T : Type 0). T) (λ i. F (c i) (d i) (rs i) (vs i)) f

  -- what is told of an application
  pub told_of : (tables : TableContents) (env : Environment) (op : ℕ) → IsFirst (IsOpcodeNamed tables.names a.name.now) op
      → HaveTypes env a.values.items (map type_with ns)
      → (part : Part) (wanted : Wanted) → IsExplained tables op (controls_in a) results ns (Refuse part wanted)
      → IsToldOf tables env (applied a) (refusal_text (applied a) (controls_in a) results ns part wanted)
  told_of tables env op found types part wanted explained = record {
    types = map type_with ns;
    have = types;
    opcode = op;
    named = found;
    part = part;
    wanted = wanted;
    explained = asked_numbers
        (λ c d rs vs. IsExplained tables op (record { ctrl = c; second = d }) rs vs (Refuse part wanted)) explained;
    is = asked_numbers
        (λ c d rs vs. refusal_text (applied a) (controls_in a) results ns part wanted
        ≡ refusal_text (applied a) (record { ctrl = c; second = d }) rs vs part wanted) refl;
  }

  -- what is refused isn't accepted
  pub not_accepted : (tables : TableContents) (env : Environment) (op : ℕ) → IsFirst (IsOpcodeNamed tables.names a.name.now) op
      → HaveTypes env a.values.items (map type_with ns) → IsMistake (AllowedReply tables) env (OfApplication (applied a)) Refused
      → Accepts tables op (controls_in a) results ns → ⊥
  not_accepted tables env op found types (lacks, u, f, refused) accepts =
      right_is_none (AllowedReply tables) (one_allowed tables) env (OfApplication (applied a)) Refused
      (is_faultless tables env a h op found ns results (sym u) (sym f) types known are accepts) (lacks, u, f, refused)

-- where there is no first one, there is none
pub no_value : (o : Option ℕ) → is_some o ≡ false → o ≡ None
no_value None e = refl
no_value (Some v) e = absurd (cc)

-- what has a name is an opcode
pub named_opcode : (names : List (List ℕ)) (op count : ℕ) (name : List ℕ) → length names ≡ count → at_opcode names op ≡ Some name
    → (0 < op) × (op ≤ count)
named_opcode names zero count name long e = absurd (cc)
named_opcode names (suc k) count name long e =
    let l = slice_get_within names k name e in (omega arith, omega (arith, l, long))

-- ---- over declarations

-- what is told by the tables of declarations is told over the declarations
pub over_declarations : (d : Declared) (tables : TableContents) → AreTablesOf d.set tables → (input : List ℕ) (is_rejection : Bool)
    (text : List ℕ) → IsExplainedVerdict (AcceptedReply d.set) tables input is_rejection text → explained_verdicts d input is_rejection text
over_declarations d tables made input false text h = h
over_declarations d tables made input true text h = (tables, made, h)

-- and the other way round, if the tables of declarations are one
pub by_tables : (d : Declared) → ((one other : TableContents) → AreTablesOf d.set one → AreTablesOf d.set other → one ≡ other)
    → (tables : TableContents) → AreTablesOf d.set tables → (input : List ℕ) (is_rejection : Bool) (text : List ℕ)
    → explained_verdicts d input is_rejection text → IsExplainedVerdict (AcceptedReply d.set) tables input is_rejection text
by_tables d one tables made input false text h = h
by_tables d one tables made input true text (others, also, h) =
    subst (λ t. IsExplainedVerdict (AcceptedReply d.set) t input true text) (one others tables also made) h
