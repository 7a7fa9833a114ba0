-- Why a line is wrong, by tables.
use Rattle.std.proofs.Common.{◌≡◌, ◌↔◌, ℕ, nat_eq, Bool, true, false, cond, List, [], ◌∷◌, map, get_or, All, Option, Some, None, IfSome}
use Rattle.std.proofs.Common.{IfNone, is_some, IsTrue, refl, sym, ap, ap₂, ◌∙◌, subst}
use Rattle.std.specs.Option.{option_map}
use Rattle.std.specs.Ordering.{nat_cmp}
use Rattle.std.specs.BTreeMap.{get, is_at}
use Rattle.std.specs.Cmp.{unsigned_tied}
use Rattle.std.specs.Map.{lookup}
use Rattle.std.proofs.lemmas.Bool.{false≢true}
use Rattle.std.proofs.lemmas.Option.{same_Some}
use Rattle.std.proofs.lemmas.List.Elements.{All-head, All-tail}
use Rattle.meta_lists.specs.First.{IsFirst}
use Rattle.meta_types.specs.TypeParts.{TypeParts, IsType, number_of}
use Rattle.meta_inst.specs.Tables.{TableContents, at_opcode, Allows}
use Rattle.meta_gen.specs.Contents.{IsOpcodeNamed}
use Rattle.meta_types.specs.TypeNumber.{type_with, IsTypeNumber}
use Rattle.meta_lines.proofs.TypeListLemmas.{numbers_back}
use Rattle.meta_gen.specs.Reply.{AllowsAsked, AllowedReply}
use Rattle.meta_verify.specs.Statement.{TypedValue, Statement, OfParameter, OfApplication}
use Rattle.meta_verify.specs.Environment.{Environment, nothing_defined, with_values, first_undefined, first_redefined, HaveTypes}
use Rattle.meta_verify.specs.Environment.{HasNamedTypes}
use Rattle.meta_verify.specs.Numbers.{typed_value_of, applied, IsTypedNumber, HasNumbers}
use Rattle.meta_verify.specs.Defined.{known_number, environment_of, AreTypeNumbers, Entries, entries_of, definitions}
use Rattle.meta_verify.specs.Wrong.{Replies, question_of, IsMistake, IsFaultless, AnswersLine, Feeds}
use Rattle.meta_verify.specs.declared.known.KnownTypes.{KnownTypes}
use Rattle.meta_verify.specs.declared.reason.Reason.{Reason}
use Rattle.meta_verify.specs.declared.reason.Reason.TheVariants.{Undefined, Redefined, Refused}
use Rattle.meta_verify.specs.declared.statement.TypedNumber.{TypedNumber}
use Rattle.meta_verify.specs.declared.statement.Application.{Application}
use Rattle.meta_verify.proofs.EnvironmentLemmas.{number_back, redefined_here, redefined_later}

-- the numbers of the results' types are the stored ones
pub result_numbers : (rs : List TypedNumber) → All IsTypedNumber rs
    → map number_of (map (λ (r : TypedValue). r.type) (map typed_value_of rs)) ≡ map (λ (r : TypedNumber). r.number) rs
result_numbers [] h = refl
result_numbers (r ∷ rs) h = ap₂ ◌∷◌ (All-head IsTypedNumber r rs h).number.numbered (result_numbers rs (All-tail IsTypedNumber r rs h))

-- what the tables allow by the stored numbers is what is asked
module _ (tables : TableContents) (op : ℕ) (a : Application) (h : HasNumbers a) (ns : List ℕ) (known : All IsTypeNumber ns) where
  same_asked : Allows tables op a.control a.second (map (λ (r : TypedNumber). r.number) a.results.items) ns
      ≡ AllowsAsked tables op (question_of (applied a) (map type_with ns))
  same_asked =
      let c = sym (number_back a.control h.control) in
      let d = sym (number_back a.second h.second) in
      let rs = sym (result_numbers a.results.items h.results) in
      let vs = sym (numbers_back ns known) in
      λ i. Allows tables op (c i) (d i) (rs i) (vs i)

  pub allows_asked : (results : List ℕ) → results ≡ map (λ (r : TypedNumber). r.number) a.results.items
      → Allows tables op a.control a.second results ns → AllowsAsked tables op (question_of (applied a) (map type_with ns))
  allows_asked results e h = subst (λ (T : Type 0). T) same_asked (subst (λ rs. Allows tables op a.control a.second rs ns) e h)

  pub asked_allows : (results : List ℕ) → results ≡ map (λ (r : TypedNumber). r.number) a.results.items
      → AllowsAsked tables op (question_of (applied a) (map type_with ns)) → Allows tables op a.control a.second results ns
  asked_allows results e h = subst (λ rs. Allows tables op a.control a.second rs ns) (sym e) (subst (λ (T : Type 0). T) (sym same_asked) h)

-- a name that an opcode has isn't unknown
pub known_name : (tables : TableContents) (name : List ℕ) (op : ℕ) → IsFirst (IsOpcodeNamed tables.names name) op
    → ((k : ℕ) → at_opcode tables.names k ≡ Some name → ⊥) → ⊥
known_name tables name op found none = none op found.holds

-- ---- what a contract sees of a checker

entry_there : (es : List (ℕ × ℕ)) (v : ℕ) → option_map type_with (lookup (nat_eq v) es)
    ≡ lookup (nat_eq v) (map (λ (e : ℕ × ℕ). (e.0, type_with e.1)) es)
entry_there [] v = refl
entry_there (e ∷ es) v = by_test (nat_eq v e.0) (entry_there es v)
  where
    by_test : (b : Bool) → option_map type_with (lookup (nat_eq v) es) ≡ lookup (nat_eq v) (map (λ (e : ℕ × ℕ). (e.0, type_with e.1)) es)
        → option_map type_with (cond b (Some e.1) (lookup (nat_eq v) es))
        ≡ cond b (Some (type_with e.1)) (lookup (nat_eq v) (map (λ (e : ℕ × ℕ). (e.0, type_with e.1)) es))
    by_test true below = refl
    by_test false below = below

-- what the order of keys finds their equality finds
same_test : (v : ℕ) → is_at (nat_cmp v) ≡ nat_eq v
same_test v = λ i k. unsigned_tied v k i

at_value : (m : KnownTypes) (v : ℕ) → environment_of m v ≡ definitions (entries_of m) v
at_value m v = by_test (nat_eq (get_or m.near.items v 0) 0) (ap (λ test. option_map type_with (lookup test m.others.entries)) (same_test v)
    ∙ entry_there m.others.entries v)
  where
    by_test : (b : Bool) → option_map type_with (get nat_cmp m.others v)
        ≡ lookup (nat_eq v) (map (λ (e : ℕ × ℕ). (e.0, type_with e.1)) m.others.entries)
        → option_map type_with (cond b (get nat_cmp m.others v) (Some (get_or m.near.items v 0)))
        ≡ cond b (lookup (nat_eq v) (map (λ (e : ℕ × ℕ). (e.0, type_with e.1)) m.others.entries))
        (Some (type_with (get_or m.near.items v 0)))
    by_test true after = after
    by_test false after = refl

pub seen : (m : KnownTypes) (l : Entries) → entries_of m ≡ l → environment_of m ≡ definitions l
seen m l e = (λ i v. at_value m v i) ∙ ap definitions e

-- the stored types can be named
type_there : (o : Option ℕ) (t : TypeParts) → IfSome o IsTypeNumber → option_map type_with o ≡ Some t → IsType t
type_there None t known e = absurd (cc)
type_there (Some n) t known e = subst IsType (same_Some (type_with n) t e) known.is_type

pub named_seen : (m : KnownTypes) (l : Entries) → entries_of m ≡ l → AreTypeNumbers m → HasNamedTypes (definitions l)
named_seen m l e known = subst HasNamedTypes (seen m l e) (λ v t is. type_there (known_number m v) t (known v) is)

-- a map that defines the same, and one that defines more
pub seen_same : (m n : KnownTypes) (l k : Entries) → entries_of m ≡ l → entries_of n ≡ k
    → ((v : ℕ) → environment_of n v ≡ environment_of m v) → definitions k ≡ definitions l
seen_same m n l k e f h = sym (seen n k f) ∙ (λ i v. h v i) ∙ seen m l e

pub seen_more : (m n : KnownTypes) (l k : Entries) (rs : List TypedValue) → entries_of m ≡ l → entries_of n ≡ k
    → ((v : ℕ) → environment_of n v ≡ with_values (environment_of m) rs v) → definitions k ≡ with_values (definitions l) rs
seen_more m n l k rs e f h = sym (seen n k f) ∙ (λ i v. h v i) ∙ ap (λ (env : Environment). with_values env rs) (seen m l e)

-- results of which none is defined before
pub fresh_there : (m : KnownTypes) (l : Entries) (rs : List TypedValue) → entries_of m ≡ l → first_redefined (definitions l) rs ≡ None
    → first_redefined (environment_of m) rs ≡ None
fresh_there m l rs e h = ap (λ (env : Environment). first_redefined env rs) (seen m l e) ∙ h

-- nothing is defined where no value has a number
pub nothing_seen : (m : KnownTypes) (l : Entries) → entries_of m ≡ l → ((v : ℕ) → known_number m v ≡ None) → definitions l ≡ nothing_defined
nothing_seen m l e none = sym (seen m l e) ∙ (λ i v. option_map type_with (none v i))

-- what is said of the stored values is said of what a contract sees
module _ (tables : TableContents) (m : KnownTypes) (l : Entries) (s : Statement) (e : entries_of m ≡ l) (o : Option Reason) where
  pub mistake_seen : (reason : Reason) → o ≡ Some reason → IfSome o (λ r. IsMistake (AllowedReply tables) (environment_of m) s r)
      → IsMistake (AllowedReply tables) (definitions l) s reason
  mistake_seen reason is h =
      subst (λ (env : Environment). IsMistake (AllowedReply tables) env s reason) (seen m l e)
      (subst (λ o. IfSome o (λ r. IsMistake (AllowedReply tables) (environment_of m) s r)) is h)

  pub faultless_seen : o ≡ None → IfNone o (IsFaultless (AllowedReply tables) (environment_of m) s)
      → IsFaultless (AllowedReply tables) (definitions l) s
  faultless_seen is h =
      subst (λ (env : Environment). IsFaultless (AllowedReply tables) env s) (seen m l e)
      (subst (λ o. IfNone o (IsFaultless (AllowedReply tables) (environment_of m) s)) is h)

-- a parameter that is defined before, and one that isn't
pub parameter_redefined : (env : Environment) (r : TypedNumber) (R : Replies) → is_some (env r.value) ≡ true
    → IsMistake R env (OfParameter (typed_value_of r)) (Redefined r.value)
parameter_redefined env r R there = ((λ lacks. lacks), refl, redefined_here env (typed_value_of r) [] there)

pub parameter_right : (env : Environment) (r : TypedNumber) (R : Replies) → is_some (env r.value) ≡ false
    → IsFaultless R env (OfParameter (typed_value_of r))
parameter_right env r R absent = record {
  named = λ lacks. lacks;
  defined = refl;
  fresh = redefined_later env (typed_value_of r) [] absent;
  accepted = tt;
}

-- the answer to a parameter
pub parameter_mistake : (env : Environment) (r : TypedNumber) (R : Replies) (o : Option Reason)
    → o ≡ cond (is_some (env r.value)) (Some (Redefined r.value)) None
    → IfSome o (λ reason. IsMistake R env (OfParameter (typed_value_of r)) reason)
parameter_mistake env r R o e =
    subst (λ o. IfSome o (λ reason. IsMistake R env (OfParameter (typed_value_of r)) reason)) (sym e) (by_test (is_some (env r.value)) refl)
  where
    by_test : (b : Bool) → is_some (env r.value) ≡ b
        → IfSome (cond b (Some (Redefined r.value)) None) (λ reason. IsMistake R env (OfParameter (typed_value_of r)) reason)
    by_test true is = parameter_redefined env r R is
    by_test false is = tt

pub parameter_faultless : (env : Environment) (r : TypedNumber) (R : Replies) (o : Option Reason)
    → o ≡ cond (is_some (env r.value)) (Some (Redefined r.value)) None → IfNone o (IsFaultless R env (OfParameter (typed_value_of r)))
parameter_faultless env r R o e =
    subst (λ o. IfNone o (IsFaultless R env (OfParameter (typed_value_of r)))) (sym e) (by_test (is_some (env r.value)) refl)
  where
    by_test : (b : Bool) → is_some (env r.value) ≡ b
        → IfNone (cond b (Some (Redefined r.value)) None) (IsFaultless R env (OfParameter (typed_value_of r)))
    by_test true is = tt
    by_test false is = parameter_right env r R is

-- what a false test decides isn't so
pub says_no : (b : Bool) (P : Type 0) → (IsTrue b ↔ P) → b ≡ false → P → ⊥
says_no b P decides off h = false≢true (sym off ∙ decides.1 h)

-- an application, by what was found
module _ (tables : TableContents) (env : Environment) (a : Application) (h : HasNumbers a) (op : ℕ)
    (found : IsFirst (IsOpcodeNamed tables.names a.name.now) op) where
  pub is_undefined : (v : ℕ) → Some v ≡ first_undefined env a.values.items
      → IsMistake (AllowedReply tables) env (OfApplication (applied a)) (Undefined v)
  is_undefined v e = (known_name tables a.name.now op found, sym e)

  pub is_redefined : (v : ℕ) → None ≡ first_undefined env a.values.items
      → Some v ≡ first_redefined env (map typed_value_of a.results.items)
      → IsMistake (AllowedReply tables) env (OfApplication (applied a)) (Redefined v)
  is_redefined v u e = (known_name tables a.name.now op found, sym u, sym e)

  pub is_refused : (ns results : List ℕ) → None ≡ first_undefined env a.values.items
      → None ≡ first_redefined env (map typed_value_of a.results.items) → HaveTypes env a.values.items (map type_with ns)
      → All IsTypeNumber ns
      → results ≡ map (λ (r : TypedNumber). r.number) a.results.items → (Allows tables op a.control a.second results ns → ⊥)
      → IsMistake (AllowedReply tables) env (OfApplication (applied a)) Refused
  is_refused ns results u r types known e never = (
    known_name tables a.name.now op found,
    sym u,
    sym r,
    (map type_with ns, types, (op, found, λ asked. never (asked_allows tables op a h ns known results e asked))),
  )

  pub is_faultless : (ns results : List ℕ) → None ≡ first_undefined env a.values.items
      → None ≡ first_redefined env (map typed_value_of a.results.items) → HaveTypes env a.values.items (map type_with ns)
      → All IsTypeNumber ns
      → results ≡ map (λ (r : TypedNumber). r.number) a.results.items → Allows tables op a.control a.second results ns
      → IsFaultless (AllowedReply tables) env (OfApplication (applied a))
  is_faultless ns results u r types known e allows = record {
    named = known_name tables a.name.now op found;
    defined = sym u;
    fresh = sym r;
    accepted = (map type_with ns, types, (op, found, allows_asked tables op a h ns known results e allows));
  }

-- ---- lines

-- an answer to a line that isn't empty
pub feeds : (R : Replies) (env env' : Environment) (line : List ℕ) (answer : Option Reason) → (line ≡ [] → ⊥)
    → AnswersLine R env line answer env' → Feeds R env line answer env'
feeds R env env' [] answer some h = absurd (some refl)
feeds R env env' (c ∷ cs) answer some h = h
