-- A refusal is told in one way, so an input has at most one verdict that tells why.
use Rattle.std.proofs.Common.{◌≡◌, ◌⊎◌, inl, inr, ℕ, ◌+◌, ◌<◌, Bool, true, false, List, ◌∷◌, ◌++◌, map, take, length, Some}
use Rattle.std.proofs.Common.{codes, refl, sym, ap, ap₂}
use Rattle.std.proofs.Common.{◌∙◌, subst}
use Rattle.std.proofs.lemmas.Bool.{cases_order}
use Rattle.std.proofs.lemmas.Option.{same_Some}
use Rattle.meta_lists.proofs.First.{one_first}
use Rattle.meta_types.specs.TypeParts.{TypeParts, number_of}
use Rattle.meta_inst.specs.Tables.{TableContents}
use Rattle.meta_lines.specs.Lines.{lines_of}
use Rattle.meta_gen.specs.Contents.{IsOpcodeNamed}
use Rattle.meta_gen.specs.Question.{Question}
use Rattle.meta_gen.specs.Reply.{AcceptedReply}
use Rattle.meta_gen.specs.TablesOf.{AreTablesOf}
use Rattle.meta_gen.specs.declared.reply.Reply.{Reply}
use Rattle.meta_build.specs.AllDeclared.{Declared}
use Rattle.meta_explain.specs.Texts.{place_text, held_text, wants_text}
use Rattle.meta_explain.specs.Wanted.{IsExplained}
use Rattle.meta_explain.specs.declared.control_types.ControlTypes.{ControlTypes}
use Rattle.meta_explain.specs.declared.part.Part.{Part}
use Rattle.meta_explain.specs.declared.explained.Wanted.{Wanted}
use Rattle.meta_explain.specs.declared.explained.Explained.TheVariants.{Refuse}
use Rattle.meta_verify.specs.Statement.{Application, OfApplication}
use Rattle.meta_verify.specs.Environment.{Environment, nothing_defined}
use Rattle.meta_verify.specs.Verdict.{IsAnsweredAt, IsFirstWrong, wrong_text}
use Rattle.meta_verify.specs.Why.{controls_asked, value_at, value_part, refusal_text, explained_text, IsToldOf, IsTold, IsExplainedVerdict, explained_verdicts}
use Rattle.meta_verify.specs.Wrong.{Replies, question_of}
use Rattle.meta_verify.specs.declared.reason.Reason.{Reason}
use Rattle.meta_verify.specs.declared.reason.Reason.TheVariants.{Bad, Unknown, Undefined, Redefined, Refused}
use Rattle.meta_verify.proofs.OneAnswer.{same_found_types, one_lead, one_answered, one_said}
use Rattle.meta_verify.proofs.StatementLemmas.{one_statement}
use Rattle.meta_verify.proofs.WhyLemmas.{by_tables}

-- ---- one line

-- a part that fails, and what it has to be, is told in one way
abbrev pub ToldInOneWay : Type 0
ToldInOneWay = (tables : TableContents) (op : ℕ) (c : ControlTypes) (rs vs : List ℕ) (p q : Part) (w u : Wanted)
    → IsExplained tables op c rs vs (Refuse p w) → IsExplained tables op c rs vs (Refuse q u) → (p ≡ q) × (wants_text w ≡ wants_text u)

module _ (one_way : ToldInOneWay) (tables : TableContents) (env : Environment) where
  same_refusal : (a : Application) (h g : Question) (p q : Part) (w u : Wanted) → h ≡ g → p ≡ q → wants_text w ≡ wants_text u
      → refusal_text a (controls_asked h) (map number_of h.results) (map number_of h.values) p w
      ≡ refusal_text a (controls_asked g) (map number_of g.results) (map number_of g.values) q u
  same_refusal a h g p q w u e f t =
      ap (λ (x : Question). refusal_text a (controls_asked x) (map number_of x.results) (map number_of x.values) p w) e
      ∙ ap (λ (x : Part). refusal_text a (controls_asked g) (map number_of g.results) (map number_of g.values) x w) f
      ∙ ap (λ (x : List ℕ). 32 ∷ (place_text q (length a.results) ++ (codes ": " ++ (value_part (value_at a q)
      ++ (held_text q (controls_asked g) (map number_of g.results) (map number_of g.values) ++ (codes ", " ++ x)))))) t

  pub told_once : (a : Application) (m k : List ℕ) → IsToldOf tables env a m → IsToldOf tables env a k → m ≡ k
  told_once a m k h g =
      let types : h.types ≡ g.types = same_found_types env a.values h.types g.types h.have g.have in
      let asked : question_of a h.types ≡ question_of a g.types = ap (question_of a) types in
      let op : h.opcode ≡ g.opcode = one_first (IsOpcodeNamed tables.names a.name) h.opcode g.opcode h.named g.named in
      let explained : IsExplained tables g.opcode (controls_asked (question_of a g.types)) (map number_of (question_of a g.types).results)
      (map number_of g.types) (Refuse h.part h.wanted) =
      subst (λ (o : ℕ). IsExplained tables o (controls_asked (question_of a g.types)) (map number_of (question_of a g.types).results)
      (map number_of g.types) (Refuse h.part h.wanted)) op
      (subst (λ (ts : List TypeParts). IsExplained tables h.opcode (controls_asked (question_of a ts))
      (map number_of (question_of a ts).results) (map number_of ts) (Refuse h.part h.wanted)) types h.explained) in
      let (part, wants) = one_way tables g.opcode (controls_asked (question_of a g.types)) (map number_of (question_of a g.types).results)
      (map number_of g.types) h.part g.part h.wanted g.wanted explained g.explained in
      h.is ∙ same_refusal a (question_of a h.types) (question_of a g.types) h.part g.part h.wanted g.wanted asked part wants ∙ sym g.is

  -- what is told of a line is one
  pub one_told : (line : List ℕ) (reason : Reason) (m k : List ℕ) → IsTold tables env line reason m → IsTold tables env line reason k → m ≡ k
  one_told line Bad m k h g = h ∙ sym g
  one_told line Unknown m k h g = h ∙ sym g
  one_told line (Undefined v) m k h g = h ∙ sym g
  one_told line (Redefined v) m k h g = h ∙ sym g
  one_told line Refused m k (a, states, h) (b, also, g) =
      let stated : OfApplication a ≡ OfApplication b = one_statement line (OfApplication a) (OfApplication b) states also in
      let same : a ≡ b = cc in
      told_once b m k (subst (λ x. IsToldOf tables env x m) same h) g

-- ---- an input

module _ (R : Replies) (one : (q : Question) (r s : Reply) → R q r → R q s → r ≡ s) where
  -- a line among others is one, and comes after one environment
  same_line : (lines : List (List ℕ)) (n : ℕ) (a b : Reason) (h : IsAnsweredAt R lines n (Some a)) (g : IsAnsweredAt R lines n (Some b))
      → (a ≡ b) × (h.line ≡ g.line) × (h.before ≡ g.before)
  same_line lines n a b h g = (
    same_Some a b (one_answered R one lines n (Some a) (Some b) h g),
    same_Some h.line g.line (sym h.at ∙ g.at),
    one_lead R one nothing_defined (take n lines) h.before g.before h.leads g.leads,
  )

  one_place : (lines : List (List ℕ)) (n m : ℕ) (a b : Reason) → IsFirstWrong R lines n a → IsFirstWrong R lines m b → n ≡ m
  one_place lines n m a b h g = by_order (cases_order n m)
    where
      by_order : (n ≡ m) ⊎ ((n < m) ⊎ (m < n)) → n ≡ m
      by_order (inl e) = e
      by_order (inr (inl l)) = absurd (g.before.none_wrong n a l h.wrong)
      by_order (inr (inr l)) = absurd (h.before.none_wrong m b l g.wrong)

  module _ (one_way : ToldInOneWay) (tables : TableContents) (input : List ℕ) where
    same_place : (n : ℕ) (a b : Reason) (h : IsFirstWrong R (lines_of input) n a) (g : IsFirstWrong R (lines_of input) n b) (m k : List ℕ)
        → IsTold tables h.wrong.before h.wrong.line a m → IsTold tables g.wrong.before g.wrong.line b k
        → explained_text (n + 1) a m ≡ explained_text (n + 1) b k
    same_place n a b h g m k told also =
        let (reason, line, before) = same_line (lines_of input) n a b h.wrong g.wrong in
        let here : IsTold tables g.wrong.before g.wrong.line b m =
        subst (λ r. IsTold tables g.wrong.before g.wrong.line r m) reason
        (subst (λ l. IsTold tables g.wrong.before l a m) line
        (subst (λ (e : Environment). IsTold tables e h.wrong.line a m) before told)) in
        ap₂ (explained_text (n + 1)) reason (one_told one_way tables g.wrong.before g.wrong.line b m k here also)

    same_first : (n m : ℕ) (a b : Reason) (h : IsFirstWrong R (lines_of input) n a) (g : IsFirstWrong R (lines_of input) m b)
        (p q : List ℕ) → n ≡ m → IsTold tables h.wrong.before h.wrong.line a p → IsTold tables g.wrong.before g.wrong.line b q
        → explained_text (n + 1) a p ≡ explained_text (m + 1) b q
    same_first n m a b h g p q e told also =
        subst (λ (x : ℕ). (f : IsFirstWrong R (lines_of input) x b) → IsTold tables f.wrong.before f.wrong.line b q
        → explained_text (n + 1) a p ≡ explained_text (x + 1) b q) e
        (λ f too. same_place n a b h f p q told too) g also

    -- an input has at most one verdict that tells why
    pub one_explained : (a b : Bool) (s t : List ℕ) → IsExplainedVerdict R tables input a s → IsExplainedVerdict R tables input b t
        → (a ≡ b) × (s ≡ t)
    one_explained false false s t h g = one_said R one input false false s t h g
    one_explained false true s t h (n, reason, first, more, told, is) =
        let both = one_said R one input false true s (wrong_text (n + 1) reason) h (n, reason, first, refl) in
        let no : false ≡ true = both.0 in
        absurd (cc)
    one_explained true false s t (n, reason, first, more, told, is) h =
        let both = one_said R one input true false (wrong_text (n + 1) reason) t (n, reason, first, refl) h in
        let no : true ≡ false = both.0 in
        absurd (cc)
    one_explained true true s t (n, a, h, p, told, is) (m, b, g, q, also, too) =
        (refl, is ∙ same_first n m a b h g p q (one_place (lines_of input) n m a b h g) told also ∙ sym too)

-- over declarations an input has at most one verdict that tells why
pub once_declared : (d : Declared) → ((q : Question) (r s : Reply) → AcceptedReply d.set q r → AcceptedReply d.set q s → r ≡ s) → ToldInOneWay
    → ((one other : TableContents) → AreTablesOf d.set one → AreTablesOf d.set other → one ≡ other) → (input : List ℕ) (a b : Bool)
    (s t : List ℕ) → explained_verdicts d input a s → explained_verdicts d input b t → (a ≡ b) × (s ≡ t)
once_declared d one one_way one_table input false false s t h g = one_said (AcceptedReply d.set) one input false false s t h g
once_declared d one one_way one_table input false true s t h (tables, made, g) =
    one_explained (AcceptedReply d.set) one one_way tables input false true s t h g
once_declared d one one_way one_table input true false s t (tables, made, h) g =
    one_explained (AcceptedReply d.set) one one_way tables input true false s t h g
once_declared d one one_way one_table input true true s t (tables, made, h) g =
    one_explained (AcceptedReply d.set) one one_way tables input true true s t h (by_tables d one_table tables made input true t g)
