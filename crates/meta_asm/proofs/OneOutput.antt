-- An input is written in a form in at most one way.
use Rattle.std.proofs.Common.{◌≡◌, ◌≢◌, ◌⊎◌, inl, inr, ℕ, zero, suc, ◌+◌, ◌<◌, Bool, true, false, List, [], ◌∷◌, take, slice_get, Option}
use Rattle.std.proofs.Common.{None, Some, codes, refl, sym, ap, ap₂, ◌∙◌, subst, arith}
use Rattle.std.proofs.lemmas.Bool.{cases_order}
use Rattle.std.proofs.lemmas.Option.{same_Some}
use Rattle.std.proofs.lemmas.List.{take-take}
use Rattle.meta_lists.proofs.Places.{get_take}
use Rattle.meta_lines.specs.Lines.{lines_of}
use Rattle.meta_verify.specs.Statement.{Statement, IsStatement, defined_by}
use Rattle.meta_verify.specs.Environment.{Environment, nothing_defined, with_values}
use Rattle.meta_verify.specs.Wrong.{Replies, Feeds}
use Rattle.meta_verify.specs.Verdict.{LeadTo, IsFirstWrong, IsVerdict, wrong_text}
use Rattle.meta_verify.specs.declared.reason.Reason.{Reason}
use Rattle.meta_verify.specs.declared.reason.Reason.TheVariants.{Bad}
use Rattle.meta_asm.specs.Reading.{Manners, IsShort}
use Rattle.meta_asm.specs.Listing.{text_of_lines, filled, AreShort, IsFirstUnread, IsShortened, IsSpelled}
use Rattle.meta_asm.specs.Form.{words_for}
use Rattle.meta_asm.specs.declared.form.Form.{Form}
use Rattle.meta_asm.specs.declared.form.Form.TheVariants.{Short, Explicit}

-- the words ask for at most one form
pub one_form : (words : List (List ℕ)) (a b : Form) → words ≡ words_for a → words ≡ words_for b → a ≡ b
one_form words Short Short e f = refl
one_form words Short Explicit e f = let same : codes "short" ∷ [] ≡ codes "explicit" ∷ [] = sym e ∙ f in absurd (cc)
one_form words Explicit Short e f = let same : codes "explicit" ∷ [] ≡ codes "short" ∷ [] = sym e ∙ f in absurd (cc)
one_form words Explicit Explicit e f = refl

module _ (R : Replies) (M : Manners) (stated : (line : List ℕ) (s t : Statement) → IsStatement line s → IsStatement line t → s ≡ t) where
  -- ---- the explicit form, if a text reads as at most one line

  module _ (one : (env : Environment) (text a b : List ℕ) → IsShort R M env a text → IsShort R M env b text → a ≡ b) where
    -- the lines that texts read as are one
    pub one_reading : (env e f : Environment) (ls ks texts : List (List ℕ)) → AreShort R M env ls texts e → AreShort R M env ks texts f
        → (ls ≡ ks) × (e ≡ f)
    one_reading env e f [] [] [] h g = (refl, h ∙ sym g)
    one_reading env e f [] (k ∷ ks) [] h g = absurd g
    one_reading env e f (l ∷ ls) ks [] h g = absurd h
    one_reading env e f [] ks (t ∷ ts) h g = absurd h
    one_reading env e f (l ∷ ls) [] (t ∷ ts) h g = absurd g
    one_reading env e f (l ∷ ls) (k ∷ ks) (t ∷ ts) (short, rest) (also, others) =
        let line : l ≡ k = one env t l k short also in
        let same = stated l short.statement also.statement short.right.0
        (subst (λ x. IsStatement x also.statement) (sym line) also.right.0) in
        let both = one_reading (with_values env (defined_by also.statement)) e f ls ks ts
        (subst (λ s. AreShort R M (with_values env (defined_by s)) ls ts e) same rest) others in
        (ap₂ ◌∷◌ line both.0, both.1)

    -- after the texts before it a text that isn't empty reads as a line
    pub record ReadsNext (env : Environment) (texts : List (List ℕ)) (n : ℕ) (text : List ℕ) : Type 0 where
      pub before : List (List ℕ)
      pub between : Environment
      pub short : AreShort R M env before (filled (take n texts)) between
      pub line : List ℕ
      pub reads : IsShort R M between line text

    each_reads : (env env' : Environment) (lines texts : List (List ℕ)) (n : ℕ) (text : List ℕ)
        → AreShort R M env lines (filled texts) env' → slice_get texts n ≡ Some text → text ≢ [] → ReadsNext env texts n text
    each_reads env env' lines [] n text h at some = absurd (cc)
    each_reads env env' lines ([] ∷ ts) zero text h at some = absurd (some (sym (same_Some [] text at)))
    each_reads env env' lines ([] ∷ ts) (suc n) text h at some =
        let more = each_reads env env' lines ts n text h at some in
        record { before = more.before; between = more.between; short = more.short; line = more.line; reads = more.reads }
    each_reads env env' [] ((c ∷ cs) ∷ ts) n text h at some = absurd h
    each_reads env env' (l ∷ ls) ((c ∷ cs) ∷ ts) zero text (short, rest) at some =
        record { before = []; between = env; short = refl; line = l; reads = subst (IsShort R M env l) (same_Some (c ∷ cs) text at) short }
    each_reads env env' (l ∷ ls) ((c ∷ cs) ∷ ts) (suc n) text (short, rest) at some =
        let more = each_reads (with_values env (defined_by short.statement)) env' ls ts n text rest at some in
        record { before = l ∷ more.before; between = more.between; short = (short, more.short); line = more.line; reads = more.reads }

    -- if all texts read as lines, there is no first text that reads as none
    pub reads_all : (lines texts : List (List ℕ)) (env : Environment) (n : ℕ) → AreShort R M nothing_defined lines (filled texts) env
        → IsFirstUnread R M texts n → ⊥
    reads_all lines texts env n h first =
        let next = each_reads nothing_defined env lines texts n first.text h first.at first.some in
        let same = one_reading nothing_defined first.before next.between first.lines next.before
        (filled (take n texts)) first.reads next.short in
        first.unread next.line (subst (λ e. IsShort R M e next.line first.text) (sym same.1) next.reads)

    -- neither of two such texts comes before the other
    none_earlier : (texts : List (List ℕ)) (n m : ℕ) → n < m → IsFirstUnread R M texts n → IsFirstUnread R M texts m → ⊥
    none_earlier texts n m l h g = reads_all g.lines (take m texts) g.before n g.reads (record {
      text = h.text;
      at = get_take texts m n l ∙ h.at;
      some = h.some;
      lines = h.lines;
      before = h.before;
      reads = subst (λ ts. AreShort R M nothing_defined h.lines (filled ts) h.before)
          (sym (take-take n m texts (omega (arith, l)))) h.reads;
      unread = h.unread;
    })

    one_unread : (texts : List (List ℕ)) (n m : ℕ) → IsFirstUnread R M texts n → IsFirstUnread R M texts m → n ≡ m
    one_unread texts n m h g = by_order (cases_order n m)
      where
        by_order : (n ≡ m) ⊎ ((n < m) ⊎ (m < n)) → n ≡ m
        by_order (inl e) = e
        by_order (inr (inl l)) = absurd (none_earlier texts n m l h g)
        by_order (inr (inr l)) = absurd (none_earlier texts m n l g h)

    pub one_spelled : (input : List ℕ) (a b : Bool) (s t : List ℕ) → IsSpelled R M input a s → IsSpelled R M input b t → (a ≡ b) × (s ≡ t)
    one_spelled input false false s t (lines, (e, reads), is) (others, (f, also), too) =
        (refl, is ∙ ap text_of_lines (one_reading nothing_defined e f lines others (filled (lines_of input)) reads also).0 ∙ sym too)
    one_spelled input false true s t (lines, (e, reads), is) (n, first, too) = absurd (reads_all lines (lines_of input) e n reads first)
    one_spelled input true false s t (n, first, is) (lines, (e, reads), too) = absurd (reads_all lines (lines_of input) e n reads first)
    one_spelled input true true s t (n, first, is) (m, also, too) =
        (refl, is ∙ ap (λ (k : ℕ). wrong_text (k + 1) Bad) (one_unread (lines_of input) n m first also) ∙ sym too)

  -- ---- the short form, if a line has at most one short form and one answer, and an input one verdict

  module _ (one : (env : Environment) (line a b : List ℕ) → IsShort R M env line a → IsShort R M env line b → a ≡ b)
      (one_fed : (env e f : Environment) (line : List ℕ) (a b : Option Reason) → Feeds R env line a e → Feeds R env line b f
      → (a ≡ b) × (e ≡ f))
      (one_verdict : (input : List ℕ) (a b : Bool) (s t : List ℕ) → IsVerdict R input a s → IsVerdict R input b t → (a ≡ b) × (s ≡ t)) where
    -- the short forms of lines are one
    one_writing : (env e f : Environment) (lines ts us : List (List ℕ)) → AreShort R M env lines ts e → AreShort R M env lines us f
        → ts ≡ us
    one_writing env e f [] [] [] h g = refl
    one_writing env e f [] [] (u ∷ us) h g = absurd g
    one_writing env e f [] (t ∷ ts) us h g = absurd h
    one_writing env e f (l ∷ ls) [] us h g = absurd h
    one_writing env e f (l ∷ ls) (t ∷ ts) [] h g = absurd g
    one_writing env e f (l ∷ ls) (t ∷ ts) (u ∷ us) (short, rest) (also, others) =
        let same = stated l short.statement also.statement short.right.0 also.right.0 in
        ap₂ ◌∷◌ (one env l t u short also) (one_writing (with_values env (defined_by also.statement)) e f ls ts us
        (subst (λ s. AreShort R M (with_values env (defined_by s)) ls ts e) same rest) others)

    -- if each line that isn't empty has a short form, no line is wrong
    none_wrong : (env env' before after : Environment) (lines texts : List (List ℕ)) (n : ℕ) (line : List ℕ) (reason : Reason)
        → AreShort R M env (filled lines) texts env'
        → slice_get lines n ≡ Some line → LeadTo R env (take n lines) before → Feeds R before line (Some reason) after → ⊥
    none_wrong env env' before after [] texts n line reason h at leads fed = absurd (cc)
    none_wrong env env' before after ([] ∷ ls) texts zero line reason h at leads fed =
        let empty : Feeds R before [] (Some reason) after =
        subst (λ l. Feeds R before l (Some reason) after) (sym (same_Some [] line at)) fed in
        let no : Some reason ≡ None = empty.0 in
        absurd (cc)
    none_wrong env env' before after ([] ∷ ls) texts (suc n) line reason h at (answer, between, (none, same), rest) fed =
        none_wrong env env' before after ls texts n line reason h at
        (subst (λ (e : Environment). LeadTo R e (take n ls) before) same rest) fed
    none_wrong env env' before after ((c ∷ cs) ∷ ls) [] n line reason h at leads fed = absurd h
    none_wrong env env' before after ((c ∷ cs) ∷ ls) (t ∷ ts) zero line reason (short, rest) at leads fed =
        let here : Feeds R before (c ∷ cs) (Some reason) after =
        subst (λ l. Feeds R before l (Some reason) after) (sym (same_Some (c ∷ cs) line at)) fed in
        let first : Feeds R env (c ∷ cs) (Some reason) after =
        subst (λ (e : Environment). Feeds R e (c ∷ cs) (Some reason) after) leads here in
        let no : None ≡ Some reason = (one_fed env (with_values env (defined_by short.statement)) after (c ∷ cs) None (Some reason)
        (short.statement, short.right, refl) first).0 in
        absurd (cc)
    none_wrong env env' before after ((c ∷ cs) ∷ ls) (t ∷ ts) (suc n) line reason (short, rest) at (answer, between, first, others) fed =
        let same = (one_fed env between (with_values env (defined_by short.statement)) (c ∷ cs) answer None first (
          short.statement,
          short.right,
          refl,
        )).1 in
        none_wrong (with_values env (defined_by short.statement)) env' before after ls ts n line reason rest at
        (subst (λ (e : Environment). LeadTo R e (take n ls) before) same others) fed

    short_not_wrong : (input : List ℕ) (texts : List (List ℕ)) (env : Environment) (n : ℕ) (reason : Reason)
        → AreShort R M nothing_defined (filled (lines_of input)) texts env → IsFirstWrong R (lines_of input) n reason → ⊥
    short_not_wrong input texts env n reason h first =
        let wrong = first.wrong in
        none_wrong nothing_defined env wrong.before wrong.after (lines_of input) texts n wrong.line reason h wrong.at wrong.leads wrong.fed

    pub one_shortened : (input : List ℕ) (a b : Bool) (s t : List ℕ) → IsShortened R M input a s → IsShortened R M input b t
        → (a ≡ b) × (s ≡ t)
    one_shortened input false false s t (texts, (e, short), is) (others, (f, also), too) =
        (refl, is ∙ ap text_of_lines (one_writing nothing_defined e f (filled (lines_of input)) texts others short also) ∙ sym too)
    one_shortened input false true s t (texts, (e, short), is) (n, reason, first, too) =
        absurd (short_not_wrong input texts e n reason short first)
    one_shortened input true false s t (n, reason, first, is) (texts, (e, short), too) =
        absurd (short_not_wrong input texts e n reason short first)
    one_shortened input true true s t h g = one_verdict input true true s t h g
