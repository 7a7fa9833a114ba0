-- Tables reply to a line in one way, and so they answer lines in one way.
use Rattle.std.proofs.Common.{◌≡◌, inl, inr, ℕ, ◌+◌, List, length, slice_get, Option, Some, refl, sym, ap, ap₂, ◌∙◌, subst}
use Rattle.std.proofs.lemmas.Option.{same_Some}
use Rattle.meta_lists.proofs.Places.{get_there, get_beside, same_places}
use Rattle.meta_lists.specs.First.{IsFirst}
use Rattle.meta_lists.proofs.First.{one_first}
use Rattle.meta_types.specs.TypeParts.{number_of}
use Rattle.meta_types.specs.Function.{Function, IsRelation, StepsTypes, AnswersNumber}
use Rattle.meta_types.proofs.Numbers.{one_number}
use Rattle.meta_types.proofs.OneAnswer.{one}
use Rattle.meta_inst.specs.Which.{Which, both}
use Rattle.meta_inst.specs.Tables.{TableContents, NumberConstraint, ConcreteNumber, FreeOf, SameNumber, ByNumber, OpcodeNumbers}
use Rattle.meta_inst.specs.Tables.{result_count}
use Rattle.meta_inst.specs.Inference.{GivesBy, GivesNumber, GivesAt, GivesResults}
use Rattle.meta_gen.specs.Contents.{IsOpcodeNamed}
use Rattle.meta_setting_tables.specs.GroupTables.{GroupContents, names_in}
use Rattle.meta_setting_tables.specs.FoundSetting.{IsEntryNamed}
use Rattle.meta_gen.specs.WholeTables.{WholeTables}
use Rattle.meta_query_lines.specs.Inference.{Inference, IsResultsLine}
use Rattle.meta_query_lines.specs.Query.{Asked, OfQuestion, OfInference, OfSetting}
use Rattle.meta_query_lines.specs.SettingLine.{line_in}
use Rattle.meta_query_lines.specs.Answer.{GivesAsked, GivenReply, IsLineInTables, SettingReply, TablesReply, IsTableReply}
use Rattle.meta_query_lines.specs.Answer.{AreWrittenAnswers}
use Rattle.meta_gen.specs.declared.reply.Reply.{Reply}
use Rattle.meta_gen.specs.declared.reply.Reply.TheVariants.{Accept, Refuse, Unknown, Bad, Results, Setting}
use Rattle.meta_query_lines.proofs.QueryLemmas.{one_query}
use Rattle.meta_query_lines.proofs.InferenceLemmas.{one_results_line}
use Rattle.meta_gen.proofs.OneReply.{one_allowed}
use Rattle.meta_query_lines.proofs.OneList.{one_list}

-- ---- a constraint gives one number

-- a function answers one number for one number
one_answered : (f : Function) (u m n : ℕ) → AnswersNumber f u m → AnswersNumber f u n → m ≡ n
one_answered f u m n a b =
    let from = one_number a.steps.from b.steps.from a.steps.steps.from b.steps.steps.from (a.steps.number_from ∙ sym b.steps.number_from) in
    let to = one f b.steps.from a.steps.to b.steps.to (record {
      is_function = a.is_function;
      steps = subst (λ v. StepsTypes f v a.steps.to) from a.steps.steps;
    }) (record { is_function = b.is_function; steps = b.steps.steps }) in
    sym a.steps.number_to ∙ ap number_of to ∙ b.steps.number_to

-- a relation is no function
no_relation : (f : Function) (u n : ℕ) → IsRelation f → AnswersNumber f u n → ⊥
no_relation f u n (inl e) a = a.is_function.0 e
no_relation f u n (inr e) a = a.is_function.1 e

one_by : (from : Option ℕ) (f : Function) (m n : ℕ) → GivesBy from f m → GivesBy from f n → m ≡ n
one_by from f m n (inl (r, e)) (inl (q, g)) = e ∙ sym g
one_by from f m n (inl (r, e)) (inr (u, is, a)) = absurd (no_relation f u n r a)
one_by from f m n (inr (u, is, a)) (inl (r, e)) = absurd (no_relation f u m r a)
one_by from f m n (inr (u, is, a)) (inr (v, too, b)) =
    one_answered f v m n (subst (λ x. AnswersNumber f x m) (same_Some u v (sym is ∙ too)) a) b

one_gives : (c : Which → Option ℕ) (x : NumberConstraint) (m n : ℕ) → GivesNumber c x m → GivesNumber c x n → m ≡ n
one_gives c (ConcreteNumber k) m n h g = h ∙ sym g
one_gives c (FreeOf j) m n h g = h ∙ sym g
one_gives c (SameNumber a) m n h g = same_Some m n (sym h ∙ g)
one_gives c (ByNumber a f) m n h g = one_by (c a) f m n h g

one_at : (t : TableContents) (c : Which → Option ℕ) (place m n : ℕ) → GivesAt t c place m → GivesAt t c place n → m ≡ n
one_at t c place m n h g =
    let same = same_Some h.constraint g.constraint (sym h.is_constraint ∙ g.is_constraint) in
    one_gives c g.constraint m n (subst (λ x. GivesNumber c x m) same h.gives) g.gives

-- so an opcode gives one list of numbers
same_numbers : (t : TableContents) (op : ℕ) (c d : Option ℕ) (numbers others : List ℕ) → GivesResults t op c d numbers
    → GivesResults t op c d others → numbers ≡ others
same_numbers t op c d numbers others h g = same_places numbers others count (λ j l.
    let (m, m_at) = get_there numbers j l in
    let (n, n_at) = get_beside numbers others j m count m_at in
    let given = subst (λ (e : OpcodeNumbers). GivesAt t (both c d) (e.constraint_offset + j) m) entry (h.each j m m_at) in
    m_at ∙ ap Some (one_at t (both c d) (g.entry.constraint_offset + j) m n given (g.each j n n_at)) ∙ sym n_at)
  where
    entry : h.entry ≡ g.entry
    entry = same_Some h.entry g.entry (sym h.is_opcode ∙ g.is_opcode)

    count : length numbers ≡ length others
    count = h.count ∙ ap (λ (e : OpcodeNumbers). result_count e.flags) entry ∙ sym g.count

module _ (t : WholeTables) where
  -- ---- a question has what is inferred at most once

  not_refused : (q : Inference) (m n : ℕ) → m ≡ n → (numbers : List ℕ) → GivesAsked t.opcodes m q numbers
      → ((numbers : List ℕ) → GivesAsked t.opcodes n q numbers → ⊥) → ⊥
  not_refused q m n same numbers gives none = none numbers (subst (λ op. GivesAsked t.opcodes op q numbers) same gives)

  one_given : (q : Inference) (r s : Reply) → GivenReply t.opcodes q r → GivenReply t.opcodes q s → r ≡ s
  one_given q Refuse Refuse h g = refl
  one_given q Refuse Unknown (m, first, none) unknown = absurd (unknown m first.holds)
  one_given q Refuse (Results line) (n, other, none) (m, first, numbers, gives, is) =
      absurd (not_refused q m n (one_first (IsOpcodeNamed t.opcodes.names q.name) m n first other) numbers gives none)
  one_given q Unknown Refuse unknown (m, first, none) = absurd (unknown m first.holds)
  one_given q Unknown Unknown h g = refl
  one_given q Unknown (Results line) unknown (m, first, numbers, gives, is) = absurd (unknown m first.holds)
  one_given q (Results line) Refuse (m, first, numbers, gives, is) (n, other, none) =
      absurd (not_refused q m n (one_first (IsOpcodeNamed t.opcodes.names q.name) m n first other) numbers gives none)
  one_given q (Results line) Unknown (m, first, numbers, gives, is) unknown = absurd (unknown m first.holds)
  one_given q (Results line) (Results text) (m, first, numbers, gives, is) (n, other, ns, give, tells) =
      let op = one_first (IsOpcodeNamed t.opcodes.names q.name) m n first other in
      let same = same_numbers t.opcodes n _ _ numbers ns (subst (λ op. GivesAsked t.opcodes op q numbers) op gives) give in
      ap (λ l. Results l) (one_results_line ns line text (subst (λ n. IsResultsLine n line) same is) tells)
  one_given q r Accept h g = absurd g
  one_given q r Bad h g = absurd g
  one_given q r (Setting line) h g = absurd g
  one_given q Accept s h g = absurd h
  one_given q Bad s h g = absurd h
  one_given q (Setting line) s h g = absurd h

  -- ---- so has the name of a setting

  one_line : (name a b : List ℕ) → IsLineInTables t name a → IsLineInTables t name b → a ≡ b
  one_line name a b h g =
      let group : h.group ≡ g.group = same_Some h.group g.group (sym h.group_is ∙ g.group_is) in
      let named = subst (λ (x : GroupContents). IsFirst (IsEntryNamed (names_in x.descriptors) name) h.entry) group h.named in
      let entry : h.entry ≡ g.entry = one_first (IsEntryNamed (names_in g.group.descriptors) name) h.entry g.entry named g.named in
      let there : slice_get g.group.descriptors h.entry ≡ Some h.descriptor =
      subst (λ (x : GroupContents). slice_get x.descriptors h.entry ≡ Some h.descriptor) group h.there in
      let descriptor : h.descriptor ≡ g.descriptor = same_Some h.descriptor g.descriptor
      (sym there ∙ ap (slice_get g.group.descriptors) entry ∙ g.there) in
      h.line_is ∙ ap₂ line_in group descriptor ∙ sym g.line_is

  known : (name line : List ℕ) → IsLineInTables t name line → SettingReply t name Unknown → ⊥
  known name line h unknown = unknown h.group h.group_is h.entry h.named.holds

  one_entry : (name : List ℕ) (r s : Reply) → SettingReply t name r → SettingReply t name s → r ≡ s
  one_entry name Unknown Unknown h g = refl
  one_entry name Unknown (Setting line) h g = absurd (known name line g h)
  one_entry name (Setting line) Unknown h g = absurd (known name line h g)
  one_entry name (Setting line) (Setting other) h g = ap (λ l. Setting l) (one_line name line other h g)
  one_entry name r Accept h g = absurd g
  one_entry name r Refuse h g = absurd g
  one_entry name r Bad h g = absurd g
  one_entry name r (Results line) h g = absurd g
  one_entry name Accept s h g = absurd h
  one_entry name Refuse s h g = absurd h
  one_entry name Bad s h g = absurd h
  one_entry name (Results line) s h g = absurd h

  pub one_of_tables : (q : Asked) (r s : Reply) → TablesReply t q r → TablesReply t q s → r ≡ s
  one_of_tables (OfQuestion q) r s h g = one_allowed t.opcodes q r s h g
  one_of_tables (OfInference q) r s h g = one_given q r s h g
  one_of_tables (OfSetting name) r s h g = one_entry name r s h g

  -- ---- so the lines have one answer

  one_reply : (line : List ℕ) (r s : Reply) → IsTableReply t line r → IsTableReply t line s → r ≡ s
  one_reply line r s (inl (q, asks, h)) (inl (p, others, g)) =
      one_of_tables q r s h (subst (λ q. TablesReply t q s) (one_query line p q others asks) g)
  one_reply line r s (inl (q, asks, h)) (inr (bad, none)) = absurd (none q asks)
  one_reply line r s (inr (bad, none)) (inl (q, asks, h)) = absurd (none q asks)
  one_reply line r s (inr (bad, none)) (inr (too, nothing)) = bad ∙ sym too

  -- Tables answer lines with at most one text.
  pub same_answers : (lines : List (List ℕ)) (a b : List ℕ) → AreWrittenAnswers (IsTableReply t) lines a
      → AreWrittenAnswers (IsTableReply t) lines b → a ≡ b
  same_answers lines a b h g = one_list (IsTableReply t) one_reply lines a b h g
