-- Valid declarations answer an input with at most one output.
use Rattle.std.proofs.Common.{◌≡◌, inl, inr, ℕ, List, slice_get, Some, refl, sym, ap, ◌∙◌, subst}
use Rattle.std.proofs.lemmas.Option.{same_Some}
use Rattle.meta_inst.specs.Builder.{Builder}
use Rattle.meta_inst.specs.InstructionSet.{InstructionSet, root_sets, instruction_in_set}
use Rattle.meta_inst.proofs.OneControl.{same_control}
use Rattle.meta_inst.proofs.ValidControls.{good_second, well_derived}
use Rattle.meta_inst.specs.Inference.{Infers}
use Rattle.meta_gen.proofs.Derivations.{no_bad_place}
use Rattle.meta_query_lines.proofs.OneInference.{same_inferred}
use Rattle.meta_types.specs.SharedNames.{AreDifferentNames}
use Rattle.meta_inst.specs.Faults.{IsValid}
use Rattle.meta_lines.specs.Lines.{lines_of}
use Rattle.meta_settings.specs.GroupDeclaration.{GroupDeclaration}
use Rattle.meta_settings.specs.GroupFaults.{IsValidGroup}
use Rattle.meta_settings.specs.LaidOut.{built_of}
use Rattle.meta_setting_tables.specs.FoundSetting.{entry_names}
use Rattle.meta_build.specs.AllDeclared.{Declared, AreValidGroups, AreValid}
use Rattle.meta_query_lines.specs.Inference.{Inference, IsResultsLine}
use Rattle.meta_query_lines.specs.Query.{Asked, OfQuestion, OfInference, OfSetting}
use Rattle.meta_query_lines.specs.SettingLine.{entry_lines}
use Rattle.meta_gen.specs.Reply.{IsAskedFor}
use Rattle.meta_query_lines.specs.Answer.{InfersAsked, InferredReply, IsLineOfEntry, EntryReply, DeclaredReply, IsReply, IsOutput}
use Rattle.meta_gen.specs.declared.reply.Reply.{Reply}
use Rattle.meta_gen.specs.declared.reply.Reply.TheVariants.{Accept, Refuse, Unknown, Bad, Results, Setting}
use Rattle.meta_query_lines.proofs.QueryLemmas.{one_query}
use Rattle.meta_query_lines.proofs.InferenceLemmas.{one_results_line}
use Rattle.meta_gen.proofs.OneReply.{one_asked, not_unknown, one_accepted}
use Rattle.meta_query_lines.proofs.OneList.{one_list}

-- ---- a question has what is inferred at most once

module _ (d : InstructionSet) (valid : IsValid d) where
  -- what is inferred isn't refused
  not_refused : (q : Inference) (b c : Builder) → IsAskedFor d q.name b → IsAskedFor d q.name c → (numbers : List ℕ)
      → InfersAsked d b q numbers → ((numbers : List ℕ) → InfersAsked d c q numbers → ⊥) → ⊥
  not_refused q b c h g numbers infers none =
      none numbers (subst (λ b. InfersAsked d b q numbers) (one_asked d valid q.name b c h g) infers)

  -- the numbers of one instruction are inferred once
  one_inferred : (q : Inference) (b c : Builder) → IsAskedFor d q.name b → IsAskedFor d q.name c
      → (numbers others : List ℕ) → InfersAsked d b q numbers → InfersAsked d c q others → numbers ≡ others
  one_inferred q b c h g numbers others i j =
      let own : InfersAsked d b q others = subst (λ b. InfersAsked d b q others) (sym (one_asked d valid q.name b c h g)) j in
      let same = same_control (root_sets d) (instruction_in_set d b) own.control i.control own.is_control i.is_control in
      same_inferred (root_sets d) (instruction_in_set d b) i.control q.control q.second i.is_control (good_second d valid h.place b h.at)
      (no_bad_place (root_sets d) (instruction_in_set d b) i.control i.is_control (well_derived d valid h.place b h.at))
      numbers others i.infers (subst (λ x. Infers (root_sets d) (instruction_in_set d b) x q.control q.second others) same own.infers)

  one_given : (q : Inference) (r s : Reply) → InferredReply d q r → InferredReply d q s → r ≡ s
  one_given q Refuse Refuse h g = refl
  one_given q Refuse Unknown (b, asked, none) unknown = absurd (not_unknown d valid q.name b asked unknown)
  one_given q Refuse (Results line) (c, other, none) (b, asked, numbers, infers, is) =
      absurd (not_refused q b c asked other numbers infers none)
  one_given q Unknown Refuse unknown (b, asked, none) = absurd (not_unknown d valid q.name b asked unknown)
  one_given q Unknown Unknown h g = refl
  one_given q Unknown (Results line) unknown (b, asked, numbers, infers, is) = absurd (not_unknown d valid q.name b asked unknown)
  one_given q (Results line) Refuse (b, asked, numbers, infers, is) (c, other, none) =
      absurd (not_refused q b c asked other numbers infers none)
  one_given q (Results line) Unknown (b, asked, numbers, infers, is) unknown = absurd (not_unknown d valid q.name b asked unknown)
  one_given q (Results line) (Results text) (b, asked, numbers, infers, is) (c, other, ns, infer, tells) =
      let same = one_inferred q b c asked other numbers ns infers infer in
      ap (λ l. Results l) (one_results_line ns line text (subst (λ n. IsResultsLine n line) same is) tells)
  one_given q r Accept h g = absurd g
  one_given q r Bad h g = absurd g
  one_given q r (Setting line) h g = absurd g
  one_given q Accept s h g = absurd h
  one_given q Bad s h g = absurd h
  one_given q (Setting line) s h g = absurd h

-- ---- so has the name of a setting

module _ (apart : (g : GroupDeclaration) → IsValidGroup g → AreDifferentNames (entry_names (built_of g)))
    (groups : List GroupDeclaration) (valid : AreValidGroups groups) (name : List ℕ) where
  one_line : (a b : List ℕ) → IsLineOfEntry groups name a → IsLineOfEntry groups name b → a ≡ b
  one_line a b h g =
      let group : h.group ≡ g.group = same_Some h.group g.group (sym h.group_is ∙ g.group_is) in
      let named : slice_get (entry_names (built_of g.group)) h.entry ≡ Some name =
      subst (λ (d : GroupDeclaration). slice_get (entry_names (built_of d)) h.entry ≡ Some name) group h.named in
      let line : slice_get (entry_lines (built_of g.group)) h.entry ≡ Some a =
      subst (λ (d : GroupDeclaration). slice_get (entry_lines (built_of d)) h.entry ≡ Some a) group h.line_is in
      let entry : h.entry ≡ g.entry = apart g.group (valid 0 g.group g.group_is) h.entry g.entry name named g.named in
      same_Some a b (sym line ∙ ap (slice_get (entry_lines (built_of g.group))) entry ∙ g.line_is)

  one_entry : (r s : Reply) → EntryReply groups name r → EntryReply groups name s → r ≡ s
  one_entry Unknown Unknown h g = refl
  one_entry Unknown (Setting line) h g = absurd (h g.group g.group_is g.entry g.named)
  one_entry (Setting line) Unknown h g = absurd (g h.group h.group_is h.entry h.named)
  one_entry (Setting line) (Setting other) h g = ap (λ l. Setting l) (one_line line other h g)
  one_entry r Accept h g = absurd g
  one_entry r Refuse h g = absurd g
  one_entry r Bad h g = absurd g
  one_entry r (Results line) h g = absurd g
  one_entry Accept s h g = absurd h
  one_entry Refuse s h g = absurd h
  one_entry Bad s h g = absurd h
  one_entry (Results line) s h g = absurd h

-- ---- so the lines have one answer

module _ (apart : (g : GroupDeclaration) → IsValidGroup g → AreDifferentNames (entry_names (built_of g)))
    (d : Declared) (valid : AreValid d) where
  one_declared : (q : Asked) (r s : Reply) → DeclaredReply d q r → DeclaredReply d q s → r ≡ s
  one_declared (OfQuestion q) r s h g = one_accepted d.set valid.set q r s h g
  one_declared (OfInference q) r s h g = one_given d.set valid.set q r s h g
  one_declared (OfSetting name) r s h g = one_entry apart d.groups valid.groups name r s h g

  one_reply : (line : List ℕ) (r s : Reply) → IsReply d line r → IsReply d line s → r ≡ s
  one_reply line r s (inl (q, asks, h)) (inl (p, others, g)) =
      one_declared q r s h (subst (λ q. DeclaredReply d q s) (one_query line p q others asks) g)
  one_reply line r s (inl (q, asks, h)) (inr (bad, none)) = absurd (none q asks)
  one_reply line r s (inr (bad, none)) (inl (q, asks, h)) = absurd (none q asks)
  one_reply line r s (inr (bad, none)) (inr (too, nothing)) = bad ∙ sym too

-- Valid declarations answer an input with one output at most, where no two entries of a valid group have the same name.
pub same_output : ((g : GroupDeclaration) → IsValidGroup g → AreDifferentNames (entry_names (built_of g)))
    → (d : Declared) (input a b : List ℕ) → AreValid d → IsOutput d input a → IsOutput d input b → a ≡ b
same_output apart d input a b valid h g = one_list (IsReply d) (one_reply apart d valid) (lines_of input) a b h g
