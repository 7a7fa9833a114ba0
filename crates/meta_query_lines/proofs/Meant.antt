-- What tables answer is what the declarations mean that they were made for.
use Rattle.std.proofs.Common.{◌≡◌, ◌↔◌, ◌+◌, inl, inr, ℕ, List, [], ◌∷◌, slice_get, Option, Some, sym, ap, ◌∙◌, subst, arith}
use Rattle.std.specs.Option.{option_map}
use Rattle.std.proofs.lemmas.Option.{same_Some}
use Rattle.meta_lists.proofs.Places.{get_beside}
use Rattle.meta_types.specs.TypeParts.{number_of}
use Rattle.meta_inst.specs.Builder.{Builder}
use Rattle.meta_inst.specs.InstructionSet.{InstructionSet, root_sets, instruction_in_set}
use Rattle.meta_inst.specs.Faults.{IsAt}
use Rattle.meta_inst.specs.Inference.{Infers, GivesResults}
use Rattle.meta_inst.specs.Tables.{TableContents, Allows}
use Rattle.meta_gen.specs.TablesOf.{AreTablesOf, AcceptsOpcode}
use Rattle.meta_gen.specs.Inferred.{InfersOpcode}
use Rattle.meta_build.specs.AllDeclared.{Declared}
use Rattle.meta_gen.specs.WholeTables.{WholeTables, AreTablesOfGroups, AreWholeTablesOf}
use Rattle.meta_settings.specs.GroupDeclaration.{GroupDeclaration}
use Rattle.meta_gen.specs.Question.{Question}
use Rattle.meta_gen.proofs.Meant.{HasTypes, same_type, number_is, opcode_named, opcode_is, accepted}
use Rattle.meta_query_lines.specs.Question.{IsQuestion}
use Rattle.meta_query_lines.specs.Inference.{Inference, IsInference}
use Rattle.meta_query_lines.specs.Query.{Asked, OfQuestion, OfInference, OfSetting, Asks}
use Rattle.meta_query_lines.specs.Answer.{GivesAsked, GivenReply, InfersAsked, InferredReply, IsLineInTables}
use Rattle.meta_query_lines.specs.Answer.{SettingReply, TablesReply, IsTableReply, IsLineOfEntry, EntryReply}
use Rattle.meta_query_lines.specs.Answer.{DeclaredReply, IsReply, IsWrittenAnswer, AreWrittenAnswers}
use Rattle.meta_gen.specs.declared.reply.Reply.{Reply}
use Rattle.meta_gen.specs.declared.reply.Reply.TheVariants.{Accept, Refuse, Unknown, Bad, Results, Setting}
use Rattle.meta_query_lines.proofs.SettingLines.{same_line}

-- ---- what is inferred

module _ (d : InstructionSet) (tables : TableContents) (made : AreTablesOf d tables)
    (infers : (op : ℕ) (c e : Option ℕ) (numbers : List ℕ) → (GivesResults tables op c e numbers ↔ InfersOpcode d op c e numbers)) where
  module _ (line : List ℕ) (q : Inference) (asks : IsInference line q) (k : ℕ) (b : Builder) (at : IsAt d k b)
      (op : ℕ) (number : op ≡ k + 1) (numbers : List ℕ) where
    infers_asked : GivesAsked tables op q numbers → InfersAsked d b q numbers
    infers_asked gives =
        let h = (infers op (option_map number_of q.control) (option_map number_of q.second) numbers).0 gives in
        let place : h.place ≡ k = (let e = h.number in omega arith) in
        let same : h.builder ≡ b = same_Some h.builder b (sym h.at ∙ ap (slice_get d.instructions) place ∙ at) in
        let ec = same_type q.control h.infers.control_type asks.control h.infers.control_number in
        let ed = same_type q.second h.infers.second_type asks.second h.infers.second_number in
        subst (λ b. InfersAsked d b q numbers) same (record {
          control = h.control;
          is_control = h.is_control;
          infers = subst (λ c. Infers (root_sets d) (instruction_in_set d h.builder) h.control c q.second numbers)
              (sym ec) (subst (λ e. Infers (root_sets d)
              (instruction_in_set d h.builder) h.control h.infers.control_type e numbers) (sym ed) h.infers.infers);
        })

    gives_asked : InfersAsked d b q numbers → GivesAsked tables op q numbers
    gives_asked h =
        (infers op (option_map number_of q.control) (option_map number_of q.second) numbers).1 (record {
          place = k;
          builder = b;
          at = at;
          number = number;
          control = h.control;
          is_control = h.is_control;
          infers = record {
            control_type = q.control;
            second_type = q.second;
            control_number = number_is q.control asks.control;
            second_number = number_is q.second asks.second;
            infers = h.infers;
          };
        })

  -- what the tables give is what the instruction infers
  inference_means : (line : List ℕ) (q : Inference) → IsInference line q → (reply : Reply) → GivenReply tables q reply
      → InferredReply d q reply
  inference_means line q asks Accept h = h
  inference_means line q asks Refuse (op, named, none) =
      let (k, b, number, at, is) = opcode_is d tables made op q.name named.holds in
      (b, record { place = k; at = at; named = is }, λ numbers h. none numbers (gives_asked line q asks k b at op number numbers h))
  inference_means line q asks Unknown never = λ k b at e. never (k + 1) (opcode_named d tables made k b at ∙ ap (λ n. Some n) e)
  inference_means line q asks Bad h = h
  inference_means line q asks (Results text) (op, named, numbers, gives, tells) =
      let (k, b, number, at, is) = opcode_is d tables made op q.name named.holds in
      (b, record { place = k; at = at; named = is }, numbers, infers_asked line q asks k b at op number numbers gives, tells)
  inference_means line q asks (Setting text) h = h

-- ---- settings

module _ (groups : List GroupDeclaration) (tables : WholeTables) (made : AreTablesOfGroups groups tables.groups) where
  -- the line of the entry of the tables is that of the entry of the declared group
  line_means : (name line : List ℕ) → IsLineInTables tables name line → IsLineOfEntry groups name line
  line_means name line h =
      let (g, at) = get_beside tables.groups groups 0 h.group made.count h.group_is in
      let own = made.each 0 g h.group at h.group_is in
      record {
        group = g;
        group_is = at;
        entry = h.entry;
        named = ap (λ names. slice_get names h.entry) (sym own.names) ∙ h.named.holds;
        line_is = same_line g h.group own h.entry h.descriptor h.there ∙ ap (λ l. Some l) (sym h.line_is);
      }

  -- what the tables reply to the name of a setting is what the declared group means
  setting_means : (name : List ℕ) (reply : Reply) → SettingReply tables name reply → EntryReply groups name reply
  setting_means name Accept h = h
  setting_means name Refuse h = h
  setting_means name Unknown h = λ g at e named.
      let (t, there) = get_beside groups tables.groups 0 g (sym made.count) at in
      h t there e (ap (λ names. slice_get names e) (made.each 0 g t at there).names ∙ named)
  setting_means name Bad h = h
  setting_means name (Results text) h = h
  setting_means name (Setting line) h = line_means name line h

-- ---- all that a line asks

-- the types that a line asks of can be named
has_types : (line : List ℕ) (q : Question) → IsQuestion line q → HasTypes q
has_types line q h = record { control = h.control; second = h.second; results = h.results; values = h.values }

module _ (d : Declared) (tables : WholeTables) (made : AreWholeTablesOf d tables)
    (means : (op : ℕ) (c e : Option ℕ) (rs vs : List ℕ)
    → (Allows tables.opcodes op c e rs vs ↔ AcceptsOpcode d.set op c e rs vs))
    (infers : (op : ℕ) (c e : Option ℕ) (numbers : List ℕ)
    → (GivesResults tables.opcodes op c e numbers ↔ InfersOpcode d.set op c e numbers)) where
  query_means : (line : List ℕ) (q : Asked) → Asks line q → (reply : Reply) → TablesReply tables q reply → DeclaredReply d q reply
  query_means line (OfQuestion q) asks reply h = accepted d.set tables.opcodes made.opcodes means q (has_types line q asks) reply h
  query_means line (OfInference q) asks reply h = inference_means d.set tables.opcodes made.opcodes infers line q asks reply h
  query_means line (OfSetting name) asks reply h = setting_means d.groups tables made.groups name reply h

  -- the reply of the tables is that of the declarations
  pub reply_means : (line : List ℕ) (reply : Reply) → IsTableReply tables line reply → IsReply d line reply
  reply_means line reply (inl (q, asks, h)) = inl (q, asks, query_means line q asks reply h)
  reply_means line reply (inr h) = inr h

  answer_means : (line text : List ℕ) → IsWrittenAnswer (IsTableReply tables) line text → IsWrittenAnswer (IsReply d) line text
  answer_means [] text h = h
  answer_means (c ∷ cs) text (reply, is, e) = (reply, reply_means (c ∷ cs) reply is, e)

  -- what the tables answer to lines is what the declarations mean
  pub answers_mean : (lines : List (List ℕ)) (out : List ℕ) → AreWrittenAnswers (IsTableReply tables) lines out
      → AreWrittenAnswers (IsReply d) lines out
  answers_mean [] out h = h
  answers_mean (line ∷ lines) out (first, rest, is, others, e) =
      (first, rest, answer_means line first is, answers_mean lines rest others, e)
