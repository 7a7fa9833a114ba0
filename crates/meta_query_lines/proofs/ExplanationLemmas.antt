-- The answers to what a line asks are the answers to the line.
use Rattle.std.proofs.Common.{◌≡◌, ℕ, ◌+◌, ◌<◌, ◌≤◌, zero, suc, inl, inr, List, ◌++◌, length, Option, Some, None, codes, refl}
use Rattle.std.proofs.Common.{ap, ◌∙◌, arith}
use Rattle.std.specs.Borrow.{Bor}
use Rattle.std.specs.Option.{option_map}
use Rattle.std.proofs.lemmas.Option.{slice_get_within}
use Rattle.meta_lists.proofs.Everywhere.{at_place}
use Rattle.meta_lists.proofs.Joined.{four}
use Rattle.meta_inst.specs.Built.{BuiltInstruction}
use Rattle.meta_inst.specs.Tables.{TableContents, OpcodeNumbers, at_opcode, result_count, value_count}
use Rattle.meta_gen.specs.Contents.{IsOpcode}
use Rattle.meta_gen.specs.Question.{Question}
use Rattle.meta_gen.specs.Reply.{reply_text}
use Rattle.meta_gen.specs.WellFormedOpcodes.{IsWellFormedOpcodes, IsWellFormedEntry}
use Rattle.meta_gen.specs.WholeTables.{WholeTables}
use Rattle.meta_gen.specs.declared.reply.Reply.{Reply}
use Rattle.meta_lines.specs.Words.{AreWords, pieces_of}
use Rattle.meta_query_lines.specs.Answer.{SettingReply, IsTableReply}
use Rattle.meta_query_lines.specs.Question.{IsQuestion}
use Rattle.meta_query_lines.specs.Query.{Asked, OfQuestion, OfInference, OfSetting, setting_words, Asks}
use Rattle.meta_query_lines.specs.Request.{Request, OfNames, Requests}
use Rattle.meta_query_lines.specs.RequestForm.{form_words, IsNamed}
use Rattle.meta_query_lines.specs.declared.request.RequestForm.TheVariants.{Names}
use Rattle.meta_query_lines.specs.Explanation.{IsWhy, AreNames, IsRequestTold, IsExplanation}
use Rattle.meta_query_lines.proofs.RequestLemmas.{requests_all, requests_names}

-- seven texts are added
pub seven : {X : Type 0} (old a b c d e f g : List X) {t u v w x y z : List X} → t ≡ old ++ a → u ≡ t ++ b → v ≡ u ++ c → w ≡ v ++ d
    → x ≡ w ++ e → y ≡ x ++ f → z ≡ y ++ g → z ≡ old ++ (a ++ (b ++ (c ++ (d ++ (e ++ (f ++ g))))))
seven old a b c d e f g {t} {u} {v} h i j k l m n = four old a b c (d ++ (e ++ (f ++ g))) h i j (four v d e f g k l m n)

-- ---- lines

module _ (tables : WholeTables) (told : Option (List BuiltInstruction)) (line old new : List ℕ) where
  -- a text that answers the line was added
  abbrev pub IsAdded : Type 0
  IsAdded = (text : List ℕ) × IsExplanation tables told line text × (new ≡ old ++ text)

  pub of_question : (q : Question) → IsQuestion line q → (text : List ℕ) × IsWhy tables.opcodes told q text × (new ≡ old ++ text) → IsAdded
  of_question q asks h = (h.0, inl (OfQuestion q, asks, h.1), h.2)

  pub of_request : (r : Request) → Requests line r → (text : List ℕ) × IsRequestTold tables.opcodes told r text × (new ≡ old ++ text) → IsAdded
  of_request r requests h = (h.0, inr (inl (r, requests, h.1)), h.2)

  pub of_nothing : ((q : Asked) → Asks line q → ⊥) → ((r : Request) → Requests line r → ⊥) → new ≡ old ++ codes "bad" → IsAdded
  of_nothing asks requests e = (codes "bad", inr (inr (asks, requests, refl)), e)

  -- what `query` replies to a line that asks no question
  pub of_reply : ((q : Question) → IsQuestion line q → ⊥) → ((r : Request) → Requests line r → ⊥)
      → (reply : Reply) × IsTableReply tables line reply × (new ≡ old ++ reply_text reply) → IsAdded
  of_reply no_question no_request (reply, inl (OfQuestion q, asks, h), e) = absurd (no_question q asks)
  of_reply no_question no_request (reply, inl (OfInference q, asks, h), e) =
      (reply_text reply, inl (OfInference q, asks, (reply, h, refl)), e)
  of_reply no_question no_request (reply, inl (OfSetting name, asks, h), e) =
      (reply_text reply, inl (OfSetting name, asks, (reply, h, refl)), e)
  of_reply no_question no_request (reply, inr (bad, none), e) = of_nothing none no_request (e ∙ ap (λ r. old ++ reply_text r) bad)

  pub of_setting_reply : (name : List ℕ) → AreWords line (setting_words name)
      → (reply : Reply) × SettingReply tables name reply × (new ≡ old ++ reply_text reply) → IsAdded
  of_setting_reply name words (reply, h, e) = (reply_text reply, inl (OfSetting name, words, (reply, h, refl)), e)

  -- names of which the form of the line asks
  pub of_names : (name : Option (Bor (List ℕ))) → pieces_of 32 line ≡ form_words (Names name) → IsNamed (Names name)
      → (text : List ℕ) × AreNames tables.opcodes told (option_map (λ n. n.now) name) text × (new ≡ old ++ text) → IsAdded
  of_names None pieces named h = of_request (OfNames None) (requests_all line pieces) h
  of_names (Some name) pieces named h = of_request (OfNames (Some name.now)) (requests_names line name.now pieces named) h

-- ---- opcodes

-- what has a name is an opcode
pub named_opcode : (tables : TableContents) (op : ℕ) (name : List ℕ) → length tables.names ≡ length tables.entries
    → at_opcode tables.names op ≡ Some name → IsOpcode tables op
named_opcode tables zero name count at = absurd (cc)
named_opcode tables (suc k) name count at =
    let within = slice_get_within tables.names k name at in
    (omega arith, omega (arith, within, count))

-- so is what has a format
pub formatted_opcode : (tables : TableContents) (op : ℕ) (name : List ℕ) → IsWellFormedOpcodes tables
    → at_opcode tables.formats op ≡ Some name → IsOpcode tables op
formatted_opcode tables zero name well at = absurd (cc)
formatted_opcode tables (suc k) name well at =
    let within = slice_get_within tables.formats k name at in
    let count = well.parts.formatted in
    (omega arith, omega (arith, within, count))

-- the constraints of an opcode stand in the list
pub within_list : (tables : TableContents) (op : ℕ) (e : OpcodeNumbers) → IsWellFormedOpcodes tables → at_opcode tables.entries op ≡ Some e
    → e.constraint_offset + (result_count e.flags + value_count e.flags) ≤ length tables.operand_constraints
within_list tables zero e well at = absurd (cc)
within_list tables (suc k) e well at =
    (at_place (IsWellFormedEntry (length tables.type_sets) (length tables.operand_constraints)) tables.entries k e well.parts.entries at).within

-- the counts that flags hold are small
pub few_results : (flags : ℕ) → result_count flags < 8
few_results flags = omega arith

pub few_values : (flags : ℕ) → value_count flags < 8
few_values flags = omega arith
