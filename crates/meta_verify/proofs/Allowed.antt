-- What valid declarations reply to a question, their tables reply too.
use Rattle.std.proofs.Common.{◌≡◌, ◌↔◌, ℕ, ◌+◌, List, map, Option, None, Some, IfSome, refl, ap, ◌∙◌, subst, arith}
use Rattle.std.specs.Option.{option_map}
use Rattle.meta_lists.specs.First.{IsFirst}
use Rattle.meta_types.specs.TypeParts.{TypeParts, IsType, number_of}
use Rattle.meta_inst.specs.Builder.{Builder}
use Rattle.meta_inst.specs.Faults.{IsAt, IsValid}
use Rattle.meta_inst.specs.InstructionSet.{InstructionSet}
use Rattle.meta_inst.specs.Acceptance.{IsNumberOf}
use Rattle.meta_inst.specs.Tables.{TableContents, Allows}
use Rattle.meta_gen.specs.Contents.{IsOpcodeNamed}
use Rattle.meta_gen.specs.TablesOf.{AreTablesOf, AcceptsOpcode}
use Rattle.meta_lists.proofs.Everywhere.{at_place}
use Rattle.meta_build.proofs.DifferentNames.{different_names}
use Rattle.meta_gen.specs.Question.{Question}
use Rattle.meta_gen.specs.Reply.{AllowsAsked, AllowedReply, AcceptsAsked, IsAskedFor, AcceptedReply}
use Rattle.meta_gen.specs.declared.reply.Reply.{Reply}
use Rattle.meta_gen.specs.declared.reply.Reply.TheVariants.{Accept, Refuse, Unknown, Bad, Results, Setting}
use Rattle.meta_gen.proofs.Meant.{HasTypes, accepted, opcode_named, opcode_is}
use Rattle.meta_gen.proofs.OneReply.{declared_name_at, one_asked}

number_is : (t : Option TypeParts) → IfSome t IsType → IsNumberOf t (option_map number_of t)
number_is None a = refl
number_is (Some t) a = (a, refl)

module _ (d : InstructionSet) (tables : TableContents) (made : AreTablesOf d tables) where
  -- if no instruction has the name, no opcode has it
  pub unknown_back : (q : Question) → HasTypes q → AcceptedReply d q Unknown → AllowedReply tables q Unknown
  unknown_back q asks h = λ op e.
      let (k, b, number, at, is) = opcode_is d tables made op q.name e in
      h k b at is

module _ (d : InstructionSet) (tables : TableContents) (made : AreTablesOf d tables) (means : (op : ℕ) (c e : Option ℕ) (rs vs : List ℕ)
    → (Allows tables op c e rs vs ↔ AcceptsOpcode d op c e rs vs)) where
  pub unknown_forth : (q : Question) → HasTypes q → AllowedReply tables q Unknown → AcceptedReply d q Unknown
  unknown_forth q asks h = accepted d tables made means q asks Unknown h

module _ (d : InstructionSet) (tables : TableContents) (made : AreTablesOf d tables) (valid : IsValid d) where
  -- the opcode of an instruction is the first that has its name
  pub first_named : (k : ℕ) (b : Builder) (name : List ℕ) → IsAt d k b → b.name ≡ name → IsFirst (IsOpcodeNamed tables.names name) (k + 1)
  first_named k b name at is = record {
    holds = opcode_named d tables made k b at ∙ ap (λ n. Some n) is;
    none_before = λ j l e.
        let (p, c, number, there, named) = opcode_is d tables made j name e in
        let same : p ≡ k = different_names d valid p k name (declared_name_at d valid p c there
        ∙ ap (λ n. Some n) named) (declared_name_at d valid k b at ∙ ap (λ n. Some n) is) in
        omega (arith, l, number, same);
  }

module _ (d : InstructionSet) (tables : TableContents) (made : AreTablesOf d tables) (means : (op : ℕ) (c e : Option ℕ) (rs vs : List ℕ)
    → (Allows tables op c e rs vs ↔ AcceptsOpcode d op c e rs vs)) (valid : IsValid d) where
  allows_asked : (q : Question) → HasTypes q → (b : Builder) (asked : IsAskedFor d q.name b) → AcceptsAsked d b q
      → AllowsAsked tables (asked.place + 1) q
  allows_asked q asks b asked accepts =
      (means (asked.place + 1) (option_map number_of q.control) (option_map number_of q.second) (map number_of q.results)
      (map number_of q.values)).1 (record {
        place = asked.place;
        builder = b;
        at = asked.at;
        number = refl;
        control = accepts.control;
        is_control = accepts.is_control;
        accepts = record {
          control_type = q.control;
          second_type = q.second;
          result_types = q.results;
          value_types = q.values;
          control_number = number_is q.control asks.control;
          second_number = number_is q.second asks.second;
          result_numbers = record { types = λ k t at. at_place IsType q.results k t asks.results at; numbers = refl };
          value_numbers = record { types = λ k t at. at_place IsType q.values k t asks.values at; numbers = refl };
          accepts = accepts.accepts;
        };
      })

  -- what the declarations reply the tables reply
  pub allowed : (q : Question) → HasTypes q → (r : Reply) → AcceptedReply d q r → AllowedReply tables q r
  allowed q asks Accept (b, asked, accepts) =
      (asked.place + 1, first_named d tables made valid asked.place b q.name asked.at asked.named, allows_asked q asks b asked accepts)
  allowed q asks Refuse (b, asked, refuses) = (
    asked.place + 1,
    first_named d tables made valid asked.place b q.name asked.at asked.named,
    λ allows.
        let (c, other, accepts) = accepted d tables made means q asks Accept (
          asked.place + 1,
          first_named d tables made valid asked.place b q.name asked.at asked.named,
          allows,
        ) in
        refuses (subst (λ x. AcceptsAsked d x q) (one_asked d valid q.name c b other asked) accepts),
  )
  allowed q asks Unknown h = unknown_back d tables made q asks h
  allowed q asks Bad h = h
  allowed q asks (Results line) h = h
  allowed q asks (Setting line) h = h
