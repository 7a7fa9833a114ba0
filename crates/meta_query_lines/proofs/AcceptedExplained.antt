-- A question is explained by `accept` exactly where `query` replies so.
use Rattle.std.proofs.Common.{◌≡◌, ◌↔◌, ℕ, inl, inr, List, map, Option, codes, refl, ap, subst, arith}
use Rattle.meta_types.specs.TypeParts.{number_of}
use Rattle.meta_inst.specs.Built.{BuiltInstruction}
use Rattle.meta_inst.specs.Tables.{TableContents}
use Rattle.meta_gen.specs.Question.{Question}
use Rattle.meta_gen.specs.Reply.{AllowedReply}
use Rattle.meta_gen.specs.WholeTables.{WholeTables}
use Rattle.meta_gen.specs.declared.reply.Reply.TheVariants.{Accept as AcceptReply}
use Rattle.meta_explain.specs.Wanted.{IsExplained}
use Rattle.meta_explain.specs.declared.explained.Explained.{Explained}
use Rattle.meta_explain.specs.declared.explained.Explained.TheVariants.{Accept, Refuse}
use Rattle.meta_query_lines.specs.Question.{IsQuestion}
use Rattle.meta_query_lines.specs.Query.{Asked, OfQuestion}
use Rattle.meta_query_lines.specs.Explanation.{why_text, asked_controls, IsWhy, IsQueryTold, IsExplanation}
use Rattle.meta_query_lines.proofs.QueryLemmas.{one_query}
use Rattle.meta_query_lines.proofs.RequestLemmas.{asks_no_request}
use Rattle.meta_query_lines.proofs.SoughtLemmas.{byte_in}

module _ (tables : TableContents) (told : Option (List BuiltInstruction)) (q : Question) where
  accepted_by : (op : ℕ) (x : Explained) → IsExplained tables op (asked_controls q) (map number_of q.results) (map number_of q.values) x
      → codes "accept" ≡ why_text told op (asked_controls q) (map number_of q.results) (map number_of q.values) x
      → IsExplained tables op (asked_controls q) (map number_of q.results) (map number_of q.values) Accept
  accepted_by op Accept h e = h
  accepted_by op (Refuse p w) h e = let b = ap byte_in e in absurd (omega (arith, b))

  accepted_why : IsWhy tables told q (codes "accept") → AllowedReply tables q AcceptReply
  accepted_why (inl h) = (h.opcode, h.named, accepted_by h.opcode h.why h.explained h.is)
  accepted_why (inr (never, e)) = let b = ap byte_in e in absurd (omega (arith, b))

  why_accepted : AllowedReply tables q AcceptReply → IsWhy tables told q (codes "accept")
  why_accepted (op, named, allows) = inl (record { opcode = op; named = named; why = Accept; explained = allows; is = refl })

pub accept_explained : (t : WholeTables) (told : Option (List BuiltInstruction)) (line : List ℕ) (q : Question) → IsQuestion line q
    → (IsExplanation t told line (codes "accept") ↔ AllowedReply t.opcodes q AcceptReply)
accept_explained t told line q asks = (to, λ a. inl (OfQuestion q, asks, why_accepted t.opcodes told q a))
  where
    to : IsExplanation t told line (codes "accept") → AllowedReply t.opcodes q AcceptReply
    to (inl (p, also, h)) =
        accepted_why t.opcodes told q (subst (λ (p : Asked). IsQueryTold t told p (codes "accept")) (one_query line p (OfQuestion q) also asks) h)
    to (inr (inl (r, requests, h))) = absurd (asks_no_request line (OfQuestion q) r asks requests)
    to (inr (inr (none, no_request, e))) = absurd (none (OfQuestion q) asks)
