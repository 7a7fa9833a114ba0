-- A question has one reply at most, by tables and by valid declarations.
use Rattle.std.proofs.Common.{◌≡◌, ℕ, List, slice_get, Some, refl, sym, ap, ◌∙◌, subst}
use Rattle.std.proofs.lemmas.Option.{same_Some}
use Rattle.meta_lists.proofs.First.{one_first}
use Rattle.meta_lists.proofs.Mapped.{get_map}
use Rattle.meta_inst.specs.Builder.{Builder}
use Rattle.meta_inst.specs.InstructionSet.{InstructionSet}
use Rattle.meta_inst.specs.Faults.{IsAt, names_of, IsValid}
use Rattle.meta_inst.specs.Tables.{TableContents}
use Rattle.meta_build.proofs.DifferentNames.{different_names}
use Rattle.meta_gen.specs.Question.{Question}
use Rattle.meta_gen.specs.Reply.{AllowsAsked, AllowedReply, AcceptsAsked, IsAskedFor, AcceptedReply}
use Rattle.meta_gen.specs.declared.reply.Reply.{Reply}
use Rattle.meta_gen.specs.declared.reply.Reply.TheVariants.{Accept, Refuse, Unknown, Bad, Results, Setting}

-- ---- by tables

pub one_allowed : (tables : TableContents) (q : Question) (r s : Reply) → AllowedReply tables q r → AllowedReply tables q s → r ≡ s
one_allowed tables q Accept Accept h g = refl
one_allowed tables q Accept Refuse (op, named, allows) (other, also, never) =
    absurd (never (subst (λ o. AllowsAsked tables o q) (one_first _ op other named also) allows))
one_allowed tables q Accept Unknown (op, named, allows) none = absurd (none op named.holds)
one_allowed tables q Refuse Accept (other, also, never) (op, named, allows) =
    absurd (never (subst (λ o. AllowsAsked tables o q) (one_first _ op other named also) allows))
one_allowed tables q Refuse Refuse h g = refl
one_allowed tables q Refuse Unknown (op, named, never) none = absurd (none op named.holds)
one_allowed tables q Unknown Accept none (op, named, allows) = absurd (none op named.holds)
one_allowed tables q Unknown Refuse none (op, named, never) = absurd (none op named.holds)
one_allowed tables q Unknown Unknown h g = refl
one_allowed tables q r Bad h g = absurd g
one_allowed tables q r (Results line) h g = absurd g
one_allowed tables q r (Setting line) h g = absurd g
one_allowed tables q Bad s h g = absurd h
one_allowed tables q (Results line) s h g = absurd h
one_allowed tables q (Setting line) s h g = absurd h

-- ---- by declarations, in which no two instructions have the same name

module _ (d : InstructionSet) (valid : IsValid d) where
  pub declared_name_at : (k : ℕ) (b : Builder) → IsAt d k b → slice_get (names_of d) k ≡ Some b.name
  declared_name_at k b at = get_map (λ (b : Builder). b.name) d.instructions k b at

  pub one_asked : (name : List ℕ) (b c : Builder) → IsAskedFor d name b → IsAskedFor d name c → b ≡ c
  one_asked name b c h g =
      let place : h.place ≡ g.place = different_names d valid h.place g.place c.name (declared_name_at h.place b h.at
      ∙ ap (λ n. Some n) (h.named ∙ sym g.named)) (declared_name_at g.place c g.at) in
      same_Some b c (sym h.at ∙ ap (slice_get d.instructions) place ∙ g.at)

  -- what the instruction accepts isn't refused
  not_both : (q : Question) (b c : Builder) → IsAskedFor d q.name b → IsAskedFor d q.name c → AcceptsAsked d b q
      → (AcceptsAsked d c q → ⊥) → ⊥
  not_both q b c h g accepts refuses = refuses (subst (λ b. AcceptsAsked d b q) (one_asked q.name b c h g) accepts)

  -- a declared name isn't unknown
  pub not_unknown : (name : List ℕ) (b : Builder) → IsAskedFor d name b → ((k : ℕ) (c : Builder) → IsAt d k c → c.name ≡ name → ⊥) → ⊥
  not_unknown name b h unknown = unknown h.place b h.at h.named

  pub one_accepted : (q : Question) (r s : Reply) → AcceptedReply d q r → AcceptedReply d q s → r ≡ s
  one_accepted q Accept Accept h g = refl
  one_accepted q Accept Refuse (b, asked, accepts) (c, other, refuses) = absurd (not_both q b c asked other accepts refuses)
  one_accepted q Accept Unknown (b, asked, accepts) unknown = absurd (not_unknown q.name b asked unknown)
  one_accepted q Refuse Accept (c, other, refuses) (b, asked, accepts) = absurd (not_both q b c asked other accepts refuses)
  one_accepted q Refuse Refuse h g = refl
  one_accepted q Refuse Unknown (b, asked, refuses) unknown = absurd (not_unknown q.name b asked unknown)
  one_accepted q Unknown Accept unknown (b, asked, accepts) = absurd (not_unknown q.name b asked unknown)
  one_accepted q Unknown Refuse unknown (b, asked, refuses) = absurd (not_unknown q.name b asked unknown)
  one_accepted q Unknown Unknown h g = refl
  one_accepted q r Bad h g = absurd g
  one_accepted q r (Results line) h g = absurd g
  one_accepted q r (Setting line) h g = absurd g
  one_accepted q Bad s h g = absurd h
  one_accepted q (Results line) s h g = absurd h
  one_accepted q (Setting line) s h g = absurd h
