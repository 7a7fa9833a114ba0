-- What tables reply to the question whether an instruction accepts types is what the declarations mean that they were made for.
use Rattle.std.proofs.Common.{◌≡◌, ◌↔◌, ◌+◌, ℕ, zero, suc, List, [], ◌∷◌, map, slice_get, Option, None, Some, IfSome, All, refl}
use Rattle.std.proofs.Common.{sym, ap, ◌∙◌, subst, add-one, arith}
use Rattle.std.specs.Option.{option_map}
use Rattle.std.proofs.lemmas.Option.{slice_get-map, slice_get_within, get_or_from_slice_get, same_Some}
use Rattle.meta_lists.proofs.Mapped.{get_mapped}
use Rattle.meta_types.specs.TypeParts.{TypeParts, IsType, number_of}
use Rattle.meta_typevar.specs.Variable.{Variable, Sets}
use Rattle.meta_inst.specs.Builder.{Builder}
use Rattle.meta_inst.specs.Instruction.{Instruction}
use Rattle.meta_inst.specs.InstructionSet.{InstructionSet, root_sets, instruction_in_set}
use Rattle.meta_inst.specs.Faults.{IsAt, names_of}
use Rattle.meta_inst.specs.Acceptance.{Accepts, AcceptsNumbers, IsNumberOf}
use Rattle.meta_inst.specs.Tables.{TableContents, at_opcode, Allows}
use Rattle.meta_types.proofs.Numbers.{one_number}
use Rattle.meta_gen.specs.TablesOf.{AreTablesOf, AcceptsOpcode}
use Rattle.meta_gen.specs.Question.{Question}
use Rattle.meta_gen.specs.Reply.{AllowsAsked, AllowedReply, AcceptsAsked, AcceptedReply}
use Rattle.meta_gen.specs.declared.reply.Reply.{Reply}
use Rattle.meta_gen.specs.declared.reply.Reply.TheVariants.{Accept, Refuse, Unknown, Bad, Results, Setting}

-- each type of q can be named
pub record HasTypes (q : Question) : Type 0 where
  pub control : IfSome q.control IsType
  pub second : IfSome q.second IsType
  pub results : All IsType q.results
  pub values : All IsType q.values

-- each is a type
abbrev AreTypes : List TypeParts → Type 0
AreTypes ts = (k : ℕ) (t : TypeParts) → slice_get ts k ≡ Some t → IsType t

-- lists of types with the same numbers are the same
same_types : (ts us : List TypeParts) → AreTypes ts → AreTypes us → map number_of ts ≡ map number_of us → ts ≡ us
same_types [] [] a b e = refl
same_types [] (u ∷ us) a b e = absurd (cc)
same_types (t ∷ ts) [] a b e = absurd (cc)
same_types (t ∷ ts) (u ∷ us) a b e =
    let head : number_of t ≡ number_of u = cc in
    let tail : map number_of ts ≡ map number_of us = cc in
    let first : t ≡ u = one_number t u (a 0 t refl) (b 0 u refl) head in
    let rest : ts ≡ us = same_types ts us (λ k x e. a (suc k) x e) (λ k x e. b (suc k) x e) tail in
    λ i. first i ∷ rest i

-- so is a type or none
pub same_type : (t u : Option TypeParts) → IfSome t IsType → IsNumberOf u (option_map number_of t) → t ≡ u
same_type None None a e = refl
same_type None (Some u) a e = let h = e.1 in absurd (cc)
same_type (Some t) None a e = absurd (cc)
same_type (Some t) (Some u) a e =
    let h = e.1 in
    let same : number_of t ≡ number_of u = cc in
    ap (λ x. Some x) (one_number t u a e.0 same)

pub number_is : (t : Option TypeParts) → IfSome t IsType → IsNumberOf t (option_map number_of t)
number_is None a = refl
number_is (Some t) a = (a, refl)

-- the numbers of types that can be named are accepted exactly where the types are
module _ (sets : Sets) (i : Instruction) (control : Option Variable) (c d : Option TypeParts) (rs vs : List TypeParts)
    (ct : IfSome c IsType) (dt : IfSome d IsType) (rt : AreTypes rs) (vt : AreTypes vs) where
  types_from_numbers : AcceptsNumbers sets i control (option_map number_of c) (option_map number_of d)
      (map number_of rs) (map number_of vs) → Accepts sets i control c d rs vs
  types_from_numbers h =
      let ec = same_type c h.control_type ct h.control_number in
      let ed = same_type d h.second_type dt h.second_number in
      let er = same_types rs h.result_types rt h.result_numbers.types h.result_numbers.numbers in
      let ev = same_types vs h.value_types vt h.value_numbers.types h.value_numbers.numbers in
      subst (λ c. Accepts sets i control c d rs vs) (sym ec)
      (subst (λ d. Accepts sets i control h.control_type d rs vs) (sym ed)
      (subst (λ rs. Accepts sets i control h.control_type h.second_type rs vs) (sym er)
      (subst (λ vs. Accepts sets i control h.control_type h.second_type h.result_types vs) (sym ev) h.accepts)))

  numbers_from_types : Accepts sets i control c d rs vs
      → AcceptsNumbers sets i control (option_map number_of c) (option_map number_of d) (map number_of rs) (map number_of vs)
  numbers_from_types h = record {
    control_type = c;
    second_type = d;
    result_types = rs;
    value_types = vs;
    control_number = number_is c ct;
    second_number = number_is d dt;
    result_numbers = record { types = rt; numbers = refl };
    value_numbers = record { types = vt; numbers = refl };
    accepts = h;
  }

-- each that stands in a list of types is a type
named_types : (ts : List TypeParts) → All IsType ts → AreTypes ts
named_types ts all k t at = subst IsType (get_or_from_slice_get ts k t t at) (all k t (slice_get_within ts k t at))

module _ (d : InstructionSet) (tables : TableContents) (made : AreTablesOf d tables) where
  -- each instruction is an opcode, under its name
  pub opcode_named : (k : ℕ) (b : Builder) → IsAt d k b → at_opcode tables.names (k + 1) ≡ Some b.name
  opcode_named k b at =
      ap (λ ns. at_opcode ns (k + 1)) made.names ∙ ap (at_opcode (names_of d)) (add-one k)
      ∙ slice_get-map (λ (b : Builder). b.name) d.instructions k ∙ ap (option_map (λ (b : Builder). b.name)) at

  -- and an opcode with a name is an instruction with that name
  pub opcode_is : (op : ℕ) (name : List ℕ) → at_opcode tables.names op ≡ Some name
      → (k : ℕ) × (b : Builder) × (op ≡ k + 1) × IsAt d k b × (b.name ≡ name)
  opcode_is zero name e = absurd (cc)
  opcode_is (suc k) name e =
      let (b, at, is) = get_mapped (λ (b : Builder). b.name) d.instructions k name (sym (ap (λ ns. slice_get ns k) made.names) ∙ e) in
      (k, b, sym (add-one k), at, is)

module _ (d : InstructionSet) (tables : TableContents) (made : AreTablesOf d tables)
    (means : (op : ℕ) (c e : Option ℕ) (rs vs : List ℕ) → (Allows tables op c e rs vs ↔ AcceptsOpcode d op c e rs vs)) where
  -- what is accepted by numbers is accepted by types, and the other way round
  module _ (q : Question) (asks : HasTypes q) (k : ℕ) (b : Builder) (at : IsAt d k b) (op : ℕ) (number : op ≡ k + 1) where
    accepts_asked : AllowsAsked tables op q → AcceptsAsked d b q
    accepts_asked allows =
        let h = (means op (option_map number_of q.control) (option_map number_of q.second) (map number_of q.results)
        (map number_of q.values)).0 allows in
        let place : h.place ≡ k = (let e = h.number in omega arith) in
        let same : h.builder ≡ b = same_Some h.builder b (sym h.at ∙ ap (slice_get d.instructions) place ∙ at) in
        subst (λ b. AcceptsAsked d b q) same (record {
          control = h.control;
          is_control = h.is_control;
          accepts = types_from_numbers (root_sets d) (instruction_in_set d h.builder) h.control q.control q.second
              q.results q.values asks.control asks.second (named_types q.results asks.results) (named_types q.values asks.values) h.accepts;
        })

    allows_asked : AcceptsAsked d b q → AllowsAsked tables op q
    allows_asked h =
        (means op (option_map number_of q.control) (option_map number_of q.second) (map number_of q.results)
        (map number_of q.values)).1 (record {
          place = k;
          builder = b;
          at = at;
          number = number;
          control = h.control;
          is_control = h.is_control;
          accepts = numbers_from_types (root_sets d) (instruction_in_set d b) h.control q.control q.second q.results
              q.values asks.control asks.second (named_types q.results asks.results) (named_types q.values asks.values) h.accepts;
        })

  -- what the tables allow is what the instruction accepts
  pub accepted : (q : Question) → HasTypes q → (reply : Reply) → AllowedReply tables q reply → AcceptedReply d q reply
  accepted q asks Accept (op, named, allows) =
      let (k, b, number, at, is) = opcode_is d tables made op q.name named.holds in
      (b, record { place = k; at = at; named = is }, accepts_asked q asks k b at op number allows)
  accepted q asks Refuse (op, named, never) =
      let (k, b, number, at, is) = opcode_is d tables made op q.name named.holds in
      (b, record { place = k; at = at; named = is }, λ h. never (allows_asked q asks k b at op number h))
  accepted q asks Unknown never = λ k b at e. never (k + 1) (opcode_named d tables made k b at ∙ ap (λ n. Some n) e)
  accepted q asks Bad h = h
  accepted q asks (Results text) h = h
  accepted q asks (Setting text) h = h
