-- How many opcodes have a property, and the types that an opcode takes everywhere.
use Rattle.std.proofs.Common.{◌≡◌, inl, inr, ⊎_elim, ◌+◌, ◌≤◌, ◌==◌, ℕ, zero, suc, Bool, true, false, cond, List, [], ◌∷◌, length}
use Rattle.std.proofs.Common.{replicate, Option, None, Some, MatchBool, refl, sym, ap, subst, ◌∙◌, arith, add-one}
use Rattle.std.specs.List.{All}
use Rattle.std.proofs.lemmas.Option.{same_Some, slice_get_within}
use Rattle.std.proofs.lemmas.List.Elements.{All-head, All-tail, All-replicate}
use Rattle.meta_inst.specs.Tables.{TableContents, OpcodeNumbers, at_opcode, no_type_set, result_count, value_count, ControlNumberFits}
use Rattle.meta_inst.specs.Tables.{SetContains, Allows}
use Rattle.meta_gen.specs.Contents.{IsOpcode}
use Rattle.meta_query.specs.Summary.{CountsTo, TakesEverywhere}

-- ---- counting

pub counts_yes : (P : ℕ → Type 0) (n c : ℕ) → CountsTo P n c → P (n + 1) → CountsTo P (n + 1) (c + 1)
counts_yes P n c h p = subst (λ m. CountsTo P m (c + 1)) (sym (add-one n)) (inl (subst P (add-one n) p, (c, refl, h)))

pub counts_no : (P : ℕ → Type 0) (n c : ℕ) → CountsTo P n c → (P (n + 1) → ⊥) → CountsTo P (n + 1) c
counts_no P n c h p = subst (λ m. CountsTo P m c) (sym (add-one n)) (inr (λ q. p (subst P (sym (add-one n)) q), h))

pub counts_few : (P : ℕ → Type 0) (n c : ℕ) → CountsTo P n c → c ≤ n
counts_few P zero c h = omega (arith, h)
counts_few P (suc n) c h = ⊎_elim
    (λ y. let few = counts_few P n y.1.0 y.1.2 in omega (arith, y.1.1, few))
    (λ z. let few = counts_few P n c z.1 in omega (arith, few))
    h

-- ---- one opcode

-- numbers that are all n
all_same : (n : ℕ) (xs : List ℕ) → All (λ m. m ≡ n) xs → xs ≡ replicate (length xs) n
all_same n [] h = refl
all_same n (x ∷ xs) h =
    let first : x ≡ n = All-head (λ m. m ≡ n) x xs h in
    let rest = all_same n xs (All-tail (λ m. m ≡ n) x xs h) in
    λ i. first i ∷ rest i

-- the controlling number of an entry, where it is n: none where it has no control
abbrev pub control_for : ℕ → ℕ → Option ℕ
control_for offset n = cond (offset == no_type_set) None (Some n)

only_n : (b : Bool) (n c : ℕ) → cond b None (Some n) ≡ Some c → c ≡ n
only_n true n c e = absurd (cc)
only_n false n c e = sym (same_Some n c e)

control_so : (Q : ℕ → Type 0) (b : Bool) (n : ℕ) (control : Option ℕ) → MatchBool b (control ≡ None) ((m : ℕ) × (control ≡ Some m) × Q m)
    → ((m : ℕ) → control ≡ Some m → m ≡ n) → control ≡ cond b None (Some n)
control_so Q true n control fits only = fits
control_so Q false n control fits only = fits.1 ∙ ap Some (only fits.0 fits.1)

module _ (t : TableContents) (op n : ℕ) where
  pub no_opcode : (IsOpcode t op → ⊥) → TakesEverywhere t n op → ⊥
  no_opcode none h = none (is_opcode op h.allowed.is_opcode)
    where
      is_opcode : (k : ℕ) → at_opcode t.entries k ≡ Some h.allowed.entry → IsOpcode t k
      is_opcode zero e = absurd (cc)
      is_opcode (suc k) e = (omega arith, omega (arith, slice_get_within t.entries k h.allowed.entry e))

  module _ (entry : OpcodeNumbers) (at : at_opcode t.entries op ≡ Some entry) where
    abbrev AllowsAll : Type 0
    AllowsAll = Allows t op (control_for entry.typeset_offset n) None (replicate (result_count entry.flags) n)
        (replicate (value_count entry.flags) n)

    pub takes : AllowsAll → TakesEverywhere t n op
    takes h = record {
      control = control_for entry.typeset_offset n;
      is_control = λ c e. only_n (entry.typeset_offset == no_type_set) n c e;
      results = replicate (result_count entry.flags) n;
      are_results = All-replicate (λ m. m ≡ n) (result_count entry.flags) n refl;
      values = replicate (value_count entry.flags) n;
      are_values = All-replicate (λ m. m ≡ n) (value_count entry.flags) n refl;
      allowed = h;
    }

    pub taken : TakesEverywhere t n op → AllowsAll
    taken h =
        let same : h.allowed.entry ≡ entry = same_Some h.allowed.entry entry (sym h.allowed.is_opcode ∙ at) in
        let results = all_same n h.results h.are_results
        ∙ ap (λ k. replicate k n) (h.allowed.results ∙ ap (λ (e : OpcodeNumbers). result_count e.flags) same) in
        let values = all_same n h.values h.are_values ∙ ap (λ k. replicate k n) (h.allowed.values
        ∙ ap (λ (e : OpcodeNumbers). value_count e.flags) same) in
        let fits = subst (λ (e : OpcodeNumbers). ControlNumberFits t e.typeset_offset h.control) same h.allowed.control_fits in
        let control = control_so (SetContains t entry.typeset_offset) (entry.typeset_offset == no_type_set) n h.control fits h.is_control in
        subst (λ c. Allows t op c None (replicate (result_count entry.flags) n) (replicate (value_count entry.flags) n)) control
        (subst (λ rs. Allows t op h.control None rs (replicate (value_count entry.flags) n)) results
        (subst (λ vs. Allows t op h.control None h.results vs) values h.allowed))
