-- The words of a line.
use Rattle.std.proofs.Common.{◌≡◌, ◌≢◌, ℕ, ◌==◌, not, false, List, [], ◌∷◌, ◌++◌, map, All, Some, refl, sym, ap, ap₂, ◌∙◌}
use Rattle.std.proofs.Common.{rules, tests}
use Rattle.std.specs.List.{join_with_byte, filter}
use Rattle.std.proofs.lemmas.List.Elements.{All-head, All-tail, filter-append}
use Rattle.meta_types.specs.TypeParts.{number_of, name_of}
use Rattle.meta_types.specs.TypeNumber.{type_with}
use Rattle.meta_types.specs.ValueTypes.{type_parts_of}
use Rattle.meta_types.specs.declared.value_type.ValueType.{ValueType}
use Rattle.meta_types.proofs.TypeNumbers.{type_back}
use Rattle.meta_types.proofs.Typed.{typed}
use Rattle.meta_verify.specs.Statement.{list_text}
use Rattle.meta_asm.specs.Short.{joined, values_written}
use Rattle.meta_asm.proofs.SplitLemmas.{Lacks}

-- the bytes that aren't spaces
abbrev pub no_spaces : List ℕ → List ℕ
no_spaces text = filter (λ b. not (b == 32)) text

kept : (text : List ℕ) → Lacks 32 text → no_spaces text ≡ text
kept [] h = refl
kept (b ∷ bs) h =
    let other : b ≢ 32 = All-head (λ b. b ≢ 32) b bs h in
    let none : (b == 32) ≡ false = search (rules, tests) in
    rw none (ap (λ cs. b ∷ cs) (kept bs (All-tail (λ b. b ≢ 32) b bs h)))

-- nor do the texts after the first have spaces, without the space before each
after_kept : (t : List ℕ) (ts : List (List ℕ)) → All (Lacks 32) (t ∷ ts)
    → no_spaces (join_with_byte 44 (t ∷ map (λ (u : List ℕ). 32 ∷ u) ts)) ≡ join_with_byte 44 (t ∷ ts)
after_kept t [] h = kept t (All-head (Lacks 32) t [] h)
after_kept t (u ∷ []) h =
    filter-append (λ b. not (b == 32)) t (44 ∷ 32 ∷ u)
    ∙ ap₂ (λ (x y : List ℕ). x ++ 44 ∷ y) (kept t (All-head (Lacks 32) t (u ∷ []) h)) (after_kept u [] (All-tail (Lacks 32) t (u ∷ []) h))
after_kept t (u ∷ w ∷ ws) h =
    filter-append (λ b. not (b == 32)) t (44 ∷ 32 ∷ (u ++ 44 ∷ join_with_byte 44 (map (λ (u : List ℕ). 32 ∷ u) (w ∷ ws))))
    ∙ ap₂ (λ (x y : List ℕ). x ++ 44 ∷ y) (kept t (All-head (Lacks 32) t (u ∷ w ∷ ws) h))
    (after_kept u (w ∷ ws) (All-tail (Lacks 32) t (u ∷ w ∷ ws) h))

-- a list without its spaces
pub list_kept : (ts : List (List ℕ)) (list : List ℕ) → All (Lacks 32) ts → Some list ≡ values_written ts → no_spaces list ≡ list_text ts
list_kept [] list h e = absurd (cc)
list_kept (t ∷ ts) list h e =
    let is : list ≡ joined (t ∷ ts) = cc in
    ap no_spaces is ∙ after_kept t ts h

-- the name of the type that has the number
pub value_name : (t : ValueType) (n : ℕ) → number_of (type_parts_of t) ≡ n → name_of (type_parts_of t) ≡ name_of (type_with n)
value_name t n e = ap name_of (sym (type_back (type_parts_of t) (typed t)) ∙ ap type_with e)
