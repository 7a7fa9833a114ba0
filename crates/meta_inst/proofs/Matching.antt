-- The names of the fields that hold operands, operand by operand.
use Rattle.std.proofs.Common.{rules, ◌≡◌, ◌↔◌, ◌<◌, ◌+◌, ◌==◌, ℕ, Bool, true, IsTrue, List, [], ◌∷◌, ◌++◌, length, get_or, take, drop, map}
use Rattle.std.proofs.Common.{filter, refl, sym, ap, ◌∙◌}
use Rattle.std.proofs.lemmas.List.{take_more, take-append-drop, map-append, append_cancel_left, append_assoc, append-nil}
use Rattle.std.proofs.Math.Seq.{take-length}
use Rattle.std.proofs.lemmas.List.Elements.{filter-append}
use Rattle.meta_operands.specs.declared.operand.Operand.{Operand}
use Rattle.meta_operands.specs.declared.field.FormatField.{FormatField}
use Rattle.meta_inst.specs.FormatMatch.{is_field_operand, operand_field_name, field_names, format_field_name}

field_names-append : (xs ys : List Operand) → field_names (xs ++ ys) ≡ field_names xs ++ field_names ys
field_names-append xs ys = ap (map operand_field_name) (filter-append is_field_operand xs ys)
    ∙ map-append operand_field_name (filter is_field_operand xs) (filter is_field_operand ys)

-- the operands up to one, that one, and the others
split : (xs : List Operand) (i : ℕ) (x : Operand) → i < length xs → x ≡ get_or xs i x
    → field_names xs ≡ field_names (take i xs) ++ (field_names (x ∷ []) ++ field_names (drop (i + 1) xs))
split xs i x l is =
    let rest = field_names (drop (i + 1) xs) in
    let grown : take (i + 1) xs ≡ take i xs ++ x ∷ [] = take_more xs i x l ∙ ap (λ y. take i xs ++ y ∷ []) (sym is) in
    ap field_names (sym (take-append-drop (i + 1) xs)) ∙ field_names-append (take (i + 1) xs) (drop (i + 1) xs)
    ∙ ap (λ ys. field_names ys ++ rest) grown ∙ ap (λ ns. ns ++ rest) (field_names-append (take i xs) (x ∷ []))
    ∙ append_assoc (field_names (take i xs)) (field_names (x ∷ [])) rest

-- an operand that the next field doesn't hold
pub no_match : (xs : List Operand) (fields left : List FormatField) (i : ℕ) (x : Operand) → i < length xs → x ≡ get_or xs i x
    → map format_field_name fields ≡ field_names (take i xs) ++ map format_field_name left
    → ((names : List (List ℕ)) → field_names (x ∷ []) ++ names ≡ map format_field_name left → ⊥)
    → field_names xs ≡ map format_field_name fields → ⊥
no_match xs fields left i x l is so_far other same =
    other (field_names (drop (i + 1) xs)) (append_cancel_left (field_names (take i xs)) _ _ (sym (split xs i x l is) ∙ same ∙ so_far))

none_left : (left : List FormatField) → (length left == 0) ≡ true → left ≡ []
none_left [] e = refl
none_left (f ∷ left) e = search rules

no_names : (left : List FormatField) → map format_field_name left ≡ [] → (length left == 0) ≡ true
no_names [] e = refl
no_names (f ∷ left) e = absurd (cc)

-- all operands are held, and so the fields are theirs where none is left
pub all_match : (xs : List Operand) (fields left : List FormatField) (i : ℕ) (b : Bool) → i ≡ length xs
    → map format_field_name fields ≡ field_names (take i xs) ++ map format_field_name left → b ≡ (length left == 0)
    → IsTrue b ↔ (field_names xs ≡ map format_field_name fields)
all_match xs fields left i b l so_far is =
    let all : take i xs ≡ xs = ap (λ n. take n xs) l ∙ take-length xs in
    let whole : map format_field_name fields ≡ field_names xs ++ map format_field_name left = so_far
    ∙ ap (λ ys. field_names ys ++ map format_field_name left) all in (
      (λ t. sym (whole ∙ ap (λ fs. field_names xs ++ map format_field_name fs) (none_left left (sym is ∙ t))
          ∙ append-nil (field_names xs))),
      (λ e. is ∙ no_names left (append_cancel_left (field_names xs) _ _ (sym whole ∙ sym e ∙ sym (append-nil (field_names xs))))),
    )
