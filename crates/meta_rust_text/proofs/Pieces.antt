-- Texts of numbers, of elements by their places, and of names, that are added one after the other, and what is left to add.
use Rattle.std.proofs.Common.{◌≡◌, ℕ, ◌+◌, ◌-◌, ◌<◌, ◌≤◌, zero, suc, List, [], ◌∷◌, ◌++◌, codes, length, drop}
use Rattle.std.proofs.Common.{get_or, Option, None, Some, Bor, unwrap_or, sym, ap, ◌∙◌, add-one, zero-add, drop-cons, arith}
use Rattle.std.specs.List.{flat_map, join_by, range_with_len, enumerate_from}
use Rattle.std.specs.Option.{option_map}
use Rattle.std.proofs.lemmas.List.{drop_all, drop_more}
use Rattle.meta_operands.specs.declared.operand.Operand.{Operand}
use Rattle.meta_inst.specs.Content.{more_names_text}
use Rattle.std.proofs.lemmas.List.FromFn.{length-enumerate_from, get_or-enumerate_from}
use Rattle.meta_text.proofs.Pieces.{moved, ended}

-- ---- numbers

numbers_left : (f : ℕ → List ℕ) (i n : ℕ) → i < n → flat_map f (range_with_len i (n - i))
    ≡ f i ++ flat_map f (range_with_len (i + 1) (n - (i + 1)))
numbers_left f i n below =
    let more : n - i ≡ suc (n - (i + 1)) = omega arith in
    ap (λ k. flat_map f (range_with_len i k)) more

pub next_number : (f : ℕ → List ℕ) (i n : ℕ) (out new whole : List ℕ) → i < n → new ≡ out ++ f i
    → out ++ flat_map f (range_with_len i (n - i)) ≡ whole → new ++ flat_map f (range_with_len (i + 1) (n - (i + 1))) ≡ whole
next_number f i n out new whole below added so_far = moved out (f i) _ new _ whole added (numbers_left f i n below) so_far

pub no_number : (f : ℕ → List ℕ) (i n : ℕ) (out whole : List ℕ) → n ≤ i → out ++ flat_map f (range_with_len i (n - i)) ≡ whole → out ≡ whole
no_number f i n out whole past so_far =
    let none : n - i ≡ zero = omega arith in
    ended out _ whole (ap (λ k. flat_map f (range_with_len i k)) none) so_far

-- names by numbers are the first, and then the others, each after a separator
pub names_from_first : (name : ℕ → List ℕ) (separator : List ℕ) (n : ℕ) → suc (n - 1) ≡ n
    → name 0 ++ flat_map (λ k. separator ++ name k) (range_with_len 1 (n - 1)) ≡ join_by name separator (range_with_len 0 n)
names_from_first name separator n more = ap (λ k. join_by name separator (range_with_len 0 k)) more

-- ---- elements by their places

placed_left : {X : Type 0} (f : ℕ × X → List ℕ) (xs : List X) (i : ℕ) (x : X) → i < length xs → x ≡ get_or xs i x
    → flat_map f (drop i (enumerate_from 0 xs)) ≡ f (i, x) ++ flat_map f (drop (i + 1) (enumerate_from 0 xs))
placed_left {X} f xs i x inside at =
    let here : get_or (enumerate_from 0 xs) i (i, x) ≡ (i, x) = get_or-enumerate_from 0 xs i (i, x) inside
    ∙ (λ j. (zero-add i j, sym at j)) in
    let long : i < length (enumerate_from 0 xs) = omega (arith, inside, length-enumerate_from 0 xs) in
    ap (flat_map f) (drop-cons (enumerate_from 0 xs) i (i, x) long)
    ∙ ap (λ (p : ℕ × X). f p ++ flat_map f (drop (suc i) (enumerate_from 0 xs))) here
    ∙ ap (λ k. f (i, x) ++ flat_map f (drop k (enumerate_from 0 xs))) (sym (add-one i))

pub next_placed : {X : Type 0} (f : ℕ × X → List ℕ) (xs : List X) (i : ℕ) (x : X) (out new whole : List ℕ)
    → i < length xs → x ≡ get_or xs i x → new ≡ out ++ f (i, x)
    → out ++ flat_map f (drop i (enumerate_from 0 xs)) ≡ whole → new ++ flat_map f (drop (i + 1) (enumerate_from 0 xs)) ≡ whole
next_placed f xs i x out new whole inside at added so_far = moved out (f (i, x)) _ new _ whole added (placed_left f xs i x inside at) so_far

pub no_placed : {X : Type 0} (f : ℕ × X → List ℕ) (xs : List X) (i : ℕ) (out whole : List ℕ) → length xs ≤ i
    → out ++ flat_map f (drop i (enumerate_from 0 xs)) ≡ whole → out ≡ whole
no_placed f xs i out whole past so_far =
    let long : length (enumerate_from 0 xs) ≤ i = omega (arith, past, length-enumerate_from 0 xs) in
    ended out _ whole (ap (flat_map f) (drop_all i (enumerate_from 0 xs) long)) so_far

-- ---- names

pub next_name : (operands : List Operand) (i : ℕ) (o : Operand) (out new whole : List ℕ) → i < length operands
    → o ≡ get_or operands i o → new ≡ out ++ (codes ", " ++ o.name) → out ++ more_names_text (drop i operands) ≡ whole
    → new ++ more_names_text (drop (i + 1) operands) ≡ whole
next_name operands i o out new whole inside at added so_far =
    let left : drop i operands ≡ o ∷ drop (i + 1) operands = drop_more operands i o inside
    ∙ ap (λ (x : Operand). x ∷ drop (i + 1) operands) (sym at) in
    moved out (codes ", " ++ o.name) (more_names_text (drop (i + 1) operands)) new
    (more_names_text (drop i operands)) whole added (ap more_names_text left) so_far

-- ---- a text that is lent, or no text

pub lent_or_nothing : (r : Option (Bor (List ℕ))) (t none : Bor (List ℕ)) (o : Option (List ℕ)) → t ≡ unwrap_or r none
    → none.now ≡ [] → option_map (λ (b : Bor (List ℕ)). b.now) r ≡ o → t.now ≡ unwrap_or o []
lent_or_nothing None t none o is empty found = ap (λ (b : Bor (List ℕ)). b.now) is ∙ empty ∙ ap (λ p. unwrap_or p []) found
lent_or_nothing (Some b) t none o is empty found = ap (λ (b : Bor (List ℕ)). b.now) is ∙ ap (λ p. unwrap_or p []) found
