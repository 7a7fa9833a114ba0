-- Two texts that are the same have the same items, where these end in the same way.
use Rattle.std.proofs.Common.{◌≡◌, ℕ, ◌<◌, ◌^◌, ◌==◌, true, false, IsTrue, List, [], ◌∷◌, ◌++◌, All, length, take, drop, refl, sym, ap, ◌∙◌}
use Rattle.std.proofs.Common.{append_assoc, arith}
use Rattle.std.specs.Char.{is_ascii_digit}
use Rattle.std.specs.Fmt.{decimal}
use Rattle.std.specs.List.{flat_map, position_or_len}
use Rattle.std.proofs.Math.Seq.{take-append_seam, drop-append_seam}
use Rattle.std.proofs.lemmas.Fmt.{decimal_injective}
use Rattle.meta_table_reader.specs.Spans.{lacks, begins_with, is_line}
use Rattle.meta_table_reader.proofs.Ends.{first_after, line_left}
use Rattle.meta_table_reader.proofs.Lacking.{any_number_lacks}
use Rattle.meta_table_reader.proofs.ItemsRead.{all_first, all_after}

-- after the same front
pub cancel_front : (front r s : List ℕ) → front ++ r ≡ front ++ s → r ≡ s
cancel_front front r s e = sym (drop-append_seam front r) ∙ ap (drop (length front)) e ∙ drop-append_seam front s

-- up to the same byte
pub cancel_item : (stop : ℕ) (x y r s : List ℕ) → lacks stop x ≡ true → lacks stop y ≡ true → begins_with stop r ≡ true
    → begins_with stop s ≡ true → x ++ r ≡ y ++ s → (x ≡ y) × (r ≡ s)
cancel_item stop x y r s free_x free_y stops_r stops_s e =
    let same : length x ≡ length y = sym (first_after stop x r free_x stops_r) ∙ ap (position_or_len (λ c. c == stop)) e
    ∙ first_after stop y s free_y stops_s in (
      sym (take-append_seam x r) ∙ (λ i. take (same i) (e i)) ∙ take-append_seam y s,
      sym (drop-append_seam x r)
          ∙ (λ i. drop (same i) (e i)) ∙ drop-append_seam y s,
    )

-- numbers up to the same byte
pub cancel_number : (stop m n : ℕ) (r s : List ℕ) → is_ascii_digit stop ≡ false → m < 2 ^ 64 → n < 2 ^ 64 → begins_with stop r ≡ true
    → begins_with stop s ≡ true → decimal m ++ r ≡ decimal n ++ s → (m ≡ n) × (r ≡ s)
cancel_number stop m n r s other small_m small_n stops_r stops_s e =
    let (digits, left) = cancel_item stop (decimal m) (decimal n) r s (any_number_lacks stop other m)
    (any_number_lacks stop other n) stops_r stops_s e in
    (decimal_injective m n small_m small_n digits, left)

-- after a line
pub cancel_line : (x y r s : List ℕ) → is_line x ≡ true → is_line y ≡ true → x ++ r ≡ y ++ s → r ≡ s
cancel_line x y r s is_x is_y e = sym (line_left x r is_x) ∙ ap (λ t. drop 1 (drop (position_or_len (λ c. c == 10) t) t)) e
    ∙ line_left y s is_y

-- after the same count of lines
pub cancel_lines : (xs ys : List (List ℕ)) (r s : List ℕ) → All (λ line. IsTrue (is_line line)) xs → All (λ line. IsTrue (is_line line)) ys
    → length xs ≡ length ys
    → flat_map (λ line. line) xs ++ r ≡ flat_map (λ line. line) ys ++ s → r ≡ s
cancel_lines [] [] r s all_x all_y same e = e
cancel_lines [] (y ∷ ys) r s all_x all_y same e = absurd (omega (arith, same))
cancel_lines (x ∷ xs) [] r s all_x all_y same e = absurd (omega (arith, same))
cancel_lines (x ∷ xs) (y ∷ ys) r s all_x all_y same e =
    let is = λ (line : List ℕ). IsTrue (is_line line) in
    cancel_lines xs ys r s (all_after is x xs all_x) (all_after is y ys all_y) (omega (arith, same))
    (cancel_line x y (flat_map (λ line. line) xs ++ r) (flat_map (λ line. line) ys ++ s) (all_first is x xs all_x) (all_first is y ys all_y)
    (sym (append_assoc x (flat_map (λ line. line) xs) r) ∙ e ∙ append_assoc y (flat_map (λ line. line) ys) s))

-- equally many items that can each be told
pub cancel_items : {X : Type 0} (P : X → Type 0) (text : X → List ℕ)
    → ((x y : X) (r s : List ℕ) → P x → P y → text x ++ r ≡ text y ++ s → (x ≡ y) × (r ≡ s))
    → (xs ys : List X) (r s : List ℕ) → All P xs → All P ys → length xs ≡ length ys → flat_map text xs ++ r ≡ flat_map text ys ++ s
    → (xs ≡ ys) × (r ≡ s)
cancel_items P text told [] [] r s all_x all_y same e = (refl, e)
cancel_items P text told [] (y ∷ ys) r s all_x all_y same e = absurd (omega (arith, same))
cancel_items P text told (x ∷ xs) [] r s all_x all_y same e = absurd (omega (arith, same))
cancel_items P text told (x ∷ xs) (y ∷ ys) r s all_x all_y same e =
    let (first, left) = told x y (flat_map text xs ++ r) (flat_map text ys ++ s) (all_first P x xs all_x) (all_first P y ys all_y)
    (sym (append_assoc (text x) (flat_map text xs) r) ∙ e ∙ append_assoc (text y) (flat_map text ys) s) in
    let (after, rest) = cancel_items P text told xs ys r s (all_after P x xs all_x) (all_after P y ys all_y) (omega (arith, same)) left
    in
    ((λ i. first i ∷ after i), rest)
