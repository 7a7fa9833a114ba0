-- Lists, with what stands around their elements.
use Rattle.std.proofs.Common.{◌≡◌, ℕ, ◌<◌, ◌^◌, List, ◌++◌, codes, append_assoc, refl, sym, ◌∙◌}
use Rattle.std.specs.Fmt.{decimal}
use Rattle.meta_table_text.specs.declared.table_list.TableList.{TableList}
use Rattle.meta_table_text.specs.Lists.{title_of, head_of, list_head, list_end, list_text}
use Rattle.meta_table_reader.proofs.Cancel.{cancel_front, cancel_number}

-- what stands before the first element, the elements, and the end, and then the rest
pub list_grouped : (list : TableList) (n : ℕ) (lines rest : List ℕ)
    → list_text list n lines ++ rest ≡ list_head list n ++ (lines ++ (list_end ++ rest))
list_grouped list n lines rest = grouped (list_head list n) lines list_end rest
  where
    grouped : (a b c d : List ℕ) → (a ++ (b ++ c)) ++ d ≡ a ++ (b ++ (c ++ d))
    grouped a b c d = simp append_assoc

-- the title of a list, its name, the count, and what comes after it, and then the rest
pub head_grouped : (list : TableList) (n : ℕ) (rest : List ℕ)
    → list_head list n ++ rest ≡ title_of list ++ (head_of list ++ (decimal n ++ (codes "] = [\n" ++ rest)))
unfolding list_head
head_grouped list n rest = grouped (title_of list) (head_of list) (decimal n) (codes "] = [\n") rest
  where
    grouped : (a b c d e : List ℕ) → (a ++ (b ++ (c ++ d))) ++ e ≡ a ++ (b ++ (c ++ (d ++ e)))
    grouped a b c d e = simp append_assoc

-- the text of a list tells how many elements there are, and where they begin
pub list_told : (list : TableList) (m n : ℕ) (one other r s : List ℕ) → m < 2 ^ 64 → n < 2 ^ 64
    → list_text list m one ++ r ≡ list_text list n other ++ s
    → (m ≡ n) × (one ++ (list_end ++ r) ≡ other ++ (list_end ++ s))
list_told list m n one other r s small_m small_n e =
    let mine : List ℕ = one ++ (list_end ++ r) in
    let its : List ℕ = other ++ (list_end ++ s) in
    let opened = sym (head_grouped list m mine) ∙ sym (list_grouped list m one r) ∙ e ∙ list_grouped list n other s
    ∙ head_grouped list n its in
    let (same, left) = cancel_number 93 m n (codes "] = [\n" ++ mine) (codes "] = [\n" ++ its) refl small_m small_n refl refl
    (cancel_front (head_of list) _ _ (cancel_front (title_of list) _ _ opened)) in
    (same, cancel_front (codes "] = [\n") mine its left)
