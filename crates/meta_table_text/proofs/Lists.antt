-- Lists whose lines were made before.
use Rattle.std.proofs.Common.{◌≡◌, ℕ, ◌+◌, List, [], ◌++◌, append-nil, add-one, sym, ap, ap₂, ◌∙◌}
use Rattle.meta_lists.proofs.Joined.{two, four}
use Rattle.meta_table_text.specs.declared.table_list.TableList.{TableList}
use Rattle.meta_table_text.specs.Lists.{list_text}
use Rattle.meta_table_text.specs.OpcodeText.{each_opcode}

-- what was begun is written in full
pub all_is : (all now left : List ℕ) → now ++ left ≡ all → left ≡ [] → now ≡ all
all_is all now left so_far none = sym (append-nil now) ∙ ap (λ t. now ++ t) (sym none) ∙ so_far

-- a list of this count of elements, whose lines are written
pub list_is : (old : List ℕ) (list : TableList) (count n : ℕ) (shown lines all : List ℕ) {new : List ℕ}
    → new ≡ old ++ list_text list count shown → count ≡ n → shown ≡ lines → lines ≡ all → new ≡ old ++ list_text list n all
list_is old list count n shown lines all added many is whole =
    added ∙ ap₂ (λ k t. old ++ list_text list k t) many (is ∙ whole)

-- one opcode more
pub opcode_more : (f : ℕ → List ℕ) (before : ℕ) (lines : List ℕ) {new : List ℕ} → lines ≡ each_opcode f before
    → new ≡ lines ++ f (before + 1) → new ≡ each_opcode f (before + 1)
opcode_more f before lines so_far added =
    added ∙ ap (λ o. o ++ f (before + 1)) so_far ∙ ap (λ k. each_opcode f before ++ f k) (add-one before)
    ∙ sym (ap (each_opcode f) (add-one before))

-- six texts that are added one after the other
pub six : (old a b c d e f : List ℕ) {x y z w v u : List ℕ} → x ≡ old ++ a → y ≡ x ++ b → z ≡ y ++ c → w ≡ z ++ d
    → v ≡ w ++ e → u ≡ v ++ f → u ≡ old ++ (a ++ (b ++ (c ++ (d ++ (e ++ f)))))
six old a b c d e f {x} {y} first second third fourth fifth sixth =
    two old a (b ++ (c ++ (d ++ (e ++ f)))) first (two x b (c ++ (d ++ (e ++ f))) second (four y c d e f third fourth fifth sixth))
