-- Lines by their parts, texts one after another, and lists, of which no line is the mark.
use Rattle.std.proofs.Common.{◌≡◌, ℕ, zero, suc, true, List, [], ◌∷◌, ◌++◌, All, codes, append_assoc, refl, sym, ap, ◌∙◌, subst}
use Rattle.std.specs.List.{flat_map}
use Rattle.std.specs.Fmt.{decimal}
use Rattle.meta_lists.proofs.Everywhere.{everywhere}
use Rattle.meta_text.specs.Lines.{Line, indented, parts_onto, text_of}
use Rattle.meta_table_text.specs.declared.table_list.TableList.{TableList}
use Rattle.meta_table_text.specs.declared.table_list.TableList.TheVariants.{Formats, OpcodeSlots, TypeSets, Constraints, Entries}
use Rattle.meta_table_text.specs.declared.table_list.TableList.TheVariants.{Enumerators, Descriptors, SettingSlots, Presets}
use Rattle.meta_table_text.specs.Lists.{title_of, head_of, list_head, list_end, list_text}
use Rattle.meta_table_text.specs.OpcodeText.{each_opcode}
use Rattle.meta_table_reader.specs.Spans.{is_line}
use Rattle.meta_table_reader.proofs.Lacking.{line_after}
use Rattle.meta_table_reader.proofs.ItemsRead.{all_first, all_after}
use Rattle.meta_query.specs.Recheck.{mark}
use Rattle.meta_query.proofs.Unmarked.{IsUnmarked, unmarked_none, unmarked_both, differs, unmarked_line}
use Rattle.meta_query.proofs.Endless.{IsEndless, number_endless}

-- ---- lines by their parts

-- no part has LF
abbrev pub AreEndless : List (List ℕ) → Type 0
AreEndless [] = Unit {0}
AreEndless (part ∷ parts) = IsEndless part × AreEndless parts

-- no part of the line has LF; and it has spaces before it or isn't the mark
abbrev pub IsOther : ℕ → List (List ℕ) → Type 0
IsOther zero parts = AreEndless parts × (differs (parts_onto parts []) mark ≡ true)
IsOther (suc level) parts = AreEndless parts

abbrev pub AreOther : List Line → Type 0
AreOther [] = Unit {0}
AreOther (line ∷ lines) = IsOther line.level line.parts × AreOther lines

parts_line : (parts : List (List ℕ)) → AreEndless parts → is_line (parts_onto parts []) ≡ true
parts_line [] free = refl
parts_line (part ∷ parts) free = line_after part (parts_onto parts []) free.0 (parts_line parts free.1)

indented_line : (level : ℕ) (rest : List ℕ) → is_line rest ≡ true → is_line (indented level rest) ≡ true
indented_line zero rest is = is
indented_line (suc level) rest is = indented_line level rest is

other_unmarked : (level : ℕ) (parts : List (List ℕ)) → IsOther level parts → IsUnmarked (indented level (parts_onto parts []))
other_unmarked zero parts other = unmarked_line (parts_onto parts []) (parts_line parts other.0) other.1
other_unmarked (suc level) parts free =
    unmarked_line (indented (suc level) (parts_onto parts []))
    (indented_line (suc level) (parts_onto parts []) (parts_line parts free)) refl

parts_apart : (parts : List (List ℕ)) (rest : List ℕ) → parts_onto parts rest ≡ parts_onto parts [] ++ rest
parts_apart [] rest = refl
parts_apart (part ∷ parts) rest = ap (λ t. part ++ t) (parts_apart parts rest) ∙ sym (append_assoc part (parts_onto parts []) rest)

indented_apart : (level : ℕ) (line rest : List ℕ) → indented level (line ++ rest) ≡ indented level line ++ rest
indented_apart zero line rest = refl
indented_apart (suc level) line rest = ap (λ t. 32 ∷ 32 ∷ 32 ∷ 32 ∷ t) (indented_apart level line rest)

pub lines_unmarked : (lines : List Line) → AreOther lines → IsUnmarked (text_of lines)
lines_unmarked [] other = unmarked_none
lines_unmarked (line ∷ lines) other =
    subst IsUnmarked (sym (ap (indented line.level) (parts_apart line.parts (text_of lines))
    ∙ indented_apart line.level (parts_onto line.parts []) (text_of lines)))
    (unmarked_both (indented line.level (parts_onto line.parts [])) (text_of lines) (other_unmarked line.level line.parts other.0)
    (lines_unmarked lines other.1))

-- ---- texts one after another

pub each_unmarked : (f : ℕ → List ℕ) (n : ℕ) → ((op : ℕ) → IsUnmarked (f op)) → IsUnmarked (each_opcode f n)
each_unmarked f zero each = unmarked_none
each_unmarked f (suc n) each = unmarked_both (each_opcode f n) (f (suc n)) (each_unmarked f n each) (each (suc n))

pub all_unmarked : {X : Type 0} (f : X → List ℕ) (xs : List X) → All (λ x. IsUnmarked (f x)) xs → IsUnmarked (flat_map f xs)
all_unmarked f [] all = unmarked_none
all_unmarked f (x ∷ xs) all = unmarked_both (f x) (flat_map f xs) (all_first (λ x. IsUnmarked (f x)) x xs all)
    (all_unmarked f xs (all_after (λ x. IsUnmarked (f x)) x xs all))

pub any_unmarked : {X : Type 0} (f : X → List ℕ) (xs : List X) → ((x : X) → IsUnmarked (f x)) → IsUnmarked (flat_map f xs)
any_unmarked f xs each = all_unmarked f xs (everywhere xs (λ k x at. each x))

-- ---- lists

title_unmarked : (list : TableList) → IsUnmarked (title_of list)
title_unmarked Formats = unmarked_none
title_unmarked OpcodeSlots = unmarked_none
title_unmarked TypeSets = unmarked_line (title_of TypeSets) refl refl
title_unmarked Constraints = unmarked_line (title_of Constraints) refl refl
title_unmarked Entries = unmarked_line (title_of Entries) refl refl
title_unmarked Enumerators = unmarked_none
title_unmarked Descriptors = unmarked_none
title_unmarked SettingSlots = unmarked_none
title_unmarked Presets = unmarked_none

head_endless : (list : TableList) → IsEndless (head_of list)
head_endless Formats = refl
head_endless list = refl

head_differs : (list : TableList) (rest : List ℕ) → differs (head_of list ++ rest) mark ≡ true
head_differs Formats rest = refl
head_differs list rest = refl

head_unmarked : (list : TableList) (count : ℕ) → IsUnmarked (list_head list count)
unfolding list_head
head_unmarked list count =
    let after : List ℕ = decimal count ++ codes "] = [\n" in
    unmarked_both (title_of list) (head_of list ++ after) (title_unmarked list)
    (unmarked_line (head_of list ++ after) (line_after (head_of list) after (head_endless list)
    (line_after (decimal count) (codes "] = [\n") (number_endless count) refl)) (head_differs list after))

pub list_unmarked : (list : TableList) (count : ℕ) (lines : List ℕ) → IsUnmarked lines → IsUnmarked (list_text list count lines)
list_unmarked list count lines are = unmarked_both (list_head list count) (lines ++ list_end) (head_unmarked list count)
    (unmarked_both lines list_end are (unmarked_line list_end refl refl))
