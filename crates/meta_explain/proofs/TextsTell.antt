-- A text tells the set of types: two rising lists of types that are written alike are one.
use Rattle.std.proofs.Common.{◌≡◌, ◌+◌, ◌-◌, ◌*◌, ◌==◌, ◌&&◌, ◌||◌, not, eqb, ltb, Bool, true, false, cond, ℕ, List, [], ◌∷◌, ◌++◌, length, map, drop}
use Rattle.std.proofs.Common.{All, Contains, Option, None, Some, codes, append_assoc, if◌then◌else◌, refl, sym, ◌∙◌, ap, ap₂, subst}
use Rattle.std.specs.Fmt.{digits}
use Rattle.std.specs.List.{filter, list_all, list_any, join_by, flat_map}
use Rattle.std.specs.Cmp.Lexicographic.{bytes_decides}
use Rattle.std.proofs.lemmas.Bool.{false≢true, and_parts, and_from, eq-eqb, eqb-true}
use Rattle.std.proofs.lemmas.List.{length-map, append-nil}
use Rattle.std.proofs.lemmas.List.Folds.{list_all-append}
use Rattle.std.proofs.lemmas.Option.{same_Some}
use lib.Pointwise.{pointwise}
use Rattle.meta_lists.proofs.Contained.{contains_first, contains_none}
use Rattle.meta_types.specs.TypeParts.{NumberKind, IntKind, FloatKind, TypeParts, name_of, widths, lane_counts}
use Rattle.meta_types.specs.TypeNumber.{type_with, IsTypeNumber, number_named}
use Rattle.meta_types.proofs.AllTypes.{at_all, at_all_types}
use Rattle.meta_types.proofs.TypeNumbers.{name_numbered}
use Rattle.meta_typevar.proofs.Marks.{at_marks, marked, passes_at_marks, filter_marked}
use Rattle.meta_typevar.specs.Image.{has_some, is_one_lane}
use Rattle.meta_typevar.specs.TypeSetParts.{TypeSetParts, IsMember, widths_in}
use Rattle.meta_explain.specs.Listed.{IsLess, Rising}
use Rattle.meta_explain.specs.Sets.{has_lanes, has_width, least_set, numbers_in, is_one_set}
use Rattle.meta_explain.specs.Texts.{type_text, more_text, alternatives_text, members_text, part_texts, shows_lanes, item_text}
use Rattle.meta_explain.specs.Texts.{set_text}
use Rattle.meta_explain.proofs.Listing.{one_listed, rising_apart}
use Rattle.meta_explain.proofs.LeastSets.{numbers_to, numbers_from, numbers_rise}
use Rattle.meta_explain.proofs.Least.{least_has, exactly_one}
use Rattle.meta_explain.proofs.Numbered.{all_first, all_rest}

-- ---- a text that is cut at a byte

-- the byte before the first piece
abbrev before_all : ℕ → List (List ℕ) → List (List ℕ)
before_all x [] = (x ∷ []) ∷ []
before_all x (p ∷ ps) = (x ∷ p) ∷ ps

-- the pieces between the bytes b
abbrev cut : ℕ → List ℕ → List (List ℕ)
cut b [] = [] ∷ []
cut b (x ∷ xs) = cond (x == b) ([] ∷ cut b xs) (before_all x (cut b xs))

abbrev lacks : ℕ → List ℕ → Bool
lacks b xs = list_all (λ x. not (x == b)) xs

not_true : (b : Bool) → not b ≡ true → b ≡ false
not_true true e = sym e
not_true false e = refl

cut_last : (b : ℕ) (p : List ℕ) → lacks b p ≡ true → cut b p ≡ p ∷ []
cut_last b [] e = refl
cut_last b (x ∷ p) e =
    let (first, rest) = and_parts (not (x == b)) (lacks b p) e in
    ap (λ (t : Bool). cond t ([] ∷ cut b p) (before_all x (cut b p))) (not_true (x == b) first) ∙ ap (before_all x) (cut_last b p rest)

self : (b : ℕ) → (b == b) ≡ true
self b = eq-eqb b b refl

cut_first : (b : ℕ) (p rest : List ℕ) → lacks b p ≡ true → cut b (p ++ b ∷ rest) ≡ p ∷ cut b rest
cut_first b [] rest e = ap (λ (t : Bool). cond t ([] ∷ cut b rest) (before_all b (cut b rest))) (self b)
cut_first b (x ∷ p) rest e =
    let (first, after) = and_parts (not (x == b)) (lacks b p) e in
    ap (λ (t : Bool). cond t ([] ∷ cut b (p ++ b ∷ rest)) (before_all x (cut b (p ++ b ∷ rest)))) (not_true (x == b) first)
    ∙ ap (before_all x) (cut_first b p rest after)

-- ---- types by their names

-- 124 parts names, and no name has it, nor a blank
abbrev is_plain : TypeParts → Bool
is_plain t = lacks 124 (name_of t) && lacks 32 (name_of t)

all_plain : at_all is_plain ≡ true
unfolding digits
all_plain = refl

plain : (n : ℕ) → IsTypeNumber n → lacks 124 (type_text n) ≡ true
plain n is = (and_parts _ _ (at_all_types is_plain all_plain (type_with n) is.is_type)).0

unblank : (n : ℕ) → IsTypeNumber n → lacks 32 (type_text n) ≡ true
unblank n is = (and_parts (lacks 124 (type_text n)) _ (at_all_types is_plain all_plain (type_with n) is.is_type)).1

cut_names : (p ns : List ℕ) → lacks 124 p ≡ true → All IsTypeNumber ns → cut 124 (p ++ more_text ns) ≡ p ∷ map type_text ns
cut_names p [] e typed = ap (cut 124) (append-nil p) ∙ cut_last 124 p e
cut_names p (n ∷ ns) e typed =
    cut_first 124 p (type_text n ++ more_text ns) e
    ∙ ap (λ (ps : List (List ℕ)). p ∷ ps) (cut_names (type_text n) ns (plain n (all_first IsTypeNumber n ns typed))
    (all_rest IsTypeNumber n ns typed))

-- what a text of names tells
abbrev named : List ℕ → List (Option ℕ)
named text = map number_named (cut 124 text)

name_tells : (n : ℕ) → IsTypeNumber n → number_named (type_text n) ≡ Some n
name_tells n is = name_numbered (type_with n) is.is_type ∙ ap (λ k. Some k) is.numbered

names_tell : (ns : List ℕ) → All IsTypeNumber ns → map number_named (map type_text ns) ≡ map (λ (n : ℕ). Some n) ns
names_tell [] typed = refl
names_tell (n ∷ ns) typed = ap₂ (λ (o : Option ℕ) (os : List (Option ℕ)). o ∷ os) (name_tells n (all_first IsTypeNumber n ns typed))
    (names_tell ns (all_rest IsTypeNumber n ns typed))

-- the numbers of the names, or one name of no type where there are none
abbrev told_names : List ℕ → List (Option ℕ)
told_names [] = None ∷ []
told_names (n ∷ ns) = map (λ (m : ℕ). Some m) (n ∷ ns)

alternatives_tell : (ns : List ℕ) → All IsTypeNumber ns → named (alternatives_text ns) ≡ told_names ns
alternatives_tell [] typed = refl
alternatives_tell (n ∷ ns) typed =
    ap (map number_named) (cut_names (type_text n) ns (plain n (all_first IsTypeNumber n ns typed)) (all_rest IsTypeNumber n ns typed))
    ∙ names_tell (n ∷ ns) typed

some_one : (ns ms : List ℕ) → map (λ (n : ℕ). Some n) ns ≡ map (λ (m : ℕ). Some m) ms → ns ≡ ms
some_one [] [] e = refl
some_one [] (m ∷ ms) e = absurd (cc)
some_one (n ∷ ns) [] e = absurd (cc)
some_one (n ∷ ns) (m ∷ ms) e =
    let first : Some n ≡ Some m = cc in
    let rest : map (λ (n : ℕ). Some n) ns ≡ map (λ (m : ℕ). Some m) ms = cc in
    ap₂ (λ k (ks : List ℕ). k ∷ ks) (same_Some n m first) (some_one ns ms rest)

told_one : (ns ms : List ℕ) → told_names ns ≡ told_names ms → ns ≡ ms
told_one [] [] e = refl
told_one [] (m ∷ ms) e = let first : None ≡ Some m = cc in absurd (cc)
told_one (n ∷ ns) [] e = let first : Some n ≡ None = cc in absurd (cc)
told_one (n ∷ ns) (m ∷ ms) e = some_one (n ∷ ns) (m ∷ ms) e

-- two lists whose names are written alike are one
pub alternatives_one : (ns ms : List ℕ) → All IsTypeNumber ns → All IsTypeNumber ms → alternatives_text ns ≡ alternatives_text ms → ns ≡ ms
alternatives_one ns ms typed also e =
    told_one ns ms (sym (alternatives_tell ns typed) ∙ ap named e ∙ alternatives_tell ms also)

-- ---- the numbers of one dimension

-- the number that digits write, after one that was read
abbrev read_on : ℕ → List ℕ → ℕ
read_on n [] = n
read_on n (x ∷ xs) = read_on (n * 10 + (x - 48)) xs

-- whether the span that is written as these pieces between points has the number
abbrev covers : ℕ → List (List ℕ) → Bool
covers n [] = false
covers n (low ∷ []) = read_on 0 low == n
covers n (low ∷ gap ∷ []) = false
covers n (low ∷ gap ∷ high ∷ rest) = not (ltb n (read_on 0 low)) && not (ltb (read_on 0 high) n)

-- the numbers that are written: all, where the text has an `l`, and else those of its spans
abbrev members_in : List ℕ → List ℕ → List ℕ
members_in all text = if lacks 108 text then filter (λ n. list_any (λ word. covers n (cut 46 word)) (cut 32 text)) all else all

-- so they are read again; and their text has a blank, and no comma
abbrev reads : List ℕ → List ℕ → Bool
reads all xs = pointwise eqb (members_in all (members_text all xs)) xs
    && (lacks 44 (members_text all xs) && not (lacks 32 (members_text all xs)))

abbrev all_read : List ℕ → Bool
all_read all = at_marks (length all) (λ ms. reads all (marked ms all))

lanes_read : all_read (lane_counts false) ≡ true
unfolding digits
lanes_read = refl

dynamic_read : all_read (lane_counts true) ≡ true
unfolding digits
dynamic_read = refl

ints_read : all_read (widths IntKind) ≡ true
unfolding digits
ints_read = refl

floats_read : all_read (widths FloatKind) ≡ true
unfolding digits
floats_read = refl

all_reads : (all : List ℕ) → all_read all ≡ true → (p : ℕ → Bool) → reads all (filter p all) ≡ true
all_reads all e p =
    let at : at_marks (length (map p all)) (λ ms. reads all (marked ms all)) ≡ true =
    ap (λ k. at_marks k (λ ms. reads all (marked ms all))) (length-map all p) ∙ e in
    ap (reads all) (filter_marked p all) ∙ passes_at_marks (λ ms. reads all (marked ms all)) (map p all) at

read_back : (all : List ℕ) → all_read all ≡ true → (p : ℕ → Bool) → members_in all (members_text all (filter p all)) ≡ filter p all
read_back all e p = (bytes_decides _ _).0 (and_parts _ _ (all_reads all e p)).0

no_comma : (all : List ℕ) → all_read all ≡ true → (p : ℕ → Bool) → lacks 44 (members_text all (filter p all)) ≡ true
no_comma all e p = (and_parts _ _ (and_parts _ _ (all_reads all e p)).1).0

has_blank : (all : List ℕ) → all_read all ≡ true → (p : ℕ → Bool) → lacks 32 (members_text all (filter p all)) ≡ false
has_blank all e p = not_true _ (and_parts _ _ (and_parts _ _ (all_reads all e p)).1).1

members_one : (all : List ℕ) → all_read all ≡ true → (p q : ℕ → Bool) → members_text all (filter p all) ≡ members_text all (filter q all)
    → filter p all ≡ filter q all
members_one all e p q same = sym (read_back all e p) ∙ ap (members_in all) same ∙ read_back all e q

-- ---- the parts of an item

-- the pieces between commas, each but the first without the blank before it
abbrev unblanked : List ℕ → List ℕ
unblanked [] = []
unblanked (x ∷ xs) = xs

abbrev pieces : List (List ℕ) → List (List ℕ)
pieces [] = []
pieces (p ∷ ps) = p ∷ map unblanked ps

-- the first that begins with the letter
abbrev find : ℕ → List (List ℕ) → Option (List ℕ)
find c [] = None
find c ([] ∷ ps) = find c ps
find c ((x ∷ xs) ∷ ps) = cond (x == c) (Some (x ∷ xs)) (find c ps)

abbrev found : ℕ → List ℕ → Option (List ℕ)
found c text = find c (pieces (cut 44 text))

cut_parts : (p : List ℕ) (ps : List (List ℕ)) → lacks 44 p ≡ true → list_all (lacks 44) ps ≡ true
    → cut 44 (p ++ flat_map (λ (q : List ℕ). codes ", " ++ q) ps) ≡ p ∷ map (λ (q : List ℕ). 32 ∷ q) ps
cut_parts p [] e all = ap (cut 44) (append-nil p) ∙ cut_last 44 p e
cut_parts p (q ∷ qs) e all =
    let (first, rest) = and_parts (lacks 44 q) (list_all (lacks 44) qs) all in
    cut_first 44 p (32 ∷ (q ++ flat_map (λ (r : List ℕ). codes ", " ++ r) qs)) e
    ∙ ap (λ (rs : List (List ℕ)). p ∷ rs) (cut_parts (32 ∷ q) qs first rest)

blanks_gone : (ps : List (List ℕ)) → map unblanked (map (λ (q : List ℕ). 32 ∷ q) ps) ≡ ps
blanks_gone [] = refl
blanks_gone (p ∷ ps) = ap (λ (qs : List (List ℕ)). p ∷ qs) (blanks_gone ps)

found_parts : (c : ℕ) (ps : List (List ℕ)) → list_all (lacks 44) ps ≡ true → found c (join_by (λ p. p) (codes ", ") ps) ≡ find c ps
found_parts c [] e = refl
found_parts c (p ∷ ps) e =
    let (first, rest) = and_parts (lacks 44 p) (list_all (lacks 44) ps) e in
    ap (λ (qs : List (List ℕ)). find c (pieces qs)) (cut_parts p ps first rest)
    ∙ ap (λ (qs : List (List ℕ)). find c (p ∷ qs)) (blanks_gone ps)

-- a part that begins with another letter is passed over, and one that begins with the letter is found
abbrev shown : Bool → List ℕ → List (List ℕ)
shown true p = p ∷ []
shown false p = []

abbrev when : Bool → List ℕ → Option (List ℕ)
when true p = Some p
when false p = None

pass : (c h : ℕ) (b : Bool) (p : List ℕ) (rest : List (List ℕ)) → (h == c) ≡ false → find c (shown b (h ∷ p) ++ rest) ≡ find c rest
pass c h true p rest e = ap (λ (t : Bool). cond t (Some (h ∷ p)) (find c rest)) e
pass c h false p rest e = refl

take_part : (c : ℕ) (b : Bool) (p : List ℕ) (rest : List (List ℕ)) → find c rest ≡ None
    → find c (shown b (c ∷ p) ++ rest) ≡ when b (c ∷ p)
take_part c true p rest e = ap (λ (t : Bool). cond t (Some (c ∷ p)) (find c rest)) (self c)
take_part c false p rest e = e

module _ (l d n f : Bool) (a b c e : List ℕ) where
  abbrev four : List (List ℕ)
  four = shown l (108 ∷ a) ++ (shown d (100 ∷ b) ++ (shown n (105 ∷ c) ++ (shown f (102 ∷ e) ++ [])))

  four_lanes : find 108 four ≡ when l (108 ∷ a)
  four_lanes = take_part 108 l a _ (pass 108 100 d b _ refl ∙ pass 108 105 n c _ refl ∙ pass 108 102 f e [] refl)

  four_dynamic : find 100 four ≡ when d (100 ∷ b)
  four_dynamic = pass 100 108 l a _ refl ∙ take_part 100 d b _ (pass 100 105 n c _ refl ∙ pass 100 102 f e [] refl)

  four_ints : find 105 four ≡ when n (105 ∷ c)
  four_ints = pass 105 108 l a _ refl ∙ pass 105 100 d b _ refl ∙ take_part 105 n c _ (pass 105 102 f e [] refl)

  four_floats : find 102 four ≡ when f (102 ∷ e)
  four_floats = pass 102 108 l a _ refl ∙ pass 102 100 d b _ refl ∙ pass 102 105 n c _ refl ∙ take_part 102 f e [] refl

-- what is shown by two is shown by both alike
when_one : (b b' : Bool) (p p' : List ℕ) → when b p ≡ when b' p' → (b ≡ b') × (b ≡ true → p ≡ p')
when_one true true p p' e = let same : p ≡ p' = cc in (refl, λ t. same)
when_one true false p p' e = absurd (cc)
when_one false true p p' e = absurd (cc)
when_one false false p p' e = (refl, λ t. absurd (false≢true t))

-- ---- items

none_of : (xs : List ℕ) → has_some xs ≡ false → xs ≡ []
none_of [] e = refl
none_of (x ∷ xs) e = absurd (false≢true (sym e))

one_lane : (xs : List ℕ) → is_one_lane xs ≡ true → xs ≡ 1 ∷ []
one_lane [] e = absurd (false≢true e)
one_lane (x ∷ []) e = ap (λ (y : ℕ). y ∷ []) (eqb-true x 1 e)
one_lane (x ∷ y ∷ ys) e = absurd (false≢true e)

part_is : (b : Bool) (name all xs : List ℕ) → part_texts b name all xs ≡ shown b (name ++ members_text all xs)
part_is true name all xs = refl
part_is false name all xs = refl

all_lack : (b : Bool) (p : List ℕ) (rest : List (List ℕ)) → lacks 44 p ≡ true → list_all (lacks 44) rest ≡ true
    → list_all (lacks 44) (shown b p ++ rest) ≡ true
all_lack true p rest e h = and_from (lacks 44 p) (list_all (lacks 44) rest) e h
all_lack false p rest e h = h

from_left : (a b c d : List (List ℕ)) → ((a ++ b) ++ c) ++ d ≡ a ++ (b ++ (c ++ (d ++ [])))
from_left a b c d = append_assoc (a ++ b) c d ∙ append_assoc a b (c ++ d)
    ∙ ap (λ (x : List (List ℕ)). a ++ (b ++ (c ++ x))) (sym (append-nil d))

module _ (ns : List ℕ) where
  abbrev own : TypeSetParts
  own = least_set ns

  abbrev lanes_part : List ℕ
  lanes_part = codes "lanes" ++ members_text (lane_counts false) own.lanes

  abbrev dynamic_part : List ℕ
  dynamic_part = codes "dynamic" ++ members_text (lane_counts true) own.dynamic_lanes

  abbrev ints_part : List ℕ
  ints_part = codes "ints" ++ members_text (widths IntKind) own.ints

  abbrev floats_part : List ℕ
  floats_part = codes "floats" ++ members_text (widths FloatKind) own.floats

  abbrev parts : List (List ℕ)
  parts = shown (shows_lanes own) lanes_part ++ (shown (has_some own.dynamic_lanes) dynamic_part ++ (shown (has_some own.ints) ints_part
      ++ (shown (has_some own.floats) floats_part ++ [])))

  item_parts : item_text own ≡ join_by (λ p. p) (codes ", ") parts
  item_parts =
      let a = part_is (shows_lanes own) (codes "lanes") (lane_counts false) own.lanes in
      let b = part_is (has_some own.dynamic_lanes) (codes "dynamic") (lane_counts true) own.dynamic_lanes in
      let c = part_is (has_some own.ints) (codes "ints") (widths IntKind) own.ints in
      let d = part_is (has_some own.floats) (codes "floats") (widths FloatKind) own.floats in
      (λ i. join_by (λ p. p) (codes ", ") (((a i ++ b i) ++ c i) ++ d i))
      ∙ ap (join_by (λ p. p) (codes ", ")) (from_left (shown (shows_lanes own) lanes_part)
      (shown (has_some own.dynamic_lanes) dynamic_part) (shown (has_some own.ints) ints_part) (shown (has_some own.floats) floats_part))

  parts_lack : list_all (lacks 44) parts ≡ true
  parts_lack =
      all_lack (shows_lanes own) lanes_part _ (no_comma (lane_counts false) lanes_read (has_lanes ns false))
      (all_lack (has_some own.dynamic_lanes) dynamic_part _ (no_comma (lane_counts true) dynamic_read (has_lanes ns true))
      (all_lack (has_some own.ints) ints_part _ (no_comma (widths IntKind) ints_read (has_width ns IntKind))
      (all_lack (has_some own.floats) floats_part [] (no_comma (widths FloatKind) floats_read (has_width ns FloatKind)) refl)))

  found_in : (c : ℕ) → found c (item_text own) ≡ find c parts
  found_in c = ap (found c) item_parts ∙ found_parts c parts parts_lack

  abbrev tail_of : List ℕ → List ℕ
  tail_of text = drop 1 text

  found_lanes : found 108 (item_text own) ≡ when (shows_lanes own) lanes_part
  found_lanes = found_in 108 ∙ four_lanes (shows_lanes own) (has_some own.dynamic_lanes) (has_some own.ints) (has_some own.floats)
      (tail_of lanes_part) (tail_of dynamic_part) (tail_of ints_part) (tail_of floats_part)

  found_dynamic : found 100 (item_text own) ≡ when (has_some own.dynamic_lanes) dynamic_part
  found_dynamic = found_in 100 ∙ four_dynamic (shows_lanes own) (has_some own.dynamic_lanes) (has_some own.ints) (has_some own.floats)
      (tail_of lanes_part) (tail_of dynamic_part) (tail_of ints_part) (tail_of floats_part)

  found_ints : found 105 (item_text own) ≡ when (has_some own.ints) ints_part
  found_ints = found_in 105 ∙ four_ints (shows_lanes own) (has_some own.dynamic_lanes) (has_some own.ints) (has_some own.floats)
      (tail_of lanes_part) (tail_of dynamic_part) (tail_of ints_part) (tail_of floats_part)

  found_floats : found 102 (item_text own) ≡ when (has_some own.floats) floats_part
  found_floats = found_in 102 ∙ four_floats (shows_lanes own) (has_some own.dynamic_lanes) (has_some own.ints) (has_some own.floats)
      (tail_of lanes_part) (tail_of dynamic_part) (tail_of ints_part) (tail_of floats_part)

dimension_one : (all : List ℕ) → all_read all ≡ true → (p q : ℕ → Bool) → has_some (filter p all) ≡ has_some (filter q all)
    → (has_some (filter p all) ≡ true → members_text all (filter p all) ≡ members_text all (filter q all)) → filter p all ≡ filter q all
dimension_one all e p q same texts = by_case (has_some (filter p all)) refl
  where
    by_case : (b : Bool) → has_some (filter p all) ≡ b → filter p all ≡ filter q all
    by_case true t = members_one all e p q (texts t)
    by_case false t = none_of (filter p all) t ∙ sym (none_of (filter q all) (sym same ∙ t))

-- where lanes aren't shown there is one
hidden : (dynamic one : Bool) → (dynamic || not one) ≡ false → one ≡ true
hidden true one e = absurd (false≢true (sym e))
hidden false true e = refl
hidden false false e = absurd (false≢true (sym e))

module _ (ns ms : List ℕ) (e : item_text (least_set ns) ≡ item_text (least_set ms)) where
  same_lanes : (least_set ns).lanes ≡ (least_set ms).lanes
  same_lanes =
      let (same, texts) = when_one (shows_lanes (least_set ns)) (shows_lanes (least_set ms)) (lanes_part ns) (lanes_part ms)
      (sym (found_lanes ns) ∙ ap (found 108) e ∙ found_lanes ms) in
      by_case (shows_lanes (least_set ns)) refl same texts
    where
      by_case : (b : Bool) → shows_lanes (least_set ns) ≡ b → shows_lanes (least_set ns) ≡ shows_lanes (least_set ms)
          → (shows_lanes (least_set ns) ≡ true → lanes_part ns ≡ lanes_part ms) → (least_set ns).lanes ≡ (least_set ms).lanes
      by_case true t same texts = members_one (lane_counts false) lanes_read (has_lanes ns false) (has_lanes ms false) (ap (drop 5) (texts t))
      by_case false t same texts =
          one_lane (least_set ns).lanes (hidden (has_some (least_set ns).dynamic_lanes) (is_one_lane (least_set ns).lanes) t)
          ∙ sym (one_lane (least_set ms).lanes (hidden (has_some (least_set ms).dynamic_lanes) (is_one_lane (least_set ms).lanes)
          (sym same ∙ t)))

  pub same_sets : least_set ns ≡ least_set ms
  same_sets =
      let dynamic = when_one (has_some (least_set ns).dynamic_lanes) (has_some (least_set ms).dynamic_lanes) (dynamic_part ns)
      (dynamic_part ms) (sym (found_dynamic ns) ∙ ap (found 100) e ∙ found_dynamic ms) in
      let ints = when_one (has_some (least_set ns).ints) (has_some (least_set ms).ints) (ints_part ns) (ints_part ms)
      (sym (found_ints ns) ∙ ap (found 105) e ∙ found_ints ms) in
      let floats = when_one (has_some (least_set ns).floats) (has_some (least_set ms).floats) (floats_part ns) (floats_part ms)
      (sym (found_floats ns) ∙ ap (found 102) e ∙ found_floats ms) in
      let l = same_lanes in
      let d = dimension_one (lane_counts true) dynamic_read (has_lanes ns true) (has_lanes ms true) dynamic.0
      (λ t. ap (drop 7) (dynamic.1 t)) in
      let n = dimension_one (widths IntKind) ints_read (has_width ns IntKind) (has_width ms IntKind) ints.0 (λ t. ap (drop 4) (ints.1 t)) in
      let f = dimension_one (widths FloatKind) floats_read (has_width ns FloatKind) (has_width ms FloatKind) floats.0
      (λ t. ap (drop 6) (floats.1 t)) in
      λ i. record { lanes = l i; dynamic_lanes = d i; ints = n i; floats = f i }

-- ---- names have no blank, and items have one

more_unblank : (ns : List ℕ) → All IsTypeNumber ns → lacks 32 (more_text ns) ≡ true
more_unblank [] typed = refl
more_unblank (n ∷ ns) typed =
    list_all-append (λ x. not (x == 32)) (type_text n) (more_text ns)
    ∙ and_from (lacks 32 (type_text n)) (lacks 32 (more_text ns)) (unblank n (all_first IsTypeNumber n ns typed))
    (more_unblank ns (all_rest IsTypeNumber n ns typed))

names_unblank : (ns : List ℕ) → All IsTypeNumber ns → lacks 32 (alternatives_text ns) ≡ true
names_unblank [] typed = refl
names_unblank (n ∷ ns) typed = more_unblank (n ∷ ns) typed

before_lacks : (x : ℕ) (ps : List (List ℕ)) → not (x == 32) ≡ true → list_all (lacks 32) ps ≡ true
    → list_all (lacks 32) (before_all x ps) ≡ true
before_lacks x [] e h = and_from (not (x == 32) && true) true (and_from (not (x == 32)) true e refl) refl
before_lacks x (p ∷ ps) e h =
    let (first, rest) = and_parts (lacks 32 p) (list_all (lacks 32) ps) h in
    and_from (not (x == 32) && lacks 32 p) (list_all (lacks 32) ps) (and_from (not (x == 32)) (lacks 32 p) e first) rest

cut_lacks : (b : ℕ) (text : List ℕ) → lacks 32 text ≡ true → list_all (lacks 32) (cut b text) ≡ true
cut_lacks b [] e = refl
cut_lacks b (x ∷ xs) e =
    let (first, rest) = and_parts (not (x == 32)) (lacks 32 xs) e in
    let below = cut_lacks b xs rest in
    elim (x == b) as (λ t. list_all (lacks 32) (cond t ([] ∷ cut b xs) (before_all x (cut b xs))) ≡ true) [
      | true ↦ below
      | false ↦ before_lacks x (cut b xs) first below
    ]

unblanked_lack : (ps : List (List ℕ)) → list_all (lacks 32) ps ≡ true → list_all (lacks 32) (map unblanked ps) ≡ true
unblanked_lack [] e = refl
unblanked_lack ([] ∷ ps) e = unblanked_lack ps e
unblanked_lack ((x ∷ xs) ∷ ps) e =
    let (first, rest) = and_parts (lacks 32 (x ∷ xs)) (list_all (lacks 32) ps) e in
    and_from (lacks 32 xs) (list_all (lacks 32) (map unblanked ps)) (and_parts (not (x == 32)) (lacks 32 xs) first).1
    (unblanked_lack ps rest)

pieces_lack : (ps : List (List ℕ)) → list_all (lacks 32) ps ≡ true → list_all (lacks 32) (pieces ps) ≡ true
pieces_lack [] e = refl
pieces_lack (p ∷ ps) e =
    let (first, rest) = and_parts (lacks 32 p) (list_all (lacks 32) ps) e in
    and_from (lacks 32 p) (list_all (lacks 32) (map unblanked ps)) first (unblanked_lack ps rest)

find_lacks : (c : ℕ) (ps : List (List ℕ)) (p : List ℕ) → list_all (lacks 32) ps ≡ true → find c ps ≡ Some p → lacks 32 p ≡ true
find_lacks c [] p e h = absurd (cc)
find_lacks c ([] ∷ ps) p e h = find_lacks c ps p e h
find_lacks c ((x ∷ xs) ∷ ps) p e h =
    let (first, rest) = and_parts (lacks 32 (x ∷ xs)) (list_all (lacks 32) ps) e in
    let below = find_lacks c ps p rest in
    elim (x == c) as (λ t. cond t (Some (x ∷ xs)) (find c ps) ≡ Some p → lacks 32 p ≡ true) [
      | true ↦ λ is. subst (λ (q : List ℕ). lacks 32 q ≡ true) (same_Some (x ∷ xs) p is) first
      | false ↦ below
    ] h

found_lacks : (c : ℕ) (text p : List ℕ) → lacks 32 text ≡ true → found c text ≡ Some p → lacks 32 p ≡ true
found_lacks c text p e h = find_lacks c (pieces (cut 44 text)) p (pieces_lack (cut 44 text) (cut_lacks 44 text e)) h

-- what is found in a text without a blank isn't shown
not_shown : (c : ℕ) (text p : List ℕ) (b : Bool) → lacks 32 text ≡ true → lacks 32 p ≡ false → found c text ≡ when b p → b ≡ false
not_shown c text p true e blank h = absurd (false≢true (sym blank ∙ found_lacks c text p e h))
not_shown c text p false e blank h = refl

pub no_item : (n : ℕ) (ns : List ℕ) → All IsTypeNumber (n ∷ ns) → lacks 32 (item_text (least_set (n ∷ ns))) ≡ true → ⊥
no_item n ns typed e =
    let s = least_set (n ∷ ns) in
    let ints = not_shown 105 (item_text s) (ints_part (n ∷ ns)) (has_some s.ints) e
    (has_blank (widths IntKind) ints_read (has_width (n ∷ ns) IntKind)) (found_ints (n ∷ ns)) in
    let floats = not_shown 102 (item_text s) (floats_part (n ∷ ns)) (has_some s.floats) e
    (has_blank (widths FloatKind) floats_read (has_width (n ∷ ns) FloatKind)) (found_floats (n ∷ ns)) in
    nowhere (type_with n).kind (least_has (n ∷ ns) n typed (contains_first n ns)).width (none_of s.ints ints) (none_of s.floats floats)
  where
    nowhere : (k : NumberKind) → Contains (widths_in (least_set (n ∷ ns)) k) (type_with n).width → (least_set (n ∷ ns)).ints ≡ []
        → (least_set (n ∷ ns)).floats ≡ [] → ⊥
    nowhere IntKind c ints floats = contains_none (type_with n).width (subst (λ (xs : List ℕ). Contains xs (type_with n).width) ints c)
    nowhere FloatKind c ints floats = contains_none (type_with n).width (subst (λ (xs : List ℕ). Contains xs (type_with n).width) floats c)

-- ---- sets

-- the rising list of the types of one set is that of its least set
one_set_list : (ns : List ℕ) → All IsTypeNumber ns → Rising ns → is_one_set ns ≡ true → ns ≡ numbers_in (least_set ns)
one_set_list ns typed rises one =
    let told = (exactly_one ns typed).0 one in
    one_listed IsLess rising_apart (λ n. IsTypeNumber n × IsMember (least_set ns) (type_with n)) ns (numbers_in (least_set ns))
    (record { contains = told; order = rises })
    (record {
      contains = λ n. (λ c. numbers_to (least_set ns) n c, λ (is, m). numbers_from (least_set ns) n is m);
      order = numbers_rise (least_set ns);
    })

-- how a set is written, by whether by its names
abbrev names : List ℕ → Bool
names ns = ltb (length ns) 2 || not (is_one_set ns)

abbrev text_as : List ℕ → Bool → List ℕ
text_as ns b = if b then alternatives_text ns else item_text (least_set ns)

some_types : (ns : List ℕ) → names ns ≡ false → (n : ℕ) × (rest : List ℕ) × (ns ≡ n ∷ rest)
some_types [] e = absurd (false≢true (sym e))
some_types (n ∷ rest) e = (n, rest, refl)

is_set : (ns : List ℕ) → names ns ≡ false → is_one_set ns ≡ true
is_set ns e = hidden (ltb (length ns) 2) (is_one_set ns) e

unlike : (ns ms : List ℕ) → All IsTypeNumber ns → All IsTypeNumber ms → names ms ≡ false
    → alternatives_text ns ≡ item_text (least_set ms) → ⊥
unlike ns ms typed also other e =
    let (m, rest, is) = some_types ms other in
    no_item m rest (subst (All IsTypeNumber) is also)
    (subst (λ (ks : List ℕ). lacks 32 (item_text (least_set ks)) ≡ true) is
    (subst (λ (text : List ℕ). lacks 32 text ≡ true) e (names_unblank ns typed)))

pub set_one : (ns ms : List ℕ) → All IsTypeNumber ns → All IsTypeNumber ms → Rising ns → Rising ms → set_text ns ≡ set_text ms → ns ≡ ms
set_one ns ms typed also rises too e = by_case (names ns) (names ms) refl refl e
  where
    by_case : (a b : Bool) → names ns ≡ a → names ms ≡ b → text_as ns (names ns) ≡ text_as ms (names ms) → ns ≡ ms
    by_case true true h g e = alternatives_one ns ms typed also (sym (ap (text_as ns) h) ∙ e ∙ ap (text_as ms) g)
    by_case true false h g e = absurd (unlike ns ms typed also g (sym (ap (text_as ns) h) ∙ e ∙ ap (text_as ms) g))
    by_case false true h g e = absurd (unlike ms ns also typed h (sym (ap (text_as ms) g) ∙ sym e ∙ ap (text_as ns) h))
    by_case false false h g e =
        let same = same_sets ns ms (sym (ap (text_as ns) h) ∙ e ∙ ap (text_as ms) g) in
        one_set_list ns typed rises (is_set ns h) ∙ ap numbers_in same ∙ sym (one_set_list ms also too (is_set ms g))
