-- The text of tables shows only texts without LF.
--     IsEndless text        no LF stands in the text
use Rattle.std.proofs.Common.{◌≡◌, ℕ, zero, suc, ◌/◌, ◌%◌, ◌==◌, cond, not, ◌&&◌, Bool, true, false, inl, List, [], ◌∷◌, ◌++◌, All}
use Rattle.std.proofs.Common.{map, Option, None, Some, codes, refl, arith}
use Rattle.std.specs.List.{find, flat_map, list_all}
use Rattle.std.specs.Fmt.{decimal, digits, digit_glyph}
use Rattle.std.proofs.lemmas.Bool.{and_parts}
use Rattle.std.proofs.lemmas.Bool.Decides.{nat_tests}
use Rattle.std.proofs.lemmas.List.Elements.{All-cons, All-map}
use Rattle.meta_lists.proofs.Everywhere.{everywhere, at_place}
use Rattle.meta_types.specs.Name.{IsNameByte, IsName}
use Rattle.meta_types.specs.CamelCase.{capital_at, camel_from, camel_case_of}
use Rattle.meta_types.specs.TypeParts.{TypeParts, number_of}
use Rattle.meta_types.specs.TypeText.{rust_name_of}
use Rattle.meta_types.specs.AllTypes.{all_types}
use Rattle.meta_types.specs.Function.{LaneOf}
use Rattle.meta_typevar.specs.declared.masks.Masks.{Masks}
use Rattle.meta_inst.specs.Which.{First, Second}
use Rattle.meta_inst.specs.Tables.{NumberConstraint, ConcreteNumber, FreeOf, SameNumber, ByNumber, at_opcode}
use Rattle.meta_settings.specs.GroupFaults.{IsPlainByte}
use Rattle.meta_setting_tables.specs.declared.descriptor.Detail.{Detail}
use Rattle.meta_setting_tables.specs.declared.descriptor.Detail.TheVariants.{Bool as ABool, Enum as AnEnum, Num as ANum, Preset}
use Rattle.meta_table_reader.specs.Spans.{lacks}
use Rattle.meta_table_reader.proofs.Lacking.{both_lack, lacks_by, any_number_lacks}
use Rattle.meta_table_reader.proofs.ItemsRead.{all_first, all_after}
use Rattle.meta_table_text.specs.TypeSetText.{parted_after, powers, held, members, part_of, masks_text, set_or_nothing}
use Rattle.meta_table_text.specs.ConstraintText.{type_numbered, rust_name_or_nothing, type_text, constraint_text, quoted, quoted_all}
use Rattle.meta_table_text.specs.OpcodeText.{or_nothing, bool_text, hex_byte}
use Rattle.meta_table_text.specs.GroupItems.{hex_text, binary_text, detail_text, slot_number_text, texts_with_commas, bytes_text}

-- no LF stands in the text
abbrev pub IsEndless : List ℕ → Type 0
IsEndless text = lacks 10 text ≡ true

-- ---- numbers

pub number_endless : (n : ℕ) → IsEndless (decimal n)
number_endless n = any_number_lacks 10 refl n

glyph_other : (d : ℕ) → (digit_glyph false d == 10) ≡ false
glyph_other d = grind (arith, nat_tests)

-- digits, each of its number
glyphs_endless : (ds : List ℕ) → IsEndless (map (digit_glyph false) ds)
glyphs_endless [] = refl
glyphs_endless (d ∷ ds) = (λ i. not (glyph_other d i) && glyphs_endless ds i)

pub hex_endless : (n : ℕ) → IsEndless (hex_byte n)
unfolding hex_byte
hex_endless n = glyphs_endless (n / 16 ∷ n % 16 ∷ [])

pub binary_endless : (byte : ℕ) → IsEndless (binary_text byte)
unfolding binary_text
binary_endless byte =
    glyphs_endless (map (λ place. byte / place % 2) (128 ∷ 64 ∷ 32 ∷ 16 ∷ 8 ∷ 4 ∷ 2 ∷ 1 ∷ []))

pub bool_endless : (b : Bool) → IsEndless (bool_text b)
bool_endless true = refl
bool_endless false = refl

-- ---- names

no_end : (c : ℕ) → IsNameByte c → c ≡ 10 → ⊥
no_end c is e = grind arith

all_name_bytes : (name : List ℕ) → IsName name → All IsNameByte name
all_name_bytes [] is = absurd is
all_name_bytes (c ∷ cs) (letter, others) = All-cons IsNameByte c cs (inl letter) others

pub name_endless : (name : List ℕ) → IsName name → IsEndless name
name_endless name is = lacks_by IsNameByte 10 no_end name (all_name_bytes name is)

pub description_endless : (text : List ℕ) → All IsPlainByte text → IsEndless text
description_endless text all = lacks_by IsPlainByte 10 (λ c is e. let least = is.least in omega (arith, least, e)) text all

capital_other : (up : Bool) (c : ℕ) → IsNameByte c → (capital_at up c == 10) ≡ false
capital_other true c is = grind (arith, nat_tests)
capital_other false c is = grind (arith, nat_tests)

camel_from_endless : (up : Bool) (name : List ℕ) → All IsNameByte name → IsEndless (camel_from up name)
camel_from_endless up [] all = refl
camel_from_endless up (c ∷ cs) all =
    by_test (c == 95) (camel_from_endless true cs (all_after IsNameByte c cs all))
    (camel_from_endless false cs (all_after IsNameByte c cs all))
  where
    by_test : (b : Bool) → IsEndless (camel_from true cs) → IsEndless (camel_from false cs)
        → IsEndless (cond b (camel_from true cs) (capital_at up c ∷ camel_from false cs))
    by_test true dropped kept = dropped
    by_test false dropped kept = (λ i. not (capital_other up c (all_first IsNameByte c cs all) i) && kept i)

named_at : (names : List (List ℕ)) (op : ℕ) (name : List ℕ) → All IsName names → at_opcode names op ≡ Some name → IsName name
named_at names zero name all at = absurd (cc)
named_at names (suc k) name all at = at_place IsName names k name all at

-- the name at a place, if there is one, and its camel case
pub name_at_endless : (names : List (List ℕ)) (op : ℕ) → All IsName names → IsEndless (or_nothing (at_opcode names op))
name_at_endless names op all = by_option (at_opcode names op) (λ name at. named_at names op name all at)
  where
    by_option : (found : Option (List ℕ)) → ((name : List ℕ) → found ≡ Some name → IsName name) → IsEndless (or_nothing found)
    by_option None named = refl
    by_option (Some name) named = name_endless name (named name refl)

pub camel_at_endless : (names : List (List ℕ)) (op : ℕ) → All IsName names → IsEndless (camel_case_of (or_nothing (at_opcode names op)))
camel_at_endless names op all = by_option (at_opcode names op) (λ name at. named_at names op name all at)
  where
    by_option : (found : Option (List ℕ)) → ((name : List ℕ) → found ≡ Some name → IsName name)
        → IsEndless (camel_case_of (or_nothing found))
    by_option None named = refl
    by_option (Some name) named = camel_from_endless true name (all_name_bytes name (named name refl))

-- ---- texts that are separated

after_endless : (texts : List (List ℕ)) → All IsEndless texts → IsEndless (flat_map (λ text. codes ", " ++ text) texts)
after_endless [] all = refl
after_endless (text ∷ texts) all = both_lack 10 (codes ", " ++ text) (flat_map (λ text. codes ", " ++ text) texts)
    (all_first IsEndless text texts all) (after_endless texts (all_after IsEndless text texts all))

pub names_endless : (names : List (List ℕ)) → All IsEndless names → IsEndless (texts_with_commas names)
names_endless [] all = refl
names_endless (name ∷ names) all = both_lack 10 name (flat_map (λ name. codes ", " ++ name) names) (all_first IsEndless name names all)
    (after_endless names (all_after IsEndless name names all))

hexes_after : (bytes : List ℕ) → IsEndless (flat_map (λ byte. codes ", " ++ hex_text byte) bytes)
hexes_after [] = refl
hexes_after (byte ∷ bytes) =
    both_lack 10 (codes ", " ++ hex_text byte) (flat_map (λ byte. codes ", " ++ hex_text byte) bytes)
    (glyphs_endless (byte / 16 ∷ byte % 16 ∷ [])) (hexes_after bytes)

pub bytes_endless : (bytes : List ℕ) → IsEndless (bytes_text bytes)
bytes_endless [] = refl
bytes_endless (byte ∷ bytes) = both_lack 10 (hex_text byte) (flat_map (λ byte. codes ", " ++ hex_text byte) bytes)
    (glyphs_endless (byte / 16 ∷ byte % 16 ∷ [])) (hexes_after bytes)

parted_endless : (before : List ℕ) (texts : List (List ℕ)) → IsEndless before → All IsEndless texts → IsEndless (parted_after before texts)
parted_endless before [] free all = refl
parted_endless before (text ∷ texts) free all =
    both_lack 10 before (text ++ parted_after (codes ", ") texts) free
    (both_lack 10 text (parted_after (codes ", ") texts) (all_first IsEndless text texts all)
    (parted_endless (codes ", ") texts refl (all_after IsEndless text texts all)))

-- ---- type sets

members_endless : (mask : ℕ) → IsEndless (members mask)
unfolding members
members_endless mask = parted_endless [] (map decimal (held mask powers)) refl
    (All-map IsEndless decimal (held mask powers) (everywhere (held mask powers) (λ k n at. number_endless n)))

part_endless : (before : List ℕ) (mask : ℕ) → IsEndless before → IsEndless (part_of before mask)
unfolding part_of
part_endless before mask free = by_test (mask == 0)
  where
    by_test : (b : Bool) → IsEndless (cond b [] (before ++ (members mask ++ codes "}")))
    by_test true = refl
    by_test false = both_lack 10 before (members mask ++ codes "}") free
        (both_lack 10 (members mask) (codes "}") (members_endless mask) refl)

pub set_endless : (m : Masks) → IsEndless (masks_text m)
unfolding masks_text
set_endless m =
    both_lack 10 (members m.lanes) (codes "}" ++ (part_of (codes ", ints={") m.ints
    ++ (part_of (codes ", floats={") m.floats ++ codes ")"))) (members_endless m.lanes)
    (both_lack 10 (part_of (codes ", ints={") m.ints) (part_of (codes ", floats={") m.floats ++ codes ")")
    (part_endless (codes ", ints={") m.ints refl)
    (both_lack 10 (part_of (codes ", floats={") m.floats) (codes ")") (part_endless (codes ", floats={") m.floats refl) refl))

pub set_or_nothing_endless : (m : Option Masks) → IsEndless (set_or_nothing m)
set_or_nothing_endless None = refl
set_or_nothing_endless (Some m) = set_endless m

-- ---- constraints

all_types_endless : list_all (λ t. lacks 10 (rust_name_of t)) all_types ≡ true
unfolding digits
all_types_endless = refl

found_endless : (is : TypeParts → Bool) (ts : List TypeParts) → list_all (λ t. lacks 10 (rust_name_of t)) ts ≡ true
    → IsEndless (rust_name_or_nothing (find is ts))
found_endless is [] all = refl
found_endless is (t ∷ ts) all =
    let (here, after) = and_parts (lacks 10 (rust_name_of t)) (list_all (λ t. lacks 10 (rust_name_of t)) ts) all in
    by_test (is t) here (found_endless is ts after)
  where
    by_test : (b : Bool) → IsEndless (rust_name_of t) → IsEndless (rust_name_or_nothing (find is ts))
        → IsEndless (rust_name_or_nothing (cond b (Some t) (find is ts)))
    by_test true here after = here
    by_test false here after = after

type_endless : (n : ℕ) → IsEndless (type_text n)
unfolding type_text type_numbered
type_endless n = found_endless (λ t. number_of t == n) all_types all_types_endless

pub constraint_endless : (c : NumberConstraint) → IsEndless (constraint_text c)
constraint_endless (ConcreteNumber n) = both_lack 10 (type_text n) (codes ")") (type_endless n) refl
constraint_endless (FreeOf j) = both_lack 10 (decimal j) (codes ")") (number_endless j) refl
constraint_endless (SameNumber First) = refl
constraint_endless (SameNumber Second) = refl
constraint_endless (ByNumber First LaneOf) = refl
constraint_endless (ByNumber First f) = refl
constraint_endless (ByNumber Second LaneOf) = refl
constraint_endless (ByNumber Second f) = refl

quoted_endless : (c : NumberConstraint) → IsEndless (quoted c)
unfolding quoted
quoted_endless c = both_lack 10 (constraint_text c) (codes "'") (constraint_endless c) refl

pub quoted_all_endless : (cs : List NumberConstraint) → IsEndless (quoted_all cs)
unfolding quoted_all
quoted_all_endless cs = parted_endless [] (map quoted cs) refl
    (All-map IsEndless quoted cs (everywhere cs (λ k c at. quoted_endless c)))

-- ---- entries of groups

pub detail_endless : (d : Detail) → IsEndless (detail_text d)
detail_endless (ABool bit) = both_lack 10 (decimal bit) (codes " }") (number_endless bit) refl
detail_endless (AnEnum last place) =
    both_lack 10 (decimal last) (codes ", enumerators: " ++ (decimal place ++ codes " }")) (number_endless last)
    (both_lack 10 (decimal place) (codes " }") (number_endless place) refl)
detail_endless ANum = refl
detail_endless Preset = refl

pub slot_endless : (slot : Option ℕ) → IsEndless (slot_number_text slot)
slot_endless None = refl
slot_endless (Some number) = number_endless number
