-- The block of an opcode, field by field.
use Rattle.std.proofs.Common.{◌≡◌, ℕ, suc, ◌+◌, ◌/◌, ◌%◌, ◌<◌, ◌^◌, false, List, ◌∷◌, ◌++◌, All, slice_get, Some, codes, append_assoc, refl}
use Rattle.std.proofs.Common.{sym, ap, ◌∙◌, subst, arith}
use Rattle.std.specs.Fmt.{decimal, digit_glyph}
use Rattle.std.specs.List.{flat_map}
use Rattle.std.proofs.lemmas.Bool.Decides.{nat_tests}
use Rattle.meta_types.specs.Name.{IsName}
use Rattle.meta_inst.specs.Tables.{TableContents, OpcodeNumbers}
use Rattle.meta_table_text.specs.declared.version.Version.{Version}
use Rattle.meta_table_text.specs.declared.version.Version.TheVariants.{One, Two, Three}
use Rattle.meta_table_text.specs.Version.{offset_shown}
use Rattle.meta_table_text.specs.TypeSetText.{block_end}
use Rattle.meta_table_text.specs.OpcodeText.{hex_byte, flags_lines, place_line, second_line, entry_fields, entry_comments, entry_block}
use Rattle.meta_table_text.specs.OpcodeText.{block_or_nothing, opcode_block}
use Rattle.meta_table_reader.proofs.Cancel.{cancel_front, cancel_number, cancel_lines}
use Rattle.meta_table_reader.specs.EntryLines.{control_lines, second_lines}
use Rattle.meta_table_reader.specs.Shown.{IsShownConstraint, IsShownOffset, IsShownSecond, IsShownEntry}
use Rattle.meta_table_reader.proofs.Offsets.{shown_small, offset_told}
use Rattle.meta_table_reader.proofs.EntryComments.{block_lines, lines_joined, lines_count, lines_are}

-- what stands before each field
abbrev pub before_flags : List ℕ
before_flags = codes "    OpcodeConstraints {\n        flags: 0x"

abbrev pub before_set : List ℕ
before_set = codes ",\n        typeset_offset: "

abbrev pub before_second : List ℕ
before_second = codes "        second_offset: "

abbrev pub before_place : List ℕ
before_place = codes "        constraint_offset: "

-- what comes after each field, and then the rest
module _ (v : Version) (t : TableContents) (op : ℕ) (e : OpcodeNumbers) (rest : List ℕ) where
  abbrev pub at_lines : List ℕ
  at_lines = flat_map (λ line. line) (block_lines v t op e) ++ rest

  abbrev pub at_place : List ℕ
  at_place = before_place ++ (decimal e.constraint_offset ++ (codes ",\n" ++ at_lines))

  abbrev pub at_second : List ℕ
  at_second = second_line v e ++ at_place

  abbrev pub at_set : List ℕ
  at_set = before_set ++ (decimal (offset_shown v e.typeset_offset) ++ (codes ",\n" ++ at_second))

  -- the block, and then the rest
  pub entry_opened : entry_block v t op e ++ rest ≡ before_flags ++ digit_glyph false (e.flags / 16)
      ∷ digit_glyph false (e.flags % 16) ∷ at_set
  unfolding entry_block entry_fields flags_lines hex_byte place_line
  entry_opened =
      let head : List ℕ = before_flags ++ digit_glyph false (e.flags / 16) ∷ digit_glyph false (e.flags % 16) ∷ codes ",\n" in
      grouped head (codes "        typeset_offset: ") (decimal (offset_shown v e.typeset_offset)) (codes ",\n")
      (second_line v e) before_place (decimal e.constraint_offset) (entry_comments v t op e) block_end rest
      ∙ ap (λ w. head ++ (codes "        typeset_offset: "
      ++ (decimal (offset_shown v e.typeset_offset)
      ++ (codes ",\n" ++ (second_line v e ++ (before_place ++ (decimal e.constraint_offset ++ (codes ",\n" ++ (w ++ rest)))))))))
      (sym (lines_joined v t op e))
    where
      grouped : (f p n q s k m c b rest : List ℕ) → ((f ++ ((p ++ (n ++ q)) ++ (s ++ (k ++ (m ++ q))))) ++ (c ++ b)) ++ rest
          ≡ f ++ (p ++ (n ++ (q ++ (s ++ (k ++ (m ++ (q ++ ((c ++ b) ++ rest))))))))
      grouped f p n q s k m c b rest = simp append_assoc

-- the line of the second control, where the version has it, and then the rest
pub second_opened : (v : Version) (e : OpcodeNumbers) (rest : List ℕ)
    → place_line (codes "second_offset") (offset_shown v e.second_offset) ++ rest
    ≡ before_second ++ (decimal (offset_shown v e.second_offset) ++ (codes ",\n" ++ rest))
unfolding place_line
second_opened v e rest =
    ap (λ (w : List ℕ). before_second ++ w) (append_assoc (decimal (offset_shown v e.second_offset)) (codes ",\n") rest)

pub second_two : (v : Version) (e : OpcodeNumbers) (rest : List ℕ) → v ≡ Two
    → second_line v e ++ rest ≡ before_second ++ (decimal (offset_shown v e.second_offset) ++ (codes ",\n" ++ rest))
unfolding second_line
second_two v e rest is = ap (λ v. second_line v e ++ rest) is ∙ second_opened Two e rest
    ∙ ap (λ v. before_second ++ (decimal (offset_shown v e.second_offset) ++ (codes ",\n" ++ rest))) (sym is)

pub second_three : (v : Version) (e : OpcodeNumbers) (rest : List ℕ) → v ≡ Three
    → second_line v e ++ rest ≡ before_second ++ (decimal (offset_shown v e.second_offset) ++ (codes ",\n" ++ rest))
unfolding second_line
second_three v e rest is = ap (λ v. second_line v e ++ rest) is ∙ second_opened Three e rest
    ∙ ap (λ v. before_second ++ (decimal (offset_shown v e.second_offset) ++ (codes ",\n" ++ rest))) (sym is)

-- what is shown there
pub shown_two : (v : Version) (offset : ℕ) → v ≡ Two → IsShownSecond v offset → IsShownOffset v offset
shown_two v offset is shown = subst (λ v. IsShownOffset v offset) (sym is) (subst (λ v. IsShownSecond v offset) is shown)

pub shown_three : (v : Version) (offset : ℕ) → v ≡ Three → IsShownSecond v offset → IsShownOffset v offset
shown_three v offset is shown = subst (λ v. IsShownOffset v offset) (sym is) (subst (λ v. IsShownSecond v offset) is shown)

pub second_one : (e : OpcodeNumbers) (rest : List ℕ) → second_line One e ++ rest ≡ rest
unfolding second_line
second_one e rest = refl

-- ---- the block tells the numbers

place_told : (m n : ℕ) (r s : List ℕ) → m < 2 ^ 16 → n < 2 ^ 16 → decimal m ++ (codes ",\n" ++ r) ≡ decimal n ++ (codes ",\n" ++ s)
    → (m ≡ n) × (r ≡ s)
place_told m n r s small_m small_n e =
    let (same, left) = cancel_number 44 m n (codes ",\n" ++ r) (codes ",\n" ++ s) refl (omega (arith, small_m))
    (omega (arith, small_n)) refl refl e in
    (same, cancel_front (codes ",\n") r s left)

set_place_told : (v : Version) (m n : ℕ) (r s : List ℕ) → IsShownOffset v m → IsShownOffset v n
    → decimal (offset_shown v m) ++ (codes ",\n" ++ r) ≡ decimal (offset_shown v n) ++ (codes ",\n" ++ s) → (m ≡ n) × (r ≡ s)
set_place_told v m n r s one other e =
    let (same, left) = place_told (offset_shown v m) (offset_shown v n) r s (shown_small v m one) (shown_small v n other) e in
    (offset_told v m n one other same, left)

second_told : (v : Version) (e f : OpcodeNumbers) (r s : List ℕ) → IsShownSecond v e.second_offset → IsShownSecond v f.second_offset
    → second_line v e ++ r ≡ second_line v f ++ s → (e.second_offset ≡ f.second_offset) × (r ≡ s)
second_told One e f r s one other is = (one ∙ sym other, sym (second_one e r) ∙ is ∙ second_one f s)
second_told Two e f r s one other is =
    set_place_told Two e.second_offset f.second_offset r s one other (cancel_front before_second _ _ (sym (second_two Two e r refl) ∙ is
    ∙ second_two Two f s refl))
second_told Three e f r s one other is =
    set_place_told Three e.second_offset f.second_offset r s one other (cancel_front before_second _ _ (sym (second_three Three e r refl)
    ∙ is ∙ second_three Three f s refl))

pub glyph_told : (c d : ℕ) → c < 16 → d < 16 → digit_glyph false c ≡ digit_glyph false d → c ≡ d
glyph_told c d small_c small_d e = grind (arith, nat_tests)

pub hex_told : (m n : ℕ) (r s : List ℕ) → m < 256 → n < 256 → digit_glyph false (m / 16) ∷ digit_glyph false (m % 16) ∷ r
    ≡ digit_glyph false (n / 16) ∷ digit_glyph false (n % 16) ∷ s → (m ≡ n) × (r ≡ s)
hex_told m n r s small_m small_n e =
    let high : digit_glyph false (m / 16) ≡ digit_glyph false (n / 16) = cc in
    let low : digit_glyph false (m % 16) ≡ digit_glyph false (n % 16) = cc in
    let left : r ≡ s = cc in
    let above = glyph_told (m / 16) (n / 16) (omega (arith, small_m)) (omega (arith, small_n)) high in
    let below = glyph_told (m % 16) (n % 16) (omega arith) (omega arith) low in
    (omega (arith, above, below), left)

pub entry_told : (v : Version) (t u : TableContents) (op : ℕ) (e f : OpcodeNumbers) (r s : List ℕ) → All IsName t.names
    → All IsName u.names → All IsShownConstraint t.operand_constraints → All IsShownConstraint u.operand_constraints
    → IsShownEntry v e → IsShownEntry v f → entry_block v t op e ++ r ≡ entry_block v u op f ++ s → (e ≡ f) × (r ≡ s)
entry_told v t u op e f r s names_t names_u shown_t shown_u one other is =
    let (flags, a) = hex_told e.flags f.flags (at_set v t op e r) (at_set v u op f s) one.flags other.flags
    (cancel_front before_flags _ _ (sym (entry_opened v t op e r) ∙ is ∙ entry_opened v u op f s)) in
    let (type_set, b) = set_place_told v e.typeset_offset f.typeset_offset (at_second v t op e r)
    (at_second v u op f s) one.type_set other.type_set (cancel_front before_set _ _ a) in
    let (second, d) = second_told v e f (at_place v t op e r) (at_place v u op f s) one.second_set other.second_set b in
    let (place, g) = place_told e.constraint_offset f.constraint_offset (at_lines v t op e r)
    (at_lines v u op f s) one.constraints other.constraints (cancel_front before_place _ _ d) in
    let count = sym (lines_count v t op e) ∙ (λ i. 4 + control_lines (type_set i) + second_lines v (second i)) ∙ lines_count v u op f in (
      λ i. record { flags = flags i; typeset_offset = type_set i; second_offset = second i; constraint_offset = place i },
      cancel_lines (block_lines v t op e) (block_lines v u op f) r s (lines_are v t op e names_t shown_t)
          (lines_are v u op f names_u shown_u) count g,
    )

-- the block of an opcode is that of its entry
pub block_at : (v : Version) (t : TableContents) (i : ℕ) (e : OpcodeNumbers) → slice_get t.entries i ≡ Some e
    → opcode_block v t (suc i) ≡ entry_block v t (suc i) e
unfolding opcode_block
block_at v t i e there = ap (block_or_nothing v t (suc i)) there
