-- The text of the tables of an instruction set tells the tables.
use Rattle.std.proofs.Common.{◌≡◌, ℕ, suc, ◌<◌, List, ◌++◌, ⊎_elim, length, map, slice_get, Some, codes, refl, sym, ap, ◌∙◌, append_assoc}
use Rattle.std.proofs.Common.{arith}
use Rattle.std.specs.List.{flat_map}
use Rattle.std.proofs.lemmas.List.{length-map}
use Rattle.std.proofs.lemmas.List.Folds.{flat_map-map}
use Rattle.meta_lists.proofs.Places.{same_places}
use Rattle.meta_types.specs.Name.{IsName}
use Rattle.meta_inst.specs.Tables.{TableContents}
use Rattle.meta_table_text.specs.declared.version.Version.{Version}
use Rattle.meta_table_text.specs.declared.table_list.TableList.TheVariants.{Formats, OpcodeSlots, TypeSets, Constraints, Entries}
use Rattle.meta_table_text.specs.Lists.{list_end}
use Rattle.meta_table_text.specs.TypeSetText.{set_block}
use Rattle.meta_table_text.specs.ConstraintText.{constraint_line}
use Rattle.meta_table_text.specs.OpcodeText.{each_opcode, format_line, slot_line, opcode_block}
use Rattle.meta_table_text.specs.TableText.{version_line, formats_part, slots_part, sets_list, sets_part, constraints_part, entries_part}
use Rattle.meta_table_text.specs.TableText.{opcodes_text}
use Rattle.meta_table_reader.proofs.Cancel.{cancel_front, cancel_item, cancel_lines, cancel_items}
use Rattle.meta_table_reader.proofs.ItemsRead.{one_within}
use Rattle.meta_table_reader.specs.Shown.{AreShownMasks, IsShownConstraint, IsShownEntry, AreNamed, AreShownLists, AreShownOpcodes}
use Rattle.meta_table_reader.proofs.Heads.{list_told}
use Rattle.meta_table_reader.proofs.ByOpcode.{cancel_each}
use Rattle.meta_table_reader.proofs.NameBytes.{name_lacks_comma, name_lacks_end}
use Rattle.meta_table_reader.proofs.FormatLines.{before_format, format_opened}
use Rattle.meta_table_reader.proofs.SetBlocks.{set_told}
use Rattle.meta_table_reader.proofs.ConstraintLines.{constraint_told}
use Rattle.meta_table_reader.proofs.EntryBlocks.{block_at, entry_told}
use Rattle.meta_table_reader.proofs.OpcodeTextParts.{slots_are_lines, sets_cases}

-- ---- formats

abbrev SameNames : TableContents → TableContents → ℕ → Type 0
SameNames t u i = (slice_get t.names i ≡ slice_get u.names i) × (slice_get t.formats i ≡ slice_get u.formats i)

format_told : (t u : TableContents) → AreNamed t → AreNamed u → (i : ℕ) → i < length t.entries → i < length u.entries → (r s : List ℕ)
    → format_line t (suc i) ++ r ≡ format_line u (suc i) ++ s → SameNames t u i × (r ≡ s)
format_told t u one other i within within_too r s e =
    let named = one.named in let formatted = one.formatted in let named_too = other.named in let formatted_too = other.formatted in
    let (n, at_n, is_n) = one_within IsName t.names i one.names (omega (arith, within, named)) in
    let (f, at_f, is_f) = one_within IsName t.formats i one.formats (omega (arith, within, formatted)) in
    let (m, at_m, is_m) = one_within IsName u.names i other.names (omega (arith, within_too, named_too)) in
    let (g, at_g, is_g) = one_within IsName u.formats i other.formats (omega (arith, within_too, formatted_too)) in
    let (formats, a) = cancel_item 44 f g (codes ", // " ++ (n ++ (codes "\n" ++ r))) (codes ", // " ++ (m ++ (codes "\n" ++ s)))
    (name_lacks_comma f is_f) (name_lacks_comma g is_g) refl refl
    (cancel_front before_format _ _ (sym (format_opened t i f n r at_f.there at_n.there) ∙ e
    ∙ format_opened u i g m s at_g.there at_m.there)) in
    let (names, b) = cancel_item 10 n m (codes "\n" ++ r) (codes "\n" ++ s) (name_lacks_end n is_n) (name_lacks_end m is_m) refl refl
    (cancel_front (codes ", // ") _ _ a) in
    ((at_n.there ∙ ap Some names ∙ sym at_m.there, at_f.there ∙ ap Some formats ∙ sym at_g.there), cancel_front (codes "\n") r s b)

pub record SameNaming (t u : TableContents) : Type 0 where
  pub count : length t.entries ≡ length u.entries
  pub names : t.names ≡ u.names
  pub formats : t.formats ≡ u.formats

formats_told : (t u : TableContents) (r s : List ℕ) → AreNamed t → AreNamed u → formats_part t ++ r ≡ formats_part u ++ s
    → SameNaming t u × (r ≡ s)
unfolding formats_part
formats_told t u r s one other e =
    let few = one.few in let few_too = other.few in
    let named = one.named in let formatted = one.formatted in let named_too = other.named in let formatted_too = other.formatted in
    let m = length t.entries in
    let n = length u.entries in
    let (count, a) = list_told Formats m n (each_opcode (format_line t) m) (each_opcode (format_line u) n) r s (omega (arith, few))
    (omega (arith, few_too)) e in
    let (same, left) = cancel_each (format_line t) (format_line u) (SameNames t u) m
    (λ i within. format_told t u one other i within (omega (arith, within, count))) (list_end ++ r) (list_end ++ s) (a
    ∙ ap (λ k. each_opcode (format_line u) k ++ (list_end ++ s)) (sym count)) in (
      record {
        count = count;
        names = same_places t.names u.names (omega (arith, named, named_too, count))
            (λ i within. (same i (omega (arith, within, named))).0);
        formats = same_places t.formats u.formats (omega (arith, formatted, formatted_too, count))
            (λ i within. (same i (omega (arith, within, formatted))).1);
      },
      cancel_front list_end r s left,
    )

-- ---- slots, which aren't read

slots_passed : (t u : TableContents) (r s : List ℕ) → AreNamed t → AreNamed u → AreShownLists t → AreShownLists u
    → slots_part t ++ r ≡ slots_part u ++ s → r ≡ s
unfolding slots_part
slots_passed t u r s named named_too one other e =
    let ts = t.opcode_slots in
    let us = u.opcode_slots in
    let (count, a) = list_told OpcodeSlots (length ts) (length us) (flat_map (slot_line t) ts)
    (flat_map (slot_line u) us) r s one.few_slots other.few_slots e in
    let lines = ap (λ w. w ++ (list_end ++ r)) (flat_map-map (λ line. line) (slot_line t) ts) ∙ a
    ∙ ap (λ w. w ++ (list_end ++ s)) (sym (flat_map-map (λ line. line) (slot_line u) us)) in
    let same = length-map ts (slot_line t) ∙ count ∙ sym (length-map us (slot_line u)) in
    cancel_front list_end r s (cancel_lines (map (slot_line t) ts) (map (slot_line u) us) (list_end ++ r) (list_end ++ s)
    (slots_are_lines t named.names ts) (slots_are_lines u named_too.names us) same lines)

-- ---- type sets and constraints

list_of_sets_told : (t u : TableContents) (r s : List ℕ) → AreShownLists t → AreShownLists u → sets_list t ++ r ≡ sets_list u ++ s
    → (t.type_sets ≡ u.type_sets) × (r ≡ s)
unfolding sets_list
list_of_sets_told t u r s one other e =
    let few = one.few_sets in let few_too = other.few_sets in
    let ts = t.type_sets in
    let us = u.type_sets in
    let (count, a) = list_told TypeSets (length ts) (length us) (flat_map set_block ts) (flat_map set_block us) r s (omega (arith, few))
    (omega (arith, few_too)) e in
    let (same, left) = cancel_items AreShownMasks set_block set_told ts us (list_end ++ r) (list_end ++ s) one.sets other.sets count a in
    (same, cancel_front list_end r s left)

-- where the text is that of both
sets_told : (t u : TableContents) (r s : List ℕ) → AreShownLists t → AreShownLists u
    → sets_part t ++ (constraints_part t ++ r) ≡ sets_part u ++ (constraints_part u ++ s)
    → (t.type_sets ≡ u.type_sets) × (constraints_part t ++ r ≡ constraints_part u ++ s)
sets_told t u r s one other e =
    ⊎_elim
    (λ (none, empty, here). ⊎_elim (λ (none_too, empty_too, there). (empty ∙ sym empty_too, sym here ∙ there))
    (λ (some, there). absurd (omega (arith, none, some))) (sets_cases u s (sets_part t ++ (constraints_part t ++ r)) e))
    (λ (some, here). ⊎_elim (λ (none, empty, there). absurd (omega (arith, none, some)))
    (λ (some_too, there). list_of_sets_told t u (constraints_part t ++ r) (constraints_part u ++ s) one other (sym here ∙ there))
    (sets_cases u s (sets_part t ++ (constraints_part t ++ r)) e))
    (sets_cases t r (sets_part t ++ (constraints_part t ++ r)) refl)

constraints_told : (t u : TableContents) (r s : List ℕ) → AreShownLists t → AreShownLists u
    → constraints_part t ++ r ≡ constraints_part u ++ s → (t.operand_constraints ≡ u.operand_constraints) × (r ≡ s)
unfolding constraints_part
constraints_told t u r s one other e =
    let few = one.few_constraints in let few_too = other.few_constraints in
    let ts = t.operand_constraints in
    let us = u.operand_constraints in
    let (count, a) = list_told Constraints (length ts) (length us) (flat_map constraint_line ts) (flat_map constraint_line us) r s
    (omega (arith, few)) (omega (arith, few_too)) e in
    let (same, left) = cancel_items IsShownConstraint constraint_line constraint_told ts us (list_end ++ r)
    (list_end ++ s) one.constraints other.constraints count a in
    (same, cancel_front list_end r s left)

-- ---- entries

block_told : (v : Version) (t u : TableContents) → AreShownOpcodes v t → AreShownOpcodes v u → (i : ℕ) → i < length t.entries
    → i < length u.entries → (r s : List ℕ) → opcode_block v t (suc i) ++ r ≡ opcode_block v u (suc i) ++ s
    → (slice_get t.entries i ≡ slice_get u.entries i) × (r ≡ s)
block_told v t u one other i within within_too r s e =
    let (x, at_x, is_x) = one_within (IsShownEntry v) t.entries i one.entries within in
    let (y, at_y, is_y) = one_within (IsShownEntry v) u.entries i other.entries within_too in
    let (same, left) = entry_told v t u (suc i) x y r s one.named.names other.named.names one.lists.constraints other.lists.constraints
    is_x is_y (ap (λ w. w ++ r) (sym (block_at v t i x at_x.there)) ∙ e ∙ ap (λ w. w ++ s) (block_at v u i y at_y.there)) in
    (at_x.there ∙ ap Some same ∙ sym at_y.there, left)

entries_told : (v : Version) (t u : TableContents) (r s : List ℕ) → AreShownOpcodes v t → AreShownOpcodes v u
    → entries_part v t ++ r ≡ entries_part v u ++ s → (t.entries ≡ u.entries) × (r ≡ s)
unfolding entries_part
entries_told v t u r s one other e =
    let few = one.named.few in let few_too = other.named.few in
    let m = length t.entries in
    let n = length u.entries in
    let (count, a) = list_told Entries m n (each_opcode (opcode_block v t) m) (each_opcode (opcode_block v u) n) r s (omega (arith, few))
    (omega (arith, few_too)) e in
    let (same, left) = cancel_each (opcode_block v t) (opcode_block v u) (λ i. slice_get t.entries i ≡ slice_get u.entries i) m
    (λ i within. block_told v t u one other i within (omega (arith, within, count))) (list_end ++ r) (list_end ++ s) (a
    ∙ ap (λ k. each_opcode (opcode_block v u) k ++ (list_end ++ s)) (sym count)) in
    (same_places t.entries u.entries count same, cancel_front list_end r s left)

-- ---- all

-- the same lists, but for the slots
pub record SameOpcodes (t u : TableContents) : Type 0 where
  pub names : t.names ≡ u.names
  pub formats : t.formats ≡ u.formats
  pub type_sets : t.type_sets ≡ u.type_sets
  pub operand_constraints : t.operand_constraints ≡ u.operand_constraints
  pub entries : t.entries ≡ u.entries

regroup : (a b c d e f g : List ℕ) → (a ++ (b ++ (c ++ (d ++ (e ++ f))))) ++ g ≡ a ++ (b ++ (c ++ (d ++ (e ++ (f ++ g)))))
regroup a b c d e f g = simp append_assoc

pub opcodes_told : (v : Version) (t u : TableContents) (r s : List ℕ) → AreShownOpcodes v t → AreShownOpcodes v u
    → opcodes_text v t ++ r ≡ opcodes_text v u ++ s → SameOpcodes t u × (r ≡ s)
unfolding opcodes_text
opcodes_told v t u r s one other e =
    let first = cancel_front (version_line v) _ _
    (sym (regroup (version_line v) (formats_part t) (slots_part t) (sets_part t) (constraints_part t) (entries_part v t) r) ∙ e
    ∙ regroup (version_line v) (formats_part u) (slots_part u) (sets_part u) (constraints_part u) (entries_part v u) s) in
    let (naming, a) = formats_told t u (slots_part t ++ (sets_part t ++ (constraints_part t ++ (entries_part v t ++ r))))
    (slots_part u ++ (sets_part u ++ (constraints_part u ++ (entries_part v u ++ s)))) one.named other.named first in
    let b = slots_passed t u (sets_part t ++ (constraints_part t ++ (entries_part v t ++ r)))
    (sets_part u ++ (constraints_part u ++ (entries_part v u ++ s))) one.named other.named one.lists other.lists a in
    let (type_sets, c) = sets_told t u (entries_part v t ++ r) (entries_part v u ++ s) one.lists other.lists b in
    let (operand_constraints, d) = constraints_told t u (entries_part v t ++ r) (entries_part v u ++ s) one.lists other.lists c in
    let (entries, left) = entries_told v t u r s one other d in (
      record {
        names = naming.names;
        formats = naming.formats;
        type_sets = type_sets;
        operand_constraints = operand_constraints;
        entries = entries;
      },
      left,
    )
