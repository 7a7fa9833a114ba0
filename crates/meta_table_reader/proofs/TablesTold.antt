-- The text of well-formed tables tells the tables.
use Rattle.std.proofs.Common.{◌≡◌, ℕ, List, [], ◌∷◌, ◌++◌, All, slice_index, refl, sym, ap, ◌∙◌, subst, append_assoc}
use Rattle.std.specs.List.{flat_map, AllZip}
use Rattle.meta_inst.specs.Tables.{TableContents}
use Rattle.meta_unique.specs.NameSlots.{AreNameSlots}
use Rattle.meta_gen.specs.WellFormedOpcodes.{IsWellFormedOpcodes}
use Rattle.meta_setting_tables.specs.GroupTables.{GroupContents, names_in}
use Rattle.meta_setting_tables.specs.WellFormed.{IsWellFormedGroup}
use Rattle.meta_unique.proofs.OneFilling.{one_filling}
use Rattle.meta_gen.specs.WholeTables.{WholeTables}
use Rattle.meta_gen.specs.WellFormed.{IsWellFormed}
use Rattle.meta_table_text.specs.declared.version.Version.{Version}
use Rattle.meta_table_text.specs.Fits.{Fits}
use Rattle.meta_table_text.specs.GroupText.{group_text}
use Rattle.meta_table_text.specs.TableText.{version_line, formats_part, slots_part, sets_part, constraints_part, entries_part, opcodes_text}
use Rattle.meta_table_text.specs.TableText.{table_text}
use Rattle.meta_table_reader.proofs.ItemsRead.{all_first, all_after}
use Rattle.meta_table_reader.specs.Readable.{Reads}
use Rattle.meta_table_reader.proofs.ShownTables.{tables_shown}
use Rattle.meta_table_reader.proofs.OpcodeTextParts.{digit, digit_at, one_digit}
use Rattle.meta_table_reader.proofs.OpcodesTold.{SameOpcodes, opcodes_told}
use Rattle.meta_table_reader.proofs.GroupsTold.{SameGroup, groups_told}

-- slots follow from the names
same_opcodes : (t u : TableContents) → IsWellFormedOpcodes t → IsWellFormedOpcodes u → SameOpcodes t u → t ≡ u
same_opcodes t u one other same =
    let slots = one_filling 1 u.names t.opcode_slots u.opcode_slots
    (subst (λ names. AreNameSlots 1 names t.opcode_slots) same.names one.slots) other.slots in
    λ i. record {
      names = same.names i;
      formats = same.formats i;
      opcode_slots = slots i;
      type_sets = same.type_sets i;
      operand_constraints = same.operand_constraints i;
      entries = same.entries i;
    }

same_group : (g h : GroupContents) → IsWellFormedGroup g → IsWellFormedGroup h → SameGroup g h → g ≡ h
same_group g h one other same =
    let slots = one_filling 0 (names_in h.descriptors) g.slots h.slots
    (subst (λ ds. AreNameSlots 0 (names_in ds) g.slots) same.descriptors one.slots) other.slots in
    λ i. record {
      name = same.name i;
      descriptors = same.descriptors i;
      enumerators = same.enumerators i;
      defaults = same.defaults i;
      preset_masks = same.preset_masks i;
      slots = slots i;
    }

same_groups : (gs hs : List GroupContents) → All IsWellFormedGroup gs → All IsWellFormedGroup hs → AllZip SameGroup gs hs → gs ≡ hs
same_groups [] [] one other same = refl
same_groups [] (h ∷ hs) one other same = absurd same
same_groups (g ∷ gs) [] one other same = absurd same
same_groups (g ∷ gs) (h ∷ hs) one other (here, same) =
    let first = same_group g h (all_first IsWellFormedGroup g gs one) (all_first IsWellFormedGroup h hs other) here in
    let more = same_groups gs hs (all_after IsWellFormedGroup g gs one) (all_after IsWellFormedGroup h hs other) same in
    (λ i. first i ∷ more i)

-- in one version
pub one_in_version : (v : Version) (t u : WholeTables) → IsWellFormed t → IsWellFormed u → Fits v t → Fits v u
    → table_text v t ≡ table_text v u → t ≡ u
unfolding table_text
one_in_version v t u one other fits fits_too e =
    let shown = tables_shown v t one fits in
    let shown_too = tables_shown v u other fits_too in
    let (opcodes, left) = opcodes_told v t.opcodes u.opcodes (flat_map group_text t.groups)
    (flat_map group_text u.groups) shown.opcodes shown_too.opcodes e in
    let o = same_opcodes t.opcodes u.opcodes one.opcodes other.opcodes opcodes in
    let g = same_groups t.groups u.groups one.groups other.groups (groups_told t.groups u.groups shown.groups shown_too.groups left) in
    λ i. record { opcodes = o i; groups = g i }

-- the first line tells the version
pub version_opened : (v : Version) (t : WholeTables) → (rest : List ℕ) × (table_text v t ≡ version_line v ++ rest)
unfolding table_text opcodes_text
version_opened v t =
    let opcodes = formats_part t.opcodes
    ++ (slots_part t.opcodes ++ (sets_part t.opcodes ++ (constraints_part t.opcodes ++ entries_part v t.opcodes))) in
    (opcodes ++ flat_map group_text t.groups, append_assoc (version_line v) opcodes (flat_map group_text t.groups))

version_in : (v : Version) (t : WholeTables) → slice_index (table_text v t) 22 ≡ digit v
version_in v t = let (rest, opened) = version_opened v t in ap (λ w. slice_index w 22) opened ∙ digit_at v rest

pub one_reading : (text : List ℕ) (t u : WholeTables) → Reads text t → Reads text u → t ≡ u
one_reading text t u one other =
    let a = one.in_version in
    let b = other.in_version in
    let versions = one_digit one.version other.version (sym (version_in one.version t)
    ∙ ap (λ w. slice_index w 22) (sym a.is_text ∙ b.is_text) ∙ version_in other.version u) in
    one_in_version other.version t u a.well_formed b.well_formed (subst (λ v. Fits v t) versions a.fits) b.fits
    (ap (λ v. table_text v t) (sym versions) ∙ sym a.is_text ∙ b.is_text)
