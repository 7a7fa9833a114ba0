-- Well-formed tables that fit a version can be told from their text in it.
use Rattle.std.proofs.Common.{◌≡◌, ℕ, suc, ◌≤◌, true, false, inl, inr, length, get_or, slice_get, Some, arith}
use Rattle.std.proofs.lemmas.List.Elements.{All-weaker}
use Rattle.std.proofs.lemmas.Option.{slice_get-get_or}
use Rattle.meta_types.specs.TypeParts.{IntKind, FloatKind, widths, lane_counts}
use Rattle.meta_typevar.specs.MaskSets.{holds, AreMasks}
use Rattle.meta_typevar.specs.declared.masks.Masks.{Masks}
use Rattle.meta_inst.specs.Tables.{OpcodeNumbers, NumberConstraint, ConcreteNumber, FreeOf, SameNumber, ByNumber}
use Rattle.meta_gen.specs.WellFormedOpcodes.{IsWellFormedConstraint, IsSetOffset, IsWellFormedEntry, IsWellFormedOpcodes}
use Rattle.meta_setting_tables.specs.WellFormed.{IsWellFormedGroup}
use Rattle.meta_gen.specs.WholeTables.{WholeTables}
use Rattle.meta_gen.specs.WellFormed.{IsWellFormed}
use Rattle.meta_table_text.specs.declared.version.Version.{Version}
use Rattle.meta_table_text.specs.declared.version.Version.TheVariants.{One, Two, Three}
use Rattle.meta_table_text.specs.Fits.{Fits}
use Rattle.meta_table_reader.specs.Shown.{AreShownMasks, IsShownConstraint, IsShownOffset, IsShownSecond, IsShownEntry, AreShownOpcodes}
use Rattle.meta_table_reader.specs.ShownGroup.{AreShownGroup}
use Rattle.meta_table_reader.specs.Readable.{AreShown}
use Rattle.meta_table_reader.proofs.ShownGroups.{few_slots, group_shown}
use Rattle.meta_gen.proofs.MaskTests.{sum_some}

-- ---- type sets

masks_shown : (m : Masks) → AreMasks m → AreShownMasks m
masks_shown m are =
    let lanes = sum_some (holds m.lanes) (lane_counts false) in
    let dynamic_lanes = sum_some (holds m.dynamic_lanes) (lane_counts true) in
    let ints = sum_some (holds m.ints) (widths IntKind) in
    let floats = sum_some (holds m.floats) (widths FloatKind) in
    let l = are.lanes in
    let d = are.dynamic_lanes in
    let i = are.ints in
    let f = are.floats in
    record {
      lanes = omega (arith, lanes, l);
      dynamic_lanes = omega (arith, dynamic_lanes, d);
      ints = omega (arith, ints, i);
      floats = omega (arith, floats, f);
    }

-- ---- constraints and entries

constraint_shown : (sets : ℕ) → sets ≤ 4095 → (n : NumberConstraint) → IsWellFormedConstraint sets n → IsShownConstraint n
constraint_shown sets few (ConcreteNumber n) is = is
constraint_shown sets few (FreeOf j) is = omega (arith, few, is)
constraint_shown sets few (SameNumber which) is = tt
constraint_shown sets few (ByNumber which f) is = tt

offset_shown : (v : Version) (t : WholeTables) → Fits v t → length t.opcodes.type_sets ≤ 4095 → (offset : ℕ)
    → IsSetOffset (length t.opcodes.type_sets) offset → IsShownOffset v offset
offset_shown v t fits few offset (inr none) = inr none
offset_shown One t fits few offset (inl within) = let small = fits.small.type_sets in inl (omega (arith, within, small))
offset_shown Two t fits few offset (inl within) = let small = fits.type_sets in inl (omega (arith, within, small))
offset_shown Three t fits few offset (inl within) = inl (omega (arith, within, few))

second_shown : (v : Version) (t : WholeTables) → Fits v t → length t.opcodes.type_sets ≤ 4095 → (k : ℕ) (e : OpcodeNumbers)
    → slice_get t.opcodes.entries k ≡ Some e → IsSetOffset (length t.opcodes.type_sets) e.second_offset → IsShownSecond v e.second_offset
second_shown One t fits few k e there is = fits.no_set (suc k) e there
second_shown Two t fits few k e there is = offset_shown Two t fits few e.second_offset is
second_shown Three t fits few k e there is = offset_shown Three t fits few e.second_offset is

entry_shown : (v : Version) (t : WholeTables) → Fits v t → length t.opcodes.type_sets ≤ 4095 → length t.opcodes.operand_constraints ≤ 65535
    → (k : ℕ) (e : OpcodeNumbers) → slice_get t.opcodes.entries k ≡ Some e
    → IsWellFormedEntry (length t.opcodes.type_sets) (length t.opcodes.operand_constraints) e → IsShownEntry v e
entry_shown v t fits few many k e there is =
    let within = is.within in
    record {
      flags = is.eight_bits;
      type_set = offset_shown v t fits few e.typeset_offset is.type_set;
      second_set = second_shown v t fits few k e there is.second_set;
      constraints = omega (arith, within, many);
    }

-- ---- all

opcodes_shown : (v : Version) (t : WholeTables) → IsWellFormedOpcodes t.opcodes → Fits v t → AreShownOpcodes v t.opcodes
opcodes_shown v t is fits =
    let p = is.parts in
    let opcodes = p.few_opcodes in
    let sets = p.few_type_sets in
    let constraints = p.few_constraints in
    let named = p.named in
    record {
      named = record { few = omega (arith, opcodes); named = p.named; formatted = p.formatted; names = p.names; formats = p.formats };
      lists = record {
        few_sets = omega (arith, sets);
        few_constraints = omega (arith, constraints);
        few_slots = few_slots 1 t.opcodes.names t.opcodes.opcode_slots is.slots (omega (arith, named, opcodes));
        sets = All-weaker AreMasks AreShownMasks masks_shown t.opcodes.type_sets p.masks;
        constraints = All-weaker (IsWellFormedConstraint (length t.opcodes.type_sets)) IsShownConstraint
            (constraint_shown (length t.opcodes.type_sets) sets) t.opcodes.operand_constraints p.constraints;
      };
      entries = λ k d within. entry_shown v t fits sets constraints k (get_or t.opcodes.entries k d)
          (slice_get-get_or t.opcodes.entries k d within) (p.entries k d within);
    }

pub tables_shown : (v : Version) (t : WholeTables) → IsWellFormed t → Fits v t → AreShown v t
tables_shown v t is fits = record {
  opcodes = opcodes_shown v t is.opcodes fits;
  groups = All-weaker IsWellFormedGroup AreShownGroup group_shown t.groups is.groups;
}
