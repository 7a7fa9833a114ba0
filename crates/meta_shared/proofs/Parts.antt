-- Formats as their parts are added.
use Rattle.std.proofs.Common.{◌≡◌, ◌∙◌, ◌<◌, ◌+◌, true, List, [], ◌∷◌, length, None, Some, nat_lt, cond, refl, sym, ap, arith}
use Rattle.std.specs.List.{count_by}
use Rattle.std.proofs.lemmas.Bool.{ltb-true, and_parts}
use Rattle.std.proofs.lemmas.List.Sums.{sum_by-cons}
use Rattle.meta_operands.specs.declared.format.InstructionFormat.{InstructionFormat}
use Rattle.meta_shared.specs.declared.entities.EntityRefs.{EntityRefs}
use Rattle.meta_shared.specs.declared.immediates.Immediates.{Immediates}
use Rattle.meta_shared.specs.declared.formats.FormatRow.{FormatRow}
use Rattle.meta_shared.specs.declared.formats.FormatPart.{FormatPart}
use Rattle.meta_shared.specs.declared.formats.FormatPart.TheVariants.{Value, Varargs, Block, RawBlock, Immediate}
use Rattle.meta_shared.specs.Formats.{with_part, parts_added, is_value, is_place_within, IsFormatRow, CanPlace}

-- no part designates a value
undesignated : (imm : Immediates) (entities : EntityRefs) (f : InstructionFormat) (parts : List FormatPart)
    → (parts_added imm entities f parts).typevar_operand ≡ f.typevar_operand
undesignated imm entities f [] = refl
undesignated imm entities f (Value ∷ parts) = undesignated imm entities (with_part imm entities f Value) parts
undesignated imm entities f (Varargs ∷ parts) = undesignated imm entities (with_part imm entities f Varargs) parts
undesignated imm entities f (Block ∷ parts) = undesignated imm entities (with_part imm entities f Block) parts
undesignated imm entities f (RawBlock ∷ parts) = undesignated imm entities (with_part imm entities f RawBlock) parts
undesignated imm entities f (Immediate kind ∷ parts) = undesignated imm entities (with_part imm entities f (Immediate kind)) parts

-- the values are counted
values_counted : (imm : Immediates) (entities : EntityRefs) (f : InstructionFormat) (parts : List FormatPart)
    → (parts_added imm entities f parts).num_value_operands ≡ f.num_value_operands + count_by is_value parts
values_counted imm entities f [] = omega arith
values_counted imm entities f (Value ∷ parts) =
    let e : (parts_added imm entities f (Value ∷ parts)).num_value_operands ≡ (f.num_value_operands + 1) + count_by is_value parts =
    values_counted imm entities (with_part imm entities f Value) parts in
    let one : count_by is_value (Value ∷ parts) ≡ 1 + count_by is_value parts =
    sum_by-cons (λ part. cond (is_value part) 1 0) Value parts in
    omega arith
values_counted imm entities f (Varargs ∷ parts) = values_counted imm entities (with_part imm entities f Varargs) parts
values_counted imm entities f (Block ∷ parts) = values_counted imm entities (with_part imm entities f Block) parts
values_counted imm entities f (RawBlock ∷ parts) = values_counted imm entities (with_part imm entities f RawBlock) parts
values_counted imm entities f (Immediate kind ∷ parts) = values_counted imm entities (with_part imm entities f (Immediate kind)) parts

-- what a row designates is one of its values
pub can_place : (imm : Immediates) (entities : EntityRefs) (f : InstructionFormat) (row : FormatRow)
    → f.typevar_operand ≡ None → IsFormatRow row → CanPlace (parts_added imm entities f row.parts.now) row.designated
can_place imm entities f row none sound place told =
    let within : is_place_within (count_by is_value row.parts.now) (Some place) ≡ true =
    ap (is_place_within (count_by is_value row.parts.now)) (sym told)
    ∙ (and_parts (nat_lt (length row.parts.now) 10) (is_place_within (count_by is_value row.parts.now) row.designated) sound).1 in
    let below : place < count_by is_value row.parts.now = ltb-true place (count_by is_value row.parts.now) within in
    record {
      undesignated = undesignated imm entities f row.parts.now ∙ none;
      within = omega (arith, values_counted imm entities f row.parts.now);
    }
