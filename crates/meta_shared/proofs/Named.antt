-- The names of the formats that instructions are of.
use Rattle.std.proofs.Common.{◌≡◌, ◌∙◌, ℕ, List, [], ◌∷◌, ◌++◌, map, slice_get, Option, None, Some, ap, sym, refl, arith}
use Rattle.std.specs.List.{AllZip}
use Rattle.std.proofs.lemmas.Option.{slice_get-map}
use Rattle.meta_typevar.specs.declared.content.TypeVarContent.{TypeVarContent}
use Rattle.meta_operands.specs.Format.{empty_format}
use Rattle.meta_operands.specs.declared.format.InstructionFormat.{InstructionFormat}
use Rattle.meta_inst.specs.Builder.{Builder}
use Rattle.meta_shared.specs.declared.entities.EntityRefs.{EntityRefs}
use Rattle.meta_shared.specs.declared.immediates.Immediates.{Immediates}
use Rattle.meta_shared.specs.declared.format.Format.{Format}
use Rattle.meta_shared.specs.declared.formats.Formats.{Formats}
use Rattle.meta_shared.specs.declared.formats.FormatRow.{FormatRow}
use Rattle.meta_shared.specs.declared.formats.FormatPart.{FormatPart}
use Rattle.meta_shared.specs.declared.formats.FormatPart.TheVariants.{Value, Varargs, Block, RawBlock, Immediate}
use Rattle.meta_shared.specs.Formats.{with_part, parts_added, designating, format_of, formats_of, format_names, format_name, name_at}
use Rattle.meta_shared.specs.Formats.{row_name, format_place, id_of, AddsAll, AreNumberedFrom}
use Rattle.meta_shared.specs.Rows.{FitsNames, named_format}

-- a part leaves the name as it is
part_keeps : (imm : Immediates) (entities : EntityRefs) (f : InstructionFormat) (part : FormatPart)
    → (with_part imm entities f part).name ≡ f.name
part_keeps imm entities f Value = refl
part_keeps imm entities f Varargs = refl
part_keeps imm entities f Block = refl
part_keeps imm entities f RawBlock = refl
part_keeps imm entities f (Immediate kind) = refl

parts_keep : (imm : Immediates) (entities : EntityRefs) (f : InstructionFormat) (parts : List FormatPart)
    → (parts_added imm entities f parts).name ≡ f.name
parts_keep imm entities f [] = refl
parts_keep imm entities f (part ∷ parts) = parts_keep imm entities (with_part imm entities f part) parts ∙ part_keeps imm entities f part

designating_keeps : (f : InstructionFormat) (designated : Option ℕ) → (designating f designated).name ≡ f.name
designating_keeps f None = refl
designating_keeps f (Some place) = refl

-- the formats of rows have the names of the rows
formats_named : (imm : Immediates) (entities : EntityRefs) (rows : List FormatRow)
    → map format_name (formats_of imm entities rows) ≡ map row_name rows
formats_named imm entities [] = refl
formats_named imm entities (row ∷ rows) =
    let none : InstructionFormat = empty_format row.name.now in
    let all : InstructionFormat = parts_added imm entities none row.parts.now in
    let name : format_name (format_of imm entities row) ≡ row_name row = designating_keeps all row.designated
    ∙ parts_keep imm entities none row.parts.now in
    ap (λ n. n ∷ map format_name (formats_of imm entities rows)) name ∙ ap (λ ns. row_name row ∷ ns) (formats_named imm entities rows)

-- a table without a format, to which all are added, has their names in order
pub all_named : {imm : Immediates} {entities : EntityRefs} {old new : List InstructionFormat}
    → AddsAll imm entities old new → old ≡ [] → map format_name new ≡ format_names
all_named {imm} {entities} adds none =
    ap (map format_name) (adds.is ∙ ap (λ xs. xs ++ formats_of imm entities adds.rows) none)
    ∙ (formats_named imm entities adds.rows ∙ adds.are_named)

-- the format that an instruction is of stands in that table under its name
named_one : (table : List InstructionFormat) (f : Formats) (format : Format) (b : Builder)
    → map format_name table ≡ format_names → AreNumberedFrom 0 f → b.format ≡ id_of f format → named_format table b ≡ name_at format
named_one table f format b named numbers is =
    let place : b.format ≡ format_place format = omega (arith, is, numbers format) in
    sym (slice_get-map format_name table b.format) ∙ (ap (λ names. slice_get names b.format) named ∙ ap (slice_get format_names) place)

pub each_named : (vars : List TypeVarContent) (table : List InstructionFormat) (f : Formats) (formats : List Format)
    (builders : List Builder) → map format_name table ≡ format_names → AreNumberedFrom 0 f
    → AllZip (FitsNames vars f) formats builders → map (named_format table) builders ≡ map name_at formats
each_named vars table f [] [] named numbers h = refl
each_named vars table f [] (b ∷ builders) named numbers h = absurd h
each_named vars table f (format ∷ formats) [] named numbers h = absurd h
each_named vars table f (format ∷ formats) (b ∷ builders) named numbers h =
    ap (λ n. n ∷ map (named_format table) builders) (named_one table f format b named numbers h.0.number)
    ∙ ap (λ ns. name_at format ∷ ns) (each_named vars table f formats builders named numbers h.1)
