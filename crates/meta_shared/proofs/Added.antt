-- Formats that are added for rows.
use Rattle.std.proofs.Common.{◌≡◌, ◌∙◌, ◌<◌, ◌+◌, ℕ, List, [], ◌∷◌, ◌++◌, length, take, get_or, sym, ap, arith}
use Rattle.std.proofs.lemmas.List.{append_assoc, length-append, length-map, length-take-le, map_more, take-map}
use Rattle.meta_operands.specs.declared.format.InstructionFormat.{InstructionFormat}
use Rattle.meta_shared.specs.declared.entities.EntityRefs.{EntityRefs}
use Rattle.meta_shared.specs.declared.immediates.Immediates.{Immediates}
use Rattle.meta_shared.specs.declared.formats.FormatRow.{FormatRow}
use Rattle.meta_shared.specs.Formats.{row_name, format_of, formats_of, AreFormatRows, AddsAll, AddsFront}

-- the formats of one row more
pub formats_more : (imm : Immediates) (entities : EntityRefs) (rows : List FormatRow) (k : ℕ) (d : FormatRow)
    (old now new : List InstructionFormat) → k < length rows → now ≡ old ++ formats_of imm entities (take k rows)
    → new ≡ now ++ format_of imm entities (get_or rows k d) ∷ [] → new ≡ old ++ formats_of imm entities (take (k + 1) rows)
formats_more imm entities rows k d old now new within held added =
    added
    ∙ (ap (λ xs. xs ++ format_of imm entities (get_or rows k d) ∷ []) held
    ∙ (append_assoc old (formats_of imm entities (take k rows)) (format_of imm entities (get_or rows k d) ∷ [])
    ∙ ap (λ xs. old ++ xs) (sym (map_more (format_of imm entities) rows k d within))))

-- how many there are then
pub formats_counted : (imm : Immediates) (entities : EntityRefs) (rows : List FormatRow) (k : ℕ) (old now : List InstructionFormat)
    → k < length rows → now ≡ old ++ formats_of imm entities (take k rows) → length now ≡ length old + k
formats_counted imm entities rows k old now within held =
    let count : length (formats_of imm entities (take k rows)) ≡ k = length-map (take k rows) (format_of imm entities)
    ∙ length-take-le k rows (omega arith) in
    ap length held ∙ (length-append old (formats_of imm entities (take k rows)) ∙ ap (λ n. length old + n) count)

-- the first rows add the first formats
pub front : (imm : Immediates) (entities : EntityRefs) (rows : List FormatRow) (k : ℕ) (old new : List InstructionFormat)
    → AreFormatRows rows → new ≡ old ++ formats_of imm entities (take k rows) → AddsFront imm entities old new
front imm entities rows k old new are is = record {
  count = k;
  adds = record { rows = take k rows; are_named = sym (take-map row_name k rows) ∙ ap (take k) are.names; is = is };
}

pub row_count : (rows : List FormatRow) → AreFormatRows rows → length rows ≡ 36
row_count rows are = sym (length-map rows row_name) ∙ ap length are.names

-- the formats of all rows are added
pub all_counted : (imm : Immediates) (entities : EntityRefs) (old new : List InstructionFormat) → AddsAll imm entities old new
    → length new ≡ length old + 36
all_counted imm entities old new adds =
    ap length adds.is
    ∙ (length-append old (formats_of imm entities adds.rows)
    ∙ ap (λ n. length old + n) (length-map adds.rows (format_of imm entities)
    ∙ (sym (length-map adds.rows row_name) ∙ ap length adds.are_named)))
