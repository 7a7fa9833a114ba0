-- The tables from their parts.
use Rattle.std.proofs.Common.{◌≡◌, ◌+◌, ◌<◌, ℕ, List, [], ◌∷◌, ◌++◌, length, map, take, slice_get, Some, refl, sym, ap, ◌∙◌, subst}
use Rattle.std.proofs.Common.{below_more}
use Rattle.std.proofs.lemmas.Option.{slice_get_within, get_or_from_slice_get, same_Some}
use Rattle.std.proofs.lemmas.List.{take_more, map-append, length-map}
use Rattle.meta_lists.proofs.Pushed.{stays, last}
use Rattle.meta_typevar.specs.TypeSetParts.{TypeSetParts}
use Rattle.meta_typevar.specs.declared.masks.Masks.{Masks}
use Rattle.meta_build.specs.Needed.{StandForSets, AreSetsByNeed, AreNeededMasks}
use Rattle.meta_operands.specs.declared.format.InstructionFormat.{InstructionFormat}
use Rattle.meta_inst.specs.Builder.{Builder}
use Rattle.meta_inst.specs.InstructionSet.{InstructionSet}
use Rattle.meta_inst.specs.Faults.{IsAt, names_of}
use Rattle.meta_inst.specs.Tables.{TableContents}
use Rattle.meta_gen.specs.declared.constraint.Constraint.{Constraint}
use Rattle.meta_gen.specs.declared.constraint.OpcodeConstraints.{OpcodeConstraints}
use Rattle.meta_gen.specs.Constraint.{entry_of}
use Rattle.meta_gen.specs.Contents.{OpcodeNames, contents_of}
use Rattle.meta_gen.specs.ConstraintLists.{AreOverlapped}
use Rattle.meta_gen.specs.TablesOf.{HoldsInstruction, IsFormatName, AreFormatNames, AreTablesOf}
use Rattle.meta_gen.specs.Entries.{IsHeldAt, AreAdded}
use Rattle.meta_gen.proofs.Held.{instruction_held, are_overlapped}
use Rattle.meta_unique.specs.NameSlots.{AreNameSlots}

-- one more name is copied
pub copied_more : (xs : List Builder) (k : ℕ) (b : Builder) (old new : List (List ℕ)) (x : List ℕ) → slice_get xs k ≡ Some b → x ≡ b.name
    → old ≡ map (λ (b : Builder). b.name) (take k xs) → new ≡ old ++ x ∷ [] → new ≡ map (λ (b : Builder). b.name) (take (k + 1) xs)
copied_more xs k b old new x at is before pushed =
    let one : take (k + 1) xs ≡ take k xs ++ b ∷ [] = take_more xs k b (slice_get_within xs k b at)
    ∙ ap (λ y. take k xs ++ y ∷ []) (get_or_from_slice_get xs k b b at) in
    pushed ∙ ap (λ o. o ++ x ∷ []) before ∙ ap (λ y. map (λ (b : Builder). b.name) (take k xs) ++ y ∷ []) is
    ∙ sym (map-append (λ (b : Builder). b.name) (take k xs) (b ∷ [])) ∙ sym (ap (map (λ (b : Builder). b.name)) one)

-- the format by the number that was read
pub format_at : (formats : List InstructionFormat) (f g : ℕ) (format : InstructionFormat) → f ≡ g → slice_get formats f ≡ Some format
    → slice_get formats g ≡ Some format
format_at formats f g format same at = ap (slice_get formats) (sym same) ∙ at

-- the name of one format more
pub one_format_more : (formats : List InstructionFormat) (instructions : List Builder) (old new : List (List ℕ)) (x : List ℕ) (place : ℕ)
    (b : Builder) (format : InstructionFormat)
    → new ≡ old ++ x ∷ [] → length old ≡ place → slice_get instructions place ≡ Some b → slice_get formats b.format ≡ Some format
    → x ≡ format.name
    → ((k : ℕ) (c : Builder) → k < place → slice_get instructions k ≡ Some c → IsFormatName formats c old k)
    → (k : ℕ) (c : Builder) → k < place + 1 → slice_get instructions k ≡ Some c → IsFormatName formats c new k
one_format_more formats instructions old new x place b format added count at is named before k c below at_k =
    below_more (λ k. (c : Builder) → slice_get instructions k ≡ Some c → IsFormatName formats c new k) place
    (λ k l c at_c. let h = before k c l at_c in record {
      format = h.format;
      is_format = h.is_format;
      named = stays old new x added k h.format.name h.named;
    })
    (λ c at_c.
    let here : IsFormatName formats b new place = record {
      format = format;
      is_format = is;
      named = last old new x added place (sym count)
          ∙ ap Some named;
    } in
    subst (λ y. IsFormatName formats y new place) (same_Some b c (sym at ∙ at_c)) here)
    k below c at_k

-- what tables of declarations have of them, but for the slots
pub record HoldDeclared (d : InstructionSet) (tables : TableContents) : Type 0 where
  pub names : tables.names ≡ names_of d
  pub formats : AreFormatNames d.formats d.instructions tables.formats
  pub type_sets : AreNeededMasks d tables.type_sets
  pub operand_constraints : AreOverlapped d tables
  pub count : length tables.entries ≡ length d.instructions
  pub holds : (k : ℕ) (b : Builder) → IsAt d k b → HoldsInstruction d tables k b

-- the parts make the tables of the declarations
module _ (d : InstructionSet) (names : OpcodeNames) (masks : List Masks) (type_sets : List TypeSetParts) (constraints : List Constraint)
    (entries : List OpcodeConstraints) (lists : List (List Constraint))
    (needed : AreSetsByNeed d type_sets) (stand : StandForSets masks type_sets) (named : names.names ≡ names_of d)
    (formatted : AreFormatNames d.formats d.instructions names.formats) (counted : length entries ≡ length d.instructions)
    (holds : (k : ℕ) (b : Builder) → IsAt d k b → IsHeldAt d.vars d.formats type_sets constraints entries k b)
    (added : AreAdded d.vars d.formats d.instructions type_sets constraints entries lists) where
  pub parts_made : HoldDeclared d (contents_of names masks constraints entries)
  parts_made = record {
    names = named;
    formats = formatted;
    type_sets = record { sets = type_sets; are_needed = needed; stand = stand };
    operand_constraints =
        are_overlapped d type_sets (contents_of names masks constraints entries) constraints entries lists stand refl refl counted added;
    count = length-map entries entry_of ∙ counted;
    holds = λ k b at. instruction_held d.vars d.formats type_sets d.instructions
        (contents_of names masks constraints entries) constraints entries stand refl refl k b (holds k b at);
  }

  pub tables_made : (tables : TableContents) → tables ≡ contents_of names masks constraints entries
      → AreNameSlots 1 names.names names.slots → AreTablesOf d tables
  tables_made tables made slots =
      let h = parts_made in
      subst (AreTablesOf d) (sym made) (record {
        names = h.names;
        formats = h.formats;
        opcode_slots = slots;
        type_sets = h.type_sets;
        operand_constraints = h.operand_constraints;
        count = h.count;
        holds = h.holds;
      })
