-- Slots that a format stores, one by one.
use Rattle.std.proofs.Common.{◌≡◌, ◌∙◌, ◌+◌, ℕ, Bool, true, false, cond, List, [], ◌∷◌, ◌++◌, sym, ap, refl, subst, arith}
use Rattle.std.specs.Prelude.{◌||◌, Option, None, count_by}
use Rattle.std.specs.List.{AllZip, filter_map, cons_option, list_any}
use Rattle.std.proofs.Math.Bool.{or-false}
use Rattle.std.proofs.lemmas.List.{append-nil}
use Rattle.std.proofs.lemmas.List.Sums.{sum_by_push}
use Rattle.std.proofs.lemmas.List.Elements.{filter_map-append}
use Rattle.std.proofs.lemmas.List.Folds.{list_any-append}
use Rattle.meta_lists.proofs.Pairs.{pairs_joined}
use Rattle.meta_operands.specs.Format.{empty_format, field_for}
use Rattle.meta_operands.specs.declared.field.FormatField.{FormatField}
use Rattle.meta_operands.specs.declared.format.InstructionFormat.{InstructionFormat}
use Rattle.meta_file_types.specs.Meant.{MeantKind}
use Rattle.meta_file_types.specs.Registered.{Registered}
use Rattle.meta_file_declare.specs.Formats.{MeantSlot, Value, Varargs, Block, RawBlock, Field, is_value, is_varargs, is_block, is_raw_block}
use Rattle.meta_file_declare.specs.Formats.{kind_in_field}
use Rattle.meta_file_declare.specs.Registered.{IsFieldIn, Stores, AddsSlot}

-- ---- one slot more

yes : (p : MeantSlot → Bool) (slots : List MeantSlot) (s : MeantSlot) → p s ≡ true → count_by p slots + 1 ≡ count_by p (slots ++ s ∷ [])
yes p slots s e = ap (λ b. count_by p slots + cond b 1 0) (sym e) ∙ sym (sum_by_push (λ x. cond (p x) 1 0) slots s)

no : (p : MeantSlot → Bool) (slots : List MeantSlot) (s : MeantSlot) → p s ≡ false → count_by p slots ≡ count_by p (slots ++ s ∷ [])
no p slots s e =
    let more : count_by p (slots ++ s ∷ []) ≡ count_by p slots + 0 = sum_by_push (λ x. cond (p x) 1 0) slots s
    ∙ ap (λ b. count_by p slots + cond b 1 0) e in
    omega (arith, more)

any_yes : (b : Bool) → true ≡ (b || true)
any_yes true = refl
any_yes false = refl

has_one : (slots : List MeantSlot) → true ≡ list_any is_varargs (slots ++ Varargs ∷ [])
has_one slots = any_yes (list_any is_varargs slots) ∙ sym (list_any-append is_varargs slots (Varargs ∷ []))

has_none : (slots : List MeantSlot) (s : MeantSlot) → is_varargs s ≡ false
    → list_any is_varargs slots ≡ list_any is_varargs (slots ++ s ∷ [])
has_none slots s e =
    sym (or-false (list_any is_varargs slots))
    ∙ (ap (λ b. list_any is_varargs slots || (b || false)) (sym e) ∙ sym (list_any-append is_varargs slots (s ∷ [])))

same_fields : (r : Registered) (slots : List MeantSlot) (s : MeantSlot) (fields : List FormatField) → kind_in_field s ≡ None
    → AllZip (IsFieldIn r) (filter_map kind_in_field slots) fields
    → AllZip (IsFieldIn r) (filter_map kind_in_field (slots ++ s ∷ [])) fields
same_fields r slots s fields e h =
    let one : filter_map kind_in_field (s ∷ []) ≡ [] = ap (λ (o : Option MeantKind). cons_option o []) e in
    subst (λ (kinds : List MeantKind). AllZip (IsFieldIn r) kinds fields)
    (sym (filter_map-append kind_in_field slots (s ∷ []) ∙ (ap (λ (kinds : List MeantKind). filter_map kind_in_field slots ++ kinds) one
    ∙ append-nil (filter_map kind_in_field slots)))) h

one_field : (r : Registered) (slots : List MeantSlot) (kind : MeantKind) (fields : List FormatField) (f : FormatField) → IsFieldIn r kind f
    → AllZip (IsFieldIn r) (filter_map kind_in_field slots) fields
    → AllZip (IsFieldIn r) (filter_map kind_in_field (slots ++ Field kind ∷ [])) (fields ++ f ∷ [])
one_field r slots kind fields f is h =
    subst (λ (kinds : List MeantKind). AllZip (IsFieldIn r) kinds (fields ++ f ∷ []))
    (sym (filter_map-append kind_in_field slots (Field kind ∷ [])))
    (pairs_joined (IsFieldIn r) (filter_map kind_in_field slots) (kind ∷ []) fields (f ∷ []) h (is, tt))

more_by : (r : Registered) (slots : List MeantSlot) (s : MeantSlot) (old new : InstructionFormat) → AddsSlot r s old new
    → Stores r slots old
    → Stores r (slots ++ s ∷ []) new
more_by r slots Value old new e h = subst (Stores r (slots ++ Value ∷ [])) (sym e) (record {
  values = ap (λ n. n + 1) h.values ∙ yes is_value slots Value refl;
  blocks = h.blocks ∙ no is_block slots Value refl;
  raw_blocks = h.raw_blocks ∙ no is_raw_block slots Value refl;
  varargs = h.varargs ∙ has_none slots Value refl;
  fields = same_fields r slots Value old.imm_fields refl h.fields;
})
more_by r slots Varargs old new e h = subst (Stores r (slots ++ Varargs ∷ [])) (sym e) (record {
  values = h.values ∙ no is_value slots Varargs refl;
  blocks = h.blocks ∙ no is_block slots Varargs refl;
  raw_blocks = h.raw_blocks ∙ no is_raw_block slots Varargs refl;
  varargs = has_one slots;
  fields = same_fields r slots Varargs old.imm_fields refl h.fields;
})
more_by r slots Block old new e h = subst (Stores r (slots ++ Block ∷ [])) (sym e) (record {
  values = h.values ∙ no is_value slots Block refl;
  blocks = ap (λ n. n + 1) h.blocks ∙ yes is_block slots Block refl;
  raw_blocks = h.raw_blocks ∙ no is_raw_block slots Block refl;
  varargs = h.varargs ∙ has_none slots Block refl;
  fields = same_fields r slots Block old.imm_fields refl h.fields;
})
more_by r slots RawBlock old new e h = subst (Stores r (slots ++ RawBlock ∷ [])) (sym e) (record {
  values = h.values ∙ no is_value slots RawBlock refl;
  blocks = h.blocks ∙ no is_block slots RawBlock refl;
  raw_blocks = ap (λ n. n + 1) h.raw_blocks ∙ yes is_raw_block slots RawBlock refl;
  varargs = h.varargs ∙ has_none slots RawBlock refl;
  fields = same_fields r slots RawBlock old.imm_fields refl h.fields;
})
more_by r slots (Field kind) old new a h = subst (Stores r (slots ++ Field kind ∷ [])) (sym a.2) (record {
  values = h.values ∙ no is_value slots (Field kind) refl;
  blocks = h.blocks ∙ no is_block slots (Field kind) refl;
  raw_blocks = h.raw_blocks ∙ no is_raw_block slots (Field kind) refl;
  varargs = h.varargs ∙ has_none slots (Field kind) refl;
  fields = one_field r slots kind old.imm_fields (field_for a.0) (record { kind_is = a.1; member = a.1.field }) h.fields;
})

-- what a slot leaves as it is
name_by : (r : Registered) (s : MeantSlot) (old new : InstructionFormat) → AddsSlot r s old new → new.name ≡ old.name
name_by r Value old new e = ap (λ (f : InstructionFormat). f.name) e
name_by r Varargs old new e = ap (λ (f : InstructionFormat). f.name) e
name_by r Block old new e = ap (λ (f : InstructionFormat). f.name) e
name_by r RawBlock old new e = ap (λ (f : InstructionFormat). f.name) e
name_by r (Field kind) old new a = ap (λ (f : InstructionFormat). f.name) a.2

designated_by_slot : (r : Registered) (s : MeantSlot) (old new : InstructionFormat) → AddsSlot r s old new
    → new.typevar_operand ≡ old.typevar_operand
designated_by_slot r Value old new e = ap (λ (f : InstructionFormat). f.typevar_operand) e
designated_by_slot r Varargs old new e = ap (λ (f : InstructionFormat). f.typevar_operand) e
designated_by_slot r Block old new e = ap (λ (f : InstructionFormat). f.typevar_operand) e
designated_by_slot r RawBlock old new e = ap (λ (f : InstructionFormat). f.typevar_operand) e
designated_by_slot r (Field kind) old new a = ap (λ (f : InstructionFormat). f.typevar_operand) a.2

-- ---- a format while slots are added

-- the format has this name, stores the slots, and designates no value
pub record IsOpen (r : Registered) (name : List ℕ) (f : InstructionFormat) (slots : List MeantSlot) : Type 0 where
  pub named : f.name ≡ name
  pub stores : Stores r slots f
  pub undesignated : f.typevar_operand ≡ None

pub opened : (r : Registered) (name : List ℕ) → IsOpen r name (empty_format name) []
opened r name = record {
  named = refl;
  stores = record { values = refl; blocks = refl; raw_blocks = refl; varargs = refl; fields = tt };
  undesignated = refl;
}

pub slot_more : (r : Registered) (name : List ℕ) (s : MeantSlot) (old new : InstructionFormat) → AddsSlot r s old new
    → (slots : List MeantSlot) → IsOpen r name old slots → IsOpen r name new (slots ++ s ∷ [])
slot_more r name s old new a slots h = record {
  named = name_by r s old new a ∙ h.named;
  stores = more_by r slots s old new a h.stores;
  undesignated = designated_by_slot r s old new a ∙ h.undesignated;
}
