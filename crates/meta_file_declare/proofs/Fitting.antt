-- What is kept of all items is of its own registries.
use Rattle.std.proofs.Common.{◌≡◌, ◌∙◌, ◌<◌, ◌+◌, ℕ, zero, suc, Bool, true, false, cond, List, [], ◌∷◌, inl, inr, length, sym, ap}
use Rattle.std.proofs.Common.{refl, subst, arith}
use Rattle.std.specs.Prelude.{slice_get, Option, Some, None, Result, Ok, Err}
use Rattle.std.specs.List.{AllZip, cons_option}
use Rattle.std.proofs.lemmas.List.{length-append, length-map}
use Rattle.std.proofs.lemmas.Option.{same_Some}
use Rattle.std.proofs.lemmas.Slice.Zip.{AllZip-long}
use Rattle.meta_lists.proofs.Places.{get_cases, get_only}
use Rattle.meta_typevar.specs.declared.content.TypeVarContent.{TypeVarContent}
use Rattle.meta_operands.specs.declared.format.InstructionFormat.{InstructionFormat}
use Rattle.meta_operands.specs.Kind.{variable_in}
use Rattle.meta_operands.specs.Operand.{variable_of, variables_of}
use Rattle.meta_operands.specs.declared.kind.OperandKind.{OperandKind}
use Rattle.meta_operands.specs.declared.kind.OperandKindFields.{OperandKindFields}
use Rattle.meta_operands.specs.declared.operand.Operand.{Operand}
use Rattle.meta_inst.specs.Builder.{Builder, inputs_of, outputs_of}
use Rattle.meta_inst.specs.InstructionSet.{AreOfRegistries}
use Rattle.meta_inst.specs.Operands.{AreOf, SecondIsOf}
use Rattle.meta_file_syntax.specs.declared.insts.InstItem.{InstItem}
use Rattle.meta_file_syntax.specs.declared.items.Item.{Item}
use Rattle.meta_file_syntax.specs.declared.items.Item.TheVariants as item
use Rattle.meta_file_types.specs.declared.refused.Reason.{Reason}
use Rattle.meta_file_types.specs.declared.refused.Reason.TheVariants.{UnknownFormat}
use Rattle.meta_file_types.specs.declared.types.Types.{Types}
use Rattle.meta_file_types.specs.Meant.{MeantType, MeantSort, Sense, TypeSense, KindSense}
use Rattle.meta_file_types.specs.Meant as sorts
use Rattle.meta_file_types.specs.Words.{Entry}
use Rattle.meta_file_types.specs.Plain.{same_word}
use Rattle.meta_file_types.specs.Said.{wrong_texts}
use Rattle.meta_file_types.specs.Telling.{◌>>=◌, found_or, unless}
use Rattle.meta_file_types.specs.Registered.{Registered, AreValuesIn, AreFieldsIn}
use Rattle.meta_file_types.specs.Operands.{IsOperandKindIn}
use Rattle.meta_file_types.specs.Held.{registered, vars_in}
use Rattle.meta_file_declare.specs.declared.insts.FormatWord.{FormatWord}
use Rattle.meta_file_declare.specs.declared.insts.Insts.{Insts}
use Rattle.meta_file_declare.specs.InstTexts.{inst_texts}
use Rattle.meta_file_declare.specs.Formats.{MeantFormat, FormatEntry, format_from, format_named}
use Rattle.meta_file_declare.specs.Insts.{MeantOperand, MeantInst, operands_of, second_of, marks_in, inst_with, inst_in, inst_of}
use Rattle.meta_file_declare.specs.Registered.{IsFormatIn, AreOperandsIn, IsSecondIn, IsBuilderIn}
use Rattle.meta_file_declare.specs.SaidOfInsts.{SaidInsts, Above, with_format, with_inst, after, said_from, said, nothing_said}
use Rattle.meta_file_declare.specs.Held.{meant_formats, formats_in, insts_in}
use Rattle.meta_file_declare.specs.SoFar.{HoldsSet}

-- ---- the format of an instruction is one of those above it

named_by : (n m : ℕ) (e : FormatEntry) (f : FormatWord) (later : Option FormatWord) (b : Bool) → (later ≡ Some f → f.id < n + 1 + m)
    → cond b (Some (record { place = e.place; id = n })) later ≡ Some f → f.id < n + suc m
named_by n m e f later true below is =
    let here : FormatWord = record { place = e.place; id = n } in
    let same : n ≡ f.id = ap (λ (x : FormatWord). x.id) (same_Some here f is) in
    omega (arith, same)
named_by n m e f later false below is = omega (arith, below is)

named_below : (n : ℕ) (es : List FormatEntry) (w : List ℕ) (f : FormatWord) → format_from n es w ≡ Some f → f.id < n + length es
named_below n [] w f is = absurd (cc)
named_below n (e ∷ es) w f is =
    named_by n (length es) e f (format_from (n + 1) es w) (same_word e.word w) (named_below (n + 1) es w f) is

-- each instruction is of one of the formats
abbrev AreWithin : SaidInsts → Type 0
AreWithin s = (k : ℕ) (m : MeantInst) → slice_get s.insts k ≡ Some m → m.format < length s.formats

unless_ok : {A : Type 0} (wrong : Option Reason) (meant : Result A Reason) (x : A) → unless wrong meant ≡ Ok x → meant ≡ Ok x
unless_ok None meant x is = is
unless_ok (Some reason) meant x is = absurd (cc)

found_then : {A B : Type 0} (reason : Reason) (found : Option A) (f : A → Result B Reason) (y : B) → (found_or reason found >>= f) ≡ Ok y
    → (x : A) × (found ≡ Some x) × (f x ≡ Ok y)
found_then reason None f y is = absurd (cc)
found_then reason (Some x) f y is = (x, refl, is)

then_ok : {A B : Type 0} (one : Result A Reason) (f : A → Result B Reason) (y : B) → (one >>= f) ≡ Ok y → (x : A) × (f x ≡ Ok y)
then_ok (Ok x) f y is = (x, is)
then_ok (Err reason) f y is = absurd (cc)

abbrev made : MeantInst → Result MeantInst Reason
made m = Ok m

same_format : (a b : MeantInst) → made a ≡ made b → b.format ≡ a.format
same_format a b is = let same : a ≡ b = cc in ap (λ (m : MeantInst). m.format) (sym same)

in_format : (words : List Entry) (format : ℕ) (i : InstItem) (m : MeantInst) → inst_in words format i ≡ Ok m → m.format ≡ format
unfolding inst_in
in_format words format i m is =
    let inputs = then_ok (operands_of words i.inputs) (λ inputs. operands_of words i.outputs >>= λ outputs.
    second_of words (marks_in i.marks) >>= λ second. Ok (inst_with i format inputs outputs second)) m is in
    let outputs = then_ok (operands_of words i.outputs) (λ outputs.
    second_of words (marks_in i.marks) >>= λ second. Ok (inst_with i format inputs.0 outputs second)) m inputs.1 in
    let second = then_ok (second_of words (marks_in i.marks)) (λ second. Ok (inst_with i format inputs.0 outputs.0 second)) m outputs.1 in
    same_format (inst_with i format inputs.0 outputs.0 second.0) m second.1

inst_within : (words : List Entry) (formats : List FormatEntry) (i : InstItem) (m : MeantInst) → inst_of words formats i ≡ Ok m
    → m.format < length formats
unfolding inst_of
inst_within words formats i m is =
    let right = unless_ok (wrong_texts (inst_texts i)) (found_or (UnknownFormat i.format) (format_named formats i.format) >>= λ f.
    inst_in words f.id i) m is in
    let found = found_then (UnknownFormat i.format) (format_named formats i.format) (λ f. inst_in words f.id i) m right in
    let below = named_below 0 formats i.format found.0 found.1 in
    let same = in_format words found.0.id i m found.2 in
    omega (arith, below, same)

with_format_within : (s : SaidInsts) (w : List ℕ) (place : ℕ) (r : Result MeantFormat Reason) → AreWithin s
    → AreWithin (with_format s w place r)
with_format_within s w place (Err reason) h = h
with_format_within s w place (Ok f) h = λ k m at.
    let e : FormatEntry = record { word = w; place = place; format = f } in
    omega (arith, h k m at, length-append s.formats (e ∷ []))

with_inst_within : (s : SaidInsts) (r : Result MeantInst Reason) → ((m : MeantInst) → r ≡ Ok m → m.format < length s.formats)
    → AreWithin s → AreWithin (with_inst s r)
with_inst_within s (Err reason) new h = h
with_inst_within s (Ok i) new h = λ k m at. elim (get_cases s.insts (i ∷ []) k m at) [
  | inl old ↦ h k m old
  | inr last ↦ new m (ap (λ (x : MeantInst). Ok x) (get_only i m last.0 last.2))
]

after_within : (a : Above) (place : ℕ) (i : Item) → AreWithin a.insts → AreWithin (after a place i).insts
after_within a place (item.Type i) h = h
after_within a place (item.Alias i) h = h
after_within a place (item.Kind i) h = h
after_within a place (item.Format i) h = with_format_within a.insts i.word place _ h
after_within a place (item.Inst i) h = with_inst_within a.insts (inst_of a.types.words a.insts.formats i)
    (inst_within a.types.words a.insts.formats i) h
after_within a place (item.Group i) h = h
after_within a place (item.Bool i) h = h
after_within a place (item.Num i) h = h
after_within a place (item.Enum i) h = h
after_within a place (item.Preset i) h = h

from_within : (a : Above) (place : ℕ) (items : List Item) → AreWithin a.insts → AreWithin (said_from a place items).insts
from_within a place [] h = h
from_within a place (i ∷ is) h = from_within (after a place i) (place + 1) is (after_within a place i h)

none_within : AreWithin nothing_said.insts
none_within = λ k m at. absurd (cc)

-- ---- variables are of the registry

module _ (r : Registered) where
  values_fit : (m : MeantType) (f : OperandKindFields) → AreValuesIn r m f → (n : ℕ) → variable_in f ≡ Some n → n < length r.vars
  values_fit m f h n is =
      subst (λ x. x < length r.vars) (same_Some h.number n (ap variable_in (sym h.is) ∙ is)) h.type_is.of

  no_variable : (f g : OperandKindFields) → f ≡ g → variable_in g ≡ None → (n : ℕ) → variable_in f ≡ Some n → n < length r.vars
  no_variable f g same none n is = let never : None ≡ Some n = sym none ∙ (ap variable_in (sym same) ∙ is) in absurd (cc)

  fields_fit : (s : MeantSort) (f : OperandKindFields) → AreFieldsIn r s f → (n : ℕ) → variable_in f ≡ Some n → n < length r.vars
  fields_fit sorts.Entity f h = no_variable f _ h refl
  fields_fit sorts.Imm f h = no_variable f _ h refl
  fields_fit (sorts.ImmEnum values) f h = no_variable f _ h refl
  fields_fit sorts.VariableArgs f h = no_variable f _ h refl
  fields_fit (sorts.Value m) f h = values_fit m f h

  kind_fits : (s : Sense) (kind : OperandKind) → IsOperandKindIn r s kind → (n : ℕ) → variable_in kind.fields ≡ Some n → n < length r.vars
  kind_fits (TypeSense m) kind h = values_fit m kind.fields h.sort
  kind_fits (KindSense k) kind h = fields_fit k.sort kind.fields h.sort

  cons_fits : (o : Option ℕ) (ns : List ℕ) → ((n : ℕ) → o ≡ Some n → n < length r.vars)
      → AreOf r.vars ns → (k n : ℕ) → slice_get (cons_option o ns) k ≡ Some n → n < length r.vars
  cons_fits None ns one more k n at = more k n at
  cons_fits (Some m) ns one more zero n at = one n at
  cons_fits (Some m) ns one more (suc k) n at = more k n at

  operands_fit : (ms : List MeantOperand) (os : List Operand) → AreOperandsIn r ms os → AreOf r.vars (variables_of os)
  operands_fit ms [] h = λ k n at. absurd (cc)
  operands_fit [] (o ∷ os) h = absurd h
  operands_fit (m ∷ ms) (o ∷ os) h =
      cons_fits (variable_of o) (variables_of os) (kind_fits m.what o.kind h.0.kind) (operands_fit ms os h.1)

  second_fits : (m : Option MeantType) (second : Option ℕ) → IsSecondIn r m second → SecondIsOf r.vars second
  second_fits m None h = λ n is. absurd (cc)
  second_fits None (Some s) h = absurd h
  second_fits (Some m) (Some s) h = λ n is. subst (λ x. x < length r.vars) (same_Some s n is) h.of

-- ---- all instructions

pair_at : {X Y : Type 0} (R : X → Y → Type 0) (xs : List X) (ys : List Y) → AllZip R xs ys → (k : ℕ) (y : Y) → slice_get ys k ≡ Some y
    → (x : X) × (slice_get xs k ≡ Some x) × R x y
pair_at R xs [] h k y at = absurd (cc)
pair_at R [] (z ∷ ys) h k y at = absurd h
pair_at R (x ∷ xs) (z ∷ ys) h zero y at = (x, refl, subst (R x) (same_Some z y at) h.0)
pair_at R (x ∷ xs) (z ∷ ys) h (suc k) y at = pair_at R xs ys h.1 k y at

all_kept : (items : List Item) (t : Types) (s : Insts) → HoldsSet t s (said items)
    → AreOfRegistries (vars_in t) (formats_in s) (insts_in s)
all_kept items t s h = λ k b at.
    let all = said items in
    let r = registered t all.types in
    let p = pair_at (IsBuilderIn r) all.insts.insts (insts_in s) h.insts.insts k b at in
    let count : length (formats_in s) ≡ length all.insts.formats =
    AllZip-long (IsFormatIn r) (meant_formats all.insts.formats) (formats_in s) h.insts.formats
    ∙ length-map all.insts.formats (λ (x : FormatEntry). x.format) in
    let within : p.0.format < length all.insts.formats = from_within nothing_said 0 items none_within k p.0 p.1 in
    record {
      format = omega (arith, p.2.format, within, count);
      outputs = operands_fit r p.0.outputs (outputs_of b) p.2.outputs;
      inputs = operands_fit r p.0.inputs (inputs_of b) p.2.inputs;
      second = second_fits r p.0.second b.second p.2.second;
    }

-- what is kept of the items fits together
pub all_fit : (items : List Item) (t : Types) (s : Insts) (vars : List TypeVarContent) (formats : List InstructionFormat)
    (insts : List Builder) → HoldsSet t s (said items) → vars ≡ vars_in t → formats ≡ formats_in s → insts ≡ insts_in s
    → AreOfRegistries vars formats insts
all_fit items t s vars formats insts h one two three =
    subst (λ (vs : List TypeVarContent). AreOfRegistries vs formats insts) (sym one)
    (subst (λ (fs : List InstructionFormat). AreOfRegistries (vars_in t) fs insts) (sym two)
    (subst (λ (bs : List Builder). AreOfRegistries (vars_in t) (formats_in s) bs) (sym three) (all_kept items t s h)))
