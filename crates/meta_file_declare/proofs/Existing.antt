-- A registry, formats and instructions that are what items declare.
use Rattle.std.proofs.Common.{◌+◌, ℕ, Bool, true, false, cond, List, [], ◌∷◌, ◌++◌, take, sym, subst, refl}
use Rattle.std.specs.Prelude.{Option, Some, None, Result, Ok, Err, IfOk, count_by}
use Rattle.std.specs.List.{All, AllZip, filter_map, list_any}
use Rattle.std.proofs.lemmas.List.{map-append}
use Rattle.std.proofs.lemmas.List.Elements.{All-nil, All-cons, All-head, All-tail}
use Rattle.std.proofs.lemmas.Result.{IfOk-weaker}
use Rattle.meta_lists.proofs.Pairs.{pairs_imply, pairs_joined}
use Rattle.meta_operands.specs.Format.{field_for}
use Rattle.meta_operands.specs.declared.field.FormatField.{FormatField}
use Rattle.meta_operands.specs.declared.format.InstructionFormat.{InstructionFormat}
use Rattle.meta_operands.specs.declared.operand.Operand.{Operand as Made}
use Rattle.meta_inst.specs.Builder.{Builder}
use Rattle.meta_file_syntax.specs.declared.types.TypeExpr.{TypeExpr}
use Rattle.meta_file_syntax.specs.declared.formats.Slot.{Slot}
use Rattle.meta_file_syntax.specs.declared.formats.Slot.TheVariants as slots
use Rattle.meta_file_syntax.specs.declared.formats.FormatItem.{FormatItem}
use Rattle.meta_file_syntax.specs.declared.insts.Operand.{Operand}
use Rattle.meta_file_syntax.specs.declared.insts.Mark.{Mark}
use Rattle.meta_file_syntax.specs.declared.insts.Mark.TheVariants as marks
use Rattle.meta_file_syntax.specs.declared.insts.InstItem.{InstItem}
use Rattle.meta_file_syntax.specs.declared.items.Item.{Item}
use Rattle.meta_file_syntax.specs.declared.items.Item.TheVariants as item
use Rattle.meta_file_syntax.specs.Named.{name_bytes}
use Rattle.meta_file_types.specs.declared.refused.Reason.{Reason}
use Rattle.meta_file_types.specs.Meant.{MeantType, MeantRoot, MeantKind, Sense, TypeSense, KindSense}
use Rattle.meta_file_types.specs.Symbols.{Symbol}
use Rattle.meta_file_types.specs.Words.{Entry, type_of}
use Rattle.meta_file_types.specs.Operands.{kind_named, operand_of, with_sense}
use Rattle.meta_file_types.specs.Said.{Said, with_meant}
use Rattle.meta_file_types.specs.Registered.{Registered, Extends}
use Rattle.meta_file_types.proofs.Staying.{extends_more, operand_stays as operand_kind_stays}
use Rattle.meta_file_types.proofs.Existing.{IsThere, sense_stays, Serves, Grows, grows_not, grows_by, mentions_type}
use Rattle.meta_file_types.proofs.ExistingItems.{ok_after, ok_unless, type_there, item_grows}
use Rattle.meta_file_types.proofs.ExistingOperands.{IsOperandThere, named_there, operand_grows}
use Rattle.meta_file_types.specs.declared.refused.Reason.TheVariants.{TwoDesignated, UnknownFormat, SecondTwice}
use Rattle.meta_file_types.specs.declared.given.GivenKind.{GivenKind}
use Rattle.meta_file_types.specs.declared.given.GivenKind.TheVariants as given
use Rattle.meta_file_types.specs.Plain.{given_kind}
use Rattle.meta_file_types.specs.Telling.{◌>>=◌, found_or}
use Rattle.meta_file_declare.specs.Telling.{each_from}
use Rattle.meta_file_declare.specs.InstTexts.{format_texts, inst_texts}
use Rattle.meta_file_types.specs.Said.{wrong_texts}
use Rattle.meta_file_declare.specs.Formats.{MeantSlot, Value, Varargs, Block, RawBlock, Field, is_value, is_varargs, is_block, is_raw_block}
use Rattle.meta_file_declare.specs.Formats.{kind_in_field, slot_by, slot_at, slots_of, is_marked, MeantFormat, FormatEntry}
use Rattle.meta_file_declare.specs.Formats.{format_named, declared_above, format_with, format_of}
use Rattle.meta_file_declare.specs.Insts.{MeantOperand, MeantInst, operand_with, operand_at, operands_of, marks_in, seconds_from}
use Rattle.meta_file_declare.specs.Insts.{second_by, second_of, inst_with, inst_in, inst_of}
use Rattle.meta_file_declare.specs.Mentioned.{with_operands, with_seconds, after_inst}
use Rattle.meta_file_declare.specs.Registered.{IsFieldIn, IsFormatIn, IsOperandIn, AreOperandsIn, IsSecondIn, IsBuilderIn}
use Rattle.meta_file_declare.specs.Held.{meant_formats}
use Rattle.meta_file_declare.specs.SaidOfInsts.{Above, with_format, with_inst, mentioning, with_types, with_insts, after, nothing_said}
use Rattle.meta_file_declare.specs.SaidOfInsts.{said_from}
use Rattle.meta_file_declare.proofs.Staying.{operands_stay, format_stays, builder_stays}

-- ---- what holds where something is meant

-- of each
ok_each : {A B : Type 0} (f : ℕ → A → Result B Reason) (P : B → Type 0) → ((k : ℕ) (x : A) → IfOk (f k x) P) → (k : ℕ) (xs : List A)
    → IfOk (each_from f k xs) (All P)
ok_each {A} {B} f P h k [] = All-nil P
ok_each {A} {B} f P h k (x ∷ xs) =
    ok_after (f k x) (λ y. each_from f (k + 1) xs >>= λ ys. Ok (y ∷ ys)) P (All P) (h k x)
    (λ y p. ok_after (each_from f (k + 1) xs) (λ ys. Ok (y ∷ ys)) (All P) (All P) (ok_each f P h (k + 1) xs)
    (λ ys ps. All-cons P y ys p ps))

-- ---- formats

-- the kind in a slot is there
abbrev IsSlotThere : Registered → MeantSlot → Type 0
IsSlotThere r Value = Unit {0}
IsSlotThere r Varargs = Unit {0}
IsSlotThere r Block = Unit {0}
IsSlotThere r RawBlock = Unit {0}
IsSlotThere r (Field kind) = IsThere r (KindSense kind)

fields_there : (r : Registered) (slots : List MeantSlot) → All (IsSlotThere r) slots
    → (fs : List FormatField) × AllZip (IsFieldIn r) (filter_map kind_in_field slots) fs
fields_there r [] h = ([], tt)
fields_there r (Value ∷ slots) h = fields_there r slots (All-tail (IsSlotThere r) Value slots h)
fields_there r (Varargs ∷ slots) h = fields_there r slots (All-tail (IsSlotThere r) Varargs slots h)
fields_there r (Block ∷ slots) h = fields_there r slots (All-tail (IsSlotThere r) Block slots h)
fields_there r (RawBlock ∷ slots) h = fields_there r slots (All-tail (IsSlotThere r) RawBlock slots h)
fields_there r (Field kind ∷ slots) h =
    let first = All-head (IsSlotThere r) (Field kind) slots h in
    let more = fields_there r slots (All-tail (IsSlotThere r) (Field kind) slots h) in
    (field_for first.0 ∷ more.0, (record { kind_is = first.1; member = first.1.field }, more.1))

module _ (r : Registered) (roots : List MeantRoot) (entries : List Entry) (h : Serves r roots entries) where
  slot_there : (all : List Slot) (k : ℕ) (s : Slot) → IfOk (slot_at entries all k s) (IsSlotThere r)
  slot_there all k slots.Value = tt
  slot_there all k slots.Designated = by (list_any is_marked (take k all))
    where
      by : (b : Bool) → IfOk (cond b (Err (TwoDesignated k)) (Ok Value)) (IsSlotThere r)
      by true = tt
      by false = tt
  slot_there all k (slots.Kind w) =
      by (given_kind w) (kind_named entries w) (named_there r roots entries h w)
    where
      by : (o : Option GivenKind) (kind : Result MeantKind Reason) → IfOk kind (λ k. IsThere r (KindSense k))
          → IfOk (slot_by o kind) (IsSlotThere r)
      by (Some given.Block) kind g = tt
      by (Some given.RawBlock) kind g = tt
      by (Some given.Varargs) kind g = tt
      by None (Ok kind) g = g
      by None (Err reason) g = tt

  -- the format that an item declares
  abbrev IsFormatThere : MeantFormat → Type 0
  IsFormatThere m = (f : InstructionFormat) × IsFormatIn r m f

  format_made : (m : MeantFormat) → All (IsSlotThere r) m.slots → IsFormatThere m
  format_made m slots =
      let fields = fields_there r m.slots slots in (
        record {
          name = m.name;
          num_value_operands = count_by is_value m.slots;
          has_value_list = list_any is_varargs m.slots;
          imm_fields = fields.0;
          num_block_operands = count_by is_block m.slots;
          num_raw_block_operands = count_by is_raw_block m.slots;
          typevar_operand = m.designated;
        },
        record {
          name = refl;
          stores = record { values = refl; blocks = refl; raw_blocks = refl; varargs = refl; fields = fields.1 };
          designated = refl;
        },
      )

  format_there : (formats : List FormatEntry) (i : FormatItem) → IfOk (format_of entries formats i) IsFormatThere
  unfolding format_of
  format_there formats i =
      ok_unless (wrong_texts (format_texts i)) _ IsFormatThere
      (ok_unless (declared_above i.word (format_named formats i.word)) _ IsFormatThere
      (ok_after (slots_of entries i.slots) (λ slots. Ok (format_with i slots)) (All (IsSlotThere r)) IsFormatThere
      (ok_each (slot_at entries i.slots) (IsSlotThere r) (slot_there i.slots) 0 i.slots)
      (λ slots there. format_made (format_with i slots) there)))

-- ---- operands

-- operands that are what is meant
abbrev AreThere : Registered → List MeantOperand → Type 0
AreThere r ms = (os : List Made) × AreOperandsIn r ms os

-- a registry that has what operands mention, and the operands, where they are meant
record GrowsByOperands (r : Registered) (roots : List MeantRoot) (entries : List Entry) (symbols : List Symbol)
    (a : Result (List MeantOperand) Reason) : Type 0 where
  grows : Grows r symbols roots entries
  there : IfOk a (AreThere (record { vars = grows.vars; symbols = symbols }))

operand_made : (r : Registered) (o : Operand) (what : Sense) → IsOperandThere r what → (p : Made) × IsOperandIn r (operand_with o what) p
operand_made r o what kind =
    (record { name = name_bytes o.name; kind = kind.0; doc = o.text }, record { name = refl; doc = refl; kind = kind.1 })

abbrev with_place : List Entry → ℕ → Operand → Result MeantOperand Reason
with_place entries k o = operand_at entries o

operands_grow : (r : Registered) (roots : List MeantRoot) (entries : List Entry) → Serves r roots entries → (k : ℕ) (os : List Operand)
    → GrowsByOperands r roots entries (with_operands entries r.symbols os) (each_from (with_place entries) k os)
operands_grow r roots entries h k [] = record { grows = grows_not r roots entries h; there = ([], tt) }
operands_grow r roots entries h k (o ∷ os) =
    let first = operand_grows r roots entries h o.what in
    let now : Registered = record { vars = first.grows.vars; symbols = with_sense r.symbols (operand_of entries o.what) } in
    let more = operands_grow now roots entries first.grows.serves (k + 1) os in
    let new : Registered = record { vars = more.grows.vars; symbols = with_operands entries now.symbols os } in
    record {
      grows = record {
        vars = more.grows.vars;
        serves = more.grows.serves;
        extends = extends_more r now new first.grows.extends more.grows.extends;
      };
      there = ok_after (with_place entries k o) (λ y. each_from (with_place entries) (k + 1) os >>= λ ys. Ok (y ∷ ys))
          (λ y. (p : Made) × IsOperandIn new y p) (AreThere new)
          (ok_after (operand_of entries o.what) (λ what. Ok (operand_with o what)) (IsOperandThere now)
          (λ y. (p : Made) × IsOperandIn new y p) first.there
          (λ what kind. operand_made new o what (kind.0, operand_kind_stays now new what kind.0 more.grows.extends kind.1)))
          (λ y p. ok_after (each_from (with_place entries) (k + 1) os) (λ ys. Ok (y ∷ ys)) (AreThere new) (AreThere new) more.there
          (λ ys ps. (p.0 ∷ ps.0, (p.1, ps.1))));
    }

-- ---- the second type

-- the registry has the type after `second`, if one is meant
abbrev IsSecondThere : Registered → List Entry → (ℕ × TypeExpr) → Type 0
IsSecondThere r entries s = IfOk (type_of entries s.1) (λ m. IsThere r (TypeSense m))

record GrowsByMarks (r : Registered) (roots : List MeantRoot) (entries : List Entry) (k : ℕ) (all : List Mark) : Type 0 where
  grows : Grows r (with_seconds entries r.symbols all) roots entries
  there : All (IsSecondThere (record { vars = grows.vars; symbols = with_seconds entries r.symbols all }) entries) (seconds_from k all)

marks_grow : (r : Registered) (roots : List MeantRoot) (entries : List Entry) → Serves r roots entries → (k : ℕ) (all : List Mark)
    → GrowsByMarks r roots entries k all
marks_grow r roots entries h k [] = record { grows = grows_not r roots entries h; there = All-nil (IsSecondThere r entries) }
marks_grow r roots entries h k (marks.Is property ∷ more) =
    let next = marks_grow r roots entries h (k + 1) more in
    record { grows = next.grows; there = next.there }
marks_grow r roots entries h k (marks.Second t ∷ more) =
    let a = type_of entries t in
    let there = mentions_type r roots entries h t in
    let first = grows_by r roots entries h a there in
    let now : Registered = record { vars = first.vars; symbols = with_meant r.symbols a } in
    let next = marks_grow now roots entries first.serves (k + 1) more in
    let new : Registered = record { vars = next.grows.vars; symbols = with_seconds entries now.symbols more } in
    record {
      grows = record {
        vars = next.grows.vars;
        serves = next.grows.serves;
        extends = extends_more r now new first.extends next.grows.extends;
      };
      there = All-cons (IsSecondThere new entries) (k, t) (seconds_from (k + 1) more)
          (IfOk-weaker a (λ m. IsThere now (TypeSense m)) (λ m. IsThere new (TypeSense m))
          (λ m is. sense_stays now new next.grows.extends (TypeSense m) is) (type_there r roots entries h a there))
          next.there;
    }

second_there : (r : Registered) (entries : List Entry) (ss : List (ℕ × TypeExpr)) → All (IsSecondThere r entries) ss
    → IfOk (second_by entries ss) (λ m. (n : Option ℕ) × IsSecondIn r m n)
second_there r entries [] h = (None, tt)
second_there r entries (s ∷ []) h =
    let P : MeantType → Type 0 = λ m. IsThere r (TypeSense m) in
    ok_after (type_of entries s.1) (λ m. Ok (Some m)) P (λ m. (n : Option ℕ) × IsSecondIn r m n)
    (All-head (IsSecondThere r entries) s [] h)
    (λ m is. (Some is.0, is.1))
second_there r entries (s ∷ (t ∷ more)) h =
    let P : MeantType → Type 0 = λ m. IsThere r (TypeSense m) in
    ok_after (type_of entries s.1) (λ m. Err (SecondTwice t.0)) P (λ m. (n : Option ℕ) × IsSecondIn r m n)
    (All-head (IsSecondThere r entries) s (t ∷ more) h)
    (λ m is. tt)

-- ---- instructions

record GrowsByInst (r : Registered) (roots : List MeantRoot) (entries : List Entry) (symbols : List Symbol)
    (a : Result MeantInst Reason) : Type 0 where
  grows : Grows r symbols roots entries
  there : IfOk a (λ m. (b : Builder) × IsBuilderIn (record { vars = grows.vars; symbols = symbols }) m b)

module _ (vars : List _) (s : Said) (h : Serves (record { vars = vars; symbols = s.symbols }) s.roots s.words) (i : InstItem)
    (formats : List FormatEntry) where
  abbrev start : Registered
  start = record { vars = vars; symbols = s.symbols }

  inst_grows : GrowsByInst start s.roots s.words (after_inst s i).symbols (inst_of s.words formats i)
  unfolding inst_of inst_in
  inst_grows =
      let ins = operands_grow start s.roots s.words h 0 i.inputs in
      let with_inputs : Registered = record { vars = ins.grows.vars; symbols = with_operands s.words s.symbols i.inputs } in
      let outs = operands_grow with_inputs s.roots s.words ins.grows.serves 0 i.outputs in
      let beyond : Registered = record { vars = outs.grows.vars; symbols = with_operands s.words with_inputs.symbols i.outputs } in
      let all = marks_grow beyond s.roots s.words outs.grows.serves 0 (marks_in i.marks) in
      let new : Registered = record { vars = all.grows.vars; symbols = with_seconds s.words beyond.symbols (marks_in i.marks) } in
      let later : Extends with_inputs new = extends_more with_inputs beyond new outs.grows.extends all.grows.extends in
      let P : MeantInst → Type 0 = λ m. (b : Builder) × IsBuilderIn new m b in
      record {
        grows = record {
          vars = all.grows.vars;
          serves = all.grows.serves;
          extends = extends_more start with_inputs new ins.grows.extends later;
        };
        there = ok_unless (wrong_texts (inst_texts i)) _ P
            (ok_after (found_or (UnknownFormat i.format) (format_named formats i.format)) (λ f. inst_in s.words f.id i) (λ f. Unit {0}) P
            (any (found_or (UnknownFormat i.format) (format_named formats i.format)))
            (λ f u. ok_after (operands_of s.words i.inputs) _ (AreThere with_inputs) P ins.there
            (λ inputs is. ok_after (operands_of s.words i.outputs) _ (AreThere beyond) P outs.there
            (λ outputs os. ok_after (second_of s.words (marks_in i.marks)) _ (λ m. (n : Option ℕ) × IsSecondIn new m n) P
            (second_there new s.words (seconds_from 0 (marks_in i.marks)) all.there)
            (λ second n. (
              record {
                name = name_bytes i.name;
                doc = (inst_with i f.id inputs outputs second).doc;
                format = f.id;
                operands_in = Some is.0;
                operands_out = Some os.0;
                marks = (inst_with i f.id inputs outputs second).marks;
                second = n.0;
              },
              record {
                name = refl;
                doc = refl;
                format = refl;
                inputs_set = refl;
                outputs_set = refl;
                inputs = operands_stay with_inputs new later inputs is.0 is.1;
                outputs = operands_stay beyond new all.grows.extends outputs os.0 os.1;
                marks = refl;
                second = n.1;
              },
            ))))));
      }
    where
      any : {A : Type 0} (a : Result A Reason) → IfOk a (λ x. Unit {0})
      any {A} (Ok x) = tt
      any {A} (Err reason) = tt

-- ---- items

-- a registry, formats and instructions are what is declared
pub record Exists (a : Above) : Type 0 where
  pub vars : List _
  pub formats : List InstructionFormat
  pub insts : List Builder
  pub serves : Serves (record { vars = vars; symbols = a.types.symbols }) a.types.roots a.types.words
  pub formats_are : AllZip (IsFormatIn (record { vars = vars; symbols = a.types.symbols })) (meant_formats a.insts.formats) formats
  pub insts_are : AllZip (IsBuilderIn (record { vars = vars; symbols = a.types.symbols })) a.insts.insts insts

-- where more is mentioned
abbrev exists_more : (a : Above) (h : Exists a) (t : Said)
    → Grows (record { vars = h.vars; symbols = a.types.symbols }) t.symbols t.roots t.words
    → Exists (record { types = t; insts = a.insts })
exists_more a h t g =
    let old : Registered = record { vars = h.vars; symbols = a.types.symbols } in
    let new : Registered = record { vars = g.vars; symbols = t.symbols } in
    record {
      vars = g.vars;
      formats = h.formats;
      insts = h.insts;
      serves = g.serves;
      formats_are = pairs_imply (IsFormatIn old) (IsFormatIn new) (format_stays old new g.extends) (meant_formats a.insts.formats) h.formats
          h.formats_are;
      insts_are = pairs_imply (IsBuilderIn old) (IsBuilderIn new) (builder_stays old new g.extends) a.insts.insts h.insts h.insts_are;
    }

module _ (a : Above) (h : Exists a) (place : ℕ) where
  abbrev now : Registered
  now = record { vars = h.vars; symbols = a.types.symbols }

  format_more : (w : List ℕ) (m : Result MeantFormat Reason) → IfOk m (λ m. (f : InstructionFormat) × IsFormatIn now m f)
      → Exists (record { types = a.types; insts = with_format a.insts w place m })
  format_more w (Err reason) there = h
  format_more w (Ok m) there =
      let e : FormatEntry = record { word = w; place = place; format = m } in
      record {
        vars = h.vars;
        formats = h.formats ++ there.0 ∷ [];
        insts = h.insts;
        serves = h.serves;
        formats_are = subst (λ (ms : List MeantFormat). AllZip (IsFormatIn now) ms (h.formats ++ there.0 ∷ []))
            (sym (map-append (λ (e : FormatEntry). e.format) a.insts.formats (e ∷ [])))
            (pairs_joined (IsFormatIn now) (meant_formats a.insts.formats) (m ∷ []) h.formats (there.0 ∷ []) h.formats_are (there.1, tt));
        insts_are = h.insts_are;
      }

  inst_more : (i : InstItem) (m : Result MeantInst Reason)
      → GrowsByInst now a.types.roots a.types.words (after_inst a.types i).symbols m
      → Exists (record { types = mentioning a.types i m; insts = with_inst a.insts m })
  inst_more i (Err reason) g = h
  inst_more i (Ok m) g =
      let more = exists_more a h (after_inst a.types i) g.grows in
      record {
        vars = more.vars;
        formats = more.formats;
        insts = more.insts ++ g.there.0 ∷ [];
        serves = more.serves;
        formats_are = more.formats_are;
        insts_are = pairs_joined (IsBuilderIn (record { vars = more.vars; symbols = (after_inst a.types i).symbols })) a.insts.insts
            (m ∷ [])
            more.insts (g.there.0 ∷ []) more.insts_are (g.there.1, tt);
      }

  insts_more : (i : Item) → Exists (with_insts a place i)
  insts_more (item.Type i) = h
  insts_more (item.Alias i) = h
  insts_more (item.Kind i) = h
  insts_more (item.Format i) =
      format_more i.word (format_of a.types.words a.insts.formats i)
      (format_there now a.types.roots a.types.words h.serves a.insts.formats i)
  insts_more (item.Inst i) =
      inst_more i (inst_of a.types.words a.insts.formats i) (inst_grows h.vars a.types h.serves i a.insts.formats)
  insts_more (item.Group i) = h
  insts_more (item.Bool i) = h
  insts_more (item.Num i) = h
  insts_more (item.Enum i) = h
  insts_more (item.Preset i) = h

after_exists : (a : Above) → Exists a → (place : ℕ) (i : Item) → Exists (after a place i)
after_exists a h place i =
    let g = item_grows h.vars a.types h.serves place i in
    let b : Above = with_types a place i in
    insts_more b (exists_more a h b.types g) place i

pub all_exist : (items : List Item) (a : Above) (place : ℕ) → Exists a → Exists (said_from a place items)
all_exist [] a place h = h
all_exist (i ∷ is) a place h = all_exist is (after a place i) (place + 1) (after_exists a h place i)

-- nothing
pub nothing_exists : Exists nothing_said
nothing_exists = record {
  vars = [];
  formats = [];
  insts = [];
  serves = record {
    registry = record {
      count = refl;
      apart = λ s n m at there. absurd (cc);
      variables = λ s n at. absurd (cc);
    };
    words = All-nil (λ (e : Entry). IsThere (record { vars = []; symbols = [] }) e.sense);
  };
  formats_are = tt;
  insts_are = tt;
}
