-- Items make the same declarations each time.
use Rattle.std.proofs.Common.{◌≡◌, ℕ, List, Option, Some, None, refl, sym, ap, ◌∙◌, subst, arith}
use Rattle.std.specs.List.{AllZip, filter_map}
use Rattle.meta_typevar.specs.declared.content.TypeVarContent.{TypeVarContent}
use Rattle.meta_operands.specs.Operand.{own_doc}
use Rattle.meta_operands.specs.declared.field.FormatField.{FormatField}
use Rattle.meta_operands.specs.declared.format.InstructionFormat.{InstructionFormat}
use Rattle.meta_operands.specs.declared.operand.Operand.{Operand}
use Rattle.meta_inst.specs.Builder.{Builder, inputs_of, outputs_of}
use Rattle.meta_inst.specs.InstructionSet.{InstructionSet}
use Rattle.meta_build.specs.AllDeclared.{Declared}
use Rattle.meta_file_syntax.specs.declared.items.Item.{Item}
use Rattle.meta_file_types.specs.Meant.{MeantType, MeantKind, MeantRoot}
use Rattle.meta_file_types.specs.Registered.{Registered, IsRegistryOf}
use Rattle.meta_file_declare.specs.Formats.{kind_in_field, MeantFormat}
use Rattle.meta_file_declare.specs.Insts.{MeantOperand, MeantInst}
use Rattle.meta_file_declare.specs.Registered.{IsFieldIn, IsFormatIn, IsOperandIn, AreOperandsIn, IsSecondIn, IsBuilderIn}
use Rattle.meta_file_declare.specs.SaidOfInsts.{said}
use Rattle.meta_file_declare.specs.Held.{meant_formats}
use Rattle.meta_file_declare.specs.AllItems.{registry_of, Declares}
use Rattle.meta_file_declare.proofs.SameVariables.{vars_same}
use Rattle.meta_file_declare.proofs.SameKinds.{pairs_same, equal_pairs, type_same, meant_kind_same, operand_kind_same}

-- ---- parts that are the same make the same whole

field_is : (f g : FormatField) → f.kind ≡ g.kind → f.member ≡ g.member → f ≡ g
field_is f g a b = grind arith

format_is : (f g : InstructionFormat) → f.name ≡ g.name → f.num_value_operands ≡ g.num_value_operands
    → f.has_value_list ≡ g.has_value_list → f.imm_fields ≡ g.imm_fields → f.num_block_operands ≡ g.num_block_operands
    → f.num_raw_block_operands ≡ g.num_raw_block_operands → f.typevar_operand ≡ g.typevar_operand → f ≡ g
format_is f g a b c d e h k = grind arith

operand_is : (o p : Operand) → o.name ≡ p.name → own_doc o ≡ own_doc p → o.kind ≡ p.kind → o ≡ p
operand_is o p a b c = grind arith

builder_is : (b c : Builder) → b.name ≡ c.name → b.doc ≡ c.doc → b.format ≡ c.format → b.operands_in ≡ c.operands_in
    → b.operands_out ≡ c.operands_out → b.marks ≡ c.marks → b.second ≡ c.second → b ≡ c
builder_is b c name doc format inputs outputs marks second = λ i. record {
  name = name i;
  doc = doc i;
  format = format i;
  operands_in = inputs i;
  operands_out = outputs i;
  marks = marks i;
  second = second i;
}

set_is : (s t : InstructionSet) → s.vars ≡ t.vars → s.formats ≡ t.formats → s.instructions ≡ t.instructions → s ≡ t
set_is s t vars formats instructions = λ i. record { vars = vars i; formats = formats i; instructions = instructions i }

declared_is : (d e : Declared) → d.set ≡ e.set → d.groups ≡ e.groups → d ≡ e
declared_is d e set groups = λ i. record { set = set i; groups = groups i }

-- ---- what is the same by a registry

module _ (r : Registered) (roots : List MeantRoot) (is : IsRegistryOf r roots) where
  field_same : (k : MeantKind) (f g : FormatField) → IsFieldIn r k f → IsFieldIn r k g → f ≡ g
  field_same k f g h i = field_is f g (meant_kind_same r roots is k f.kind g.kind h.kind_is i.kind_is) (h.member ∙ sym i.member)

  format_same : (m : MeantFormat) (f g : InstructionFormat) → IsFormatIn r m f → IsFormatIn r m g → f ≡ g
  format_same m f g h i =
      let kinds = filter_map kind_in_field m.slots in
      let fields : f.imm_fields ≡ g.imm_fields =
      equal_pairs f.imm_fields g.imm_fields
      (pairs_same (IsFieldIn r) (λ (x y : FormatField). x ≡ y) field_same kinds f.imm_fields g.imm_fields h.stores.fields
      i.stores.fields) in
      format_is f g (h.name ∙ sym i.name) (h.stores.values ∙ sym i.stores.values) (h.stores.varargs ∙ sym i.stores.varargs) fields
      (h.stores.blocks ∙ sym i.stores.blocks) (h.stores.raw_blocks ∙ sym i.stores.raw_blocks) (h.designated ∙ sym i.designated)

  pub formats_same : (ms : List MeantFormat) (fs gs : List InstructionFormat) → AllZip (IsFormatIn r) ms fs → AllZip (IsFormatIn r) ms gs
      → fs ≡ gs
  formats_same ms fs gs h i =
      equal_pairs fs gs (pairs_same (IsFormatIn r) (λ (x y : InstructionFormat). x ≡ y) format_same ms fs gs h i)

  operand_same : (m : MeantOperand) (o p : Operand) → IsOperandIn r m o → IsOperandIn r m p → o ≡ p
  operand_same m o p h i =
      operand_is o p (h.name ∙ sym i.name) (h.doc ∙ sym i.doc) (operand_kind_same r roots is m.what o.kind p.kind h.kind i.kind)

  operands_same : (ms : List MeantOperand) (os ps : List Operand) → AreOperandsIn r ms os → AreOperandsIn r ms ps → os ≡ ps
  operands_same ms os ps h i =
      equal_pairs os ps (pairs_same (IsOperandIn r) (λ (x y : Operand). x ≡ y) operand_same ms os ps h i)

  second_same : (m : Option MeantType) (n k : Option ℕ) → IsSecondIn r m n → IsSecondIn r m k → n ≡ k
  second_same None None None h i = refl
  second_same None None (Some k) h i = absurd i
  second_same None (Some n) k h i = absurd h
  second_same (Some m) None k h i = absurd h
  second_same (Some m) (Some n) None h i = absurd i
  second_same (Some m) (Some n) (Some k) h i = ap (λ (x : ℕ). Some x) (type_same r roots is m n k h i)

  builder_same : (m : MeantInst) (b c : Builder) → IsBuilderIn r m b → IsBuilderIn r m c → b ≡ c
  builder_same m b c h i =
      let inputs = operands_same m.inputs (inputs_of b) (inputs_of c) h.inputs i.inputs in
      let outputs = operands_same m.outputs (outputs_of b) (outputs_of c) h.outputs i.outputs in
      builder_is b c (h.name ∙ sym i.name) (h.doc ∙ sym i.doc) (h.format ∙ sym i.format)
      (h.inputs_set ∙ ap (λ (os : List Operand). Some os) inputs ∙ sym i.inputs_set)
      (h.outputs_set ∙ ap (λ (os : List Operand). Some os) outputs ∙ sym i.outputs_set)
      (h.marks ∙ sym i.marks) (second_same m.second b.second c.second h.second i.second)

  pub builders_same : (ms : List MeantInst) (bs cs : List Builder) → AllZip (IsBuilderIn r) ms bs → AllZip (IsBuilderIn r) ms cs
      → bs ≡ cs
  builders_same ms bs cs h i =
      equal_pairs bs cs (pairs_same (IsBuilderIn r) (λ (x y : Builder). x ≡ y) builder_same ms bs cs h i)

-- ---- declarations

pub one_declared : (items : List Item) (d e : Declared) → Declares items d → Declares items e → d ≡ e
one_declared items d e h g =
    let all = said items in
    let vars : d.set.vars ≡ e.set.vars = vars_same all.types.roots all.types.symbols d.set.vars e.set.vars h.set.vars g.set.vars in
    let r : Registered = registry_of items d.set in
    let same : registry_of items e.set ≡ r =
    ap (λ (vs : List TypeVarContent). let x : Registered = record { vars = vs; symbols = all.types.symbols } in x) (sym vars) in
    let formats : d.set.formats ≡ e.set.formats =
    formats_same r all.types.roots h.set.vars (meant_formats all.insts.formats) d.set.formats e.set.formats h.set.formats
    (subst (λ (x : Registered). AllZip (IsFormatIn x) (meant_formats all.insts.formats) e.set.formats) same g.set.formats) in
    let instructions : d.set.instructions ≡ e.set.instructions =
    builders_same r all.types.roots h.set.vars all.insts.insts d.set.instructions e.set.instructions h.set.instructions
    (subst (λ (x : Registered). AllZip (IsBuilderIn x) all.insts.insts e.set.instructions) same g.set.instructions) in
    declared_is d e (set_is d.set e.set vars formats instructions) (h.groups ∙ sym g.groups)
