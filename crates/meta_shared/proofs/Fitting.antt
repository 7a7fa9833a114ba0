-- Instructions of rows fit the registries.
use Rattle.std.proofs.Common.{◌≡◌, ◌∙◌, ◌<◌, ◌+◌, ℕ, List, [], ◌∷◌, ◌++◌, length, map, slice_get, Option, Some, None, zero, suc, ap, sym}
use Rattle.std.proofs.Common.{subst, refl, rules, arith}
use Rattle.std.specs.List.{AllZip}
use Rattle.std.proofs.lemmas.List.{length-append, map-append}
use Rattle.std.proofs.lemmas.Option.{same_Some}
use Rattle.meta_lists.proofs.Pairs.{pairs_imply, pairs_joined}
use Rattle.meta_typevar.specs.declared.content.TypeVarContent.{TypeVarContent}
use Rattle.meta_operands.specs.Kind.{variable_in}
use Rattle.meta_operands.specs.Operand.{variable_of, variables_of}
use Rattle.meta_operands.specs.declared.operand.Operand.{Operand}
use Rattle.meta_operands.specs.declared.kind.OperandKind.{OperandKind}
use Rattle.meta_inst.specs.Builder.{Builder, inputs_of, outputs_of}
use Rattle.meta_inst.specs.InstructionSet.{FitsBuilder}
use Rattle.meta_inst.specs.Operands.{AreOf}
use Rattle.meta_operands.specs.declared.format.InstructionFormat.{InstructionFormat}
use Rattle.meta_shared.specs.Formats.{AreFormatsOf}
use Rattle.meta_shared.specs.declared.format.Format.{Format}
use Rattle.meta_shared.specs.declared.formats.Formats.{Formats}
use Rattle.meta_shared.proofs.Growing.{meant_grows}
use Rattle.meta_shared.specs.declared.entities.EntityRefs.{EntityRefs}
use Rattle.meta_shared.specs.declared.immediates.Immediates.{Immediates}
use Rattle.meta_shared.specs.declared.kind.Kind.{Kind}
use Rattle.meta_shared.specs.declared.kind.Kind.TheVariants.{BlockCall, BlockThen, BlockElse, RawBlock, StackSlot, DynamicStackSlot}
use Rattle.meta_shared.specs.declared.kind.Kind.TheVariants.{GlobalValue, SigRef, FuncRef, JumpTable, ExceptionTable, Varargs}
use Rattle.meta_shared.specs.declared.kind.Kind.TheVariants.{PoolConstant, Uimm128, Imm64, Uimm8, Offset32, Ieee16, Ieee32, Ieee64}
use Rattle.meta_shared.specs.declared.kind.Kind.TheVariants.{Intcc, Floatcc, Memflags, Trapcode, AtomicRmwOp}
use Rattle.meta_shared.specs.declared.row.OperandRow.{OperandRow}
use Rattle.meta_shared.specs.declared.row.Row.{Row}
use Rattle.meta_shared.specs.declared.word.Word.{Word}
use Rattle.meta_shared.specs.declared.word.Word.TheVariants.{Kind as AKind, Root as ARoot, Derived as ADerived}
use Rattle.meta_shared.specs.Kinds.{kind_of, HoldsNoVariable, EntitiesHoldNoVariable, ImmediatesHoldNoVariable}
use Rattle.meta_shared.specs.Words.{Meanings, AreMeant, Grows, IsKindOfWord}
use Rattle.meta_shared.specs.Rows.{AreOperandsOfRows, IsBuilderOf, AreBuildersOf, AddsRows, FitsNames, builder_name, row_name}
use Rattle.meta_shared.specs.Rows.{row_format}

-- something isn't nothing
apart : {X : Type 0} (x : X) → None ≡ Some x → ⊥
apart x e = absurd (cc)

-- no kind is of values
holds_none : (imm : Immediates) (entities : EntityRefs) → ImmediatesHoldNoVariable imm → EntitiesHoldNoVariable entities → (kind : Kind)
    → HoldsNoVariable (kind_of imm entities kind)
holds_none imm entities i e BlockCall = e.block_call
holds_none imm entities i e BlockThen = e.block_then
holds_none imm entities i e BlockElse = e.block_else
holds_none imm entities i e RawBlock = e.raw_block
holds_none imm entities i e StackSlot = e.stack_slot
holds_none imm entities i e DynamicStackSlot = e.dynamic_stack_slot
holds_none imm entities i e GlobalValue = e.global_value
holds_none imm entities i e SigRef = e.sig_ref
holds_none imm entities i e FuncRef = e.func_ref
holds_none imm entities i e JumpTable = e.jump_table
holds_none imm entities i e ExceptionTable = e.exception_table
holds_none imm entities i e Varargs = e.varargs
holds_none imm entities i e PoolConstant = e.pool_constant
holds_none imm entities i e Uimm128 = e.uimm128
holds_none imm entities i e Imm64 = i.imm64
holds_none imm entities i e Uimm8 = i.uimm8
holds_none imm entities i e Offset32 = i.offset32
holds_none imm entities i e Ieee16 = i.ieee16
holds_none imm entities i e Ieee32 = i.ieee32
holds_none imm entities i e Ieee64 = i.ieee64
holds_none imm entities i e Intcc = i.intcc
holds_none imm entities i e Floatcc = i.floatcc
holds_none imm entities i e Memflags = i.memflags
holds_none imm entities i e Trapcode = i.trapcode
holds_none imm entities i e AtomicRmwOp = i.atomic_rmw_op

-- the variable of a kind that a word means is of the variables
kind_below : (vars : List TypeVarContent) (m : Meanings) (word : Word) (kind : OperandKind) (n : ℕ) → AreMeant vars m
    → IsKindOfWord vars m word kind → variable_in kind.fields ≡ Some n → n < length vars
kind_below vars m (AKind k) kind n meant h at =
    absurd (apart n (sym (ap (λ (x : OperandKind). variable_in x.fields) h ∙ holds_none m.imm m.entities meant.immediates meant.entities k)
    ∙ at))
kind_below vars m (ARoot root) kind n meant h at =
    subst (λ j. j < length vars) (same_Some _ _ (sym (ap variable_in h.fields_are) ∙ at)) h.of
kind_below vars m (ADerived function root) kind n meant h at =
    subst (λ j. j < length vars) (same_Some _ _ (sym (ap variable_in h.fields_are) ∙ at)) h.of

-- the variables of an operand and of those after it
are_of_cons : (vars : List TypeVarContent) (o : Operand) (operands : List Operand) (v : Option ℕ) → variable_of o ≡ v
    → ((n : ℕ) → v ≡ Some n → n < length vars) → AreOf vars (variables_of operands) → AreOf vars (variables_of (o ∷ operands))
are_of_cons vars o operands None e below held =
    let same : variables_of (o ∷ operands) ≡ variables_of operands = search (rules, e) in
    subst (AreOf vars) (sym same) held
are_of_cons vars o operands (Some v) e below held =
    let same : variables_of (o ∷ operands) ≡ v ∷ variables_of operands = search (rules, e) in
    subst (AreOf vars) (sym same) (first_of vars v (variables_of operands) (below v refl) held)
  where
    first_of : (vars : List TypeVarContent) (v : ℕ) (numbers : List ℕ) → v < length vars → AreOf vars numbers → AreOf vars (v ∷ numbers)
    first_of vars v numbers within held zero n at = let same : v ≡ n = (cc) in subst (λ j. j < length vars) same within
    first_of vars v numbers within held (suc k) n at = held k n at

operands_of : (vars : List TypeVarContent) (m : Meanings) (rows : List OperandRow) (operands : List Operand) → AreMeant vars m
    → AreOperandsOfRows vars m rows operands → AreOf vars (variables_of operands)
operands_of vars m [] [] meant h = λ k n at. absurd (apart n at)
operands_of vars m [] (o ∷ operands) meant h = absurd h
operands_of vars m (row ∷ rows) [] meant h = absurd h
operands_of vars m (row ∷ rows) (o ∷ operands) meant h =
    are_of_cons vars o operands (variable_of o) refl (λ n at. kind_below vars m row.word o.kind n meant h.0.kind at)
    (operands_of vars m rows operands meant h.1)

-- an instruction that is what a row says names variables of these and formats of these alone
row_fitting : (vars : List TypeVarContent) (m : Meanings) (row : Row) (b : Builder) → AreMeant vars m → IsBuilderOf vars m row b
    → (formats : List InstructionFormat) → AreFormatsOf (length formats) m.formats → FitsBuilder vars formats b
row_fitting vars m row b meant h formats of = record {
  format = subst (λ id. id < length formats) (sym h.format) (of row.format);
  outputs = operands_of vars m row.outputs.now (outputs_of b) meant h.outputs;
  inputs = operands_of vars m row.inputs.now (inputs_of b) meant h.inputs;
  second = λ s e. absurd (apart s (sym h.second ∙ e));
}

row_fits : (vars : List TypeVarContent) (m : Meanings) (row : Row) (b : Builder) → AreMeant vars m → IsBuilderOf vars m row b
    → FitsNames vars m.formats row.format b
row_fits vars m row b meant h = record { number = h.format; fits = row_fitting vars m row b meant h }

-- each of them does
pub builders_fit : (vars : List TypeVarContent) (m : Meanings) (rows : List Row) (builders : List Builder) → AreMeant vars m
    → AreBuildersOf vars m rows builders → AllZip (FitsNames vars m.formats) (map row_format rows) builders
builders_fit vars m [] [] meant h = h
builders_fit vars m [] (b ∷ builders) meant h = absurd h
builders_fit vars m (row ∷ rows) [] meant h = absurd h
builders_fit vars m (row ∷ rows) (b ∷ builders) meant h = (row_fits vars m row b meant h.0, builders_fit vars m rows builders meant h.1)

-- one of those that fit, each with its format, fits with some format
pub one_fits : (vars : List TypeVarContent) (f : Formats) (formats : List Format) (builders : List Builder)
    → AllZip (FitsNames vars f) formats builders → (k : ℕ) (b : Builder) → slice_get builders k ≡ Some b
    → (format : Format) × FitsNames vars f format b
one_fits vars f [] [] h k b at = absurd (apart b at)
one_fits vars f [] (c ∷ builders) h k b at = absurd h
one_fits vars f (format ∷ formats) [] h k b at = absurd h
one_fits vars f (format ∷ formats) (c ∷ builders) h zero b at = (format, subst (FitsNames vars f format) (same_Some _ _ at) h.0)
one_fits vars f (format ∷ formats) (c ∷ builders) h (suc k) b at = one_fits vars f formats builders h.1 k b at

-- the names are those of the rows
pub builders_named : (vars : List TypeVarContent) (m : Meanings) (rows : List Row) (builders : List Builder)
    → AreBuildersOf vars m rows builders → map builder_name builders ≡ map row_name rows
builders_named vars m [] [] h = refl
builders_named vars m [] (b ∷ builders) h = absurd h
builders_named vars m (row ∷ rows) [] h = absurd h
builders_named vars m (row ∷ rows) (b ∷ builders) h = ap (λ n. n ∷ map builder_name builders) h.0.name
    ∙ ap (λ ns. row.name.now ∷ ns) (builders_named vars m rows builders h.1)

-- no instruction fits too
pub none_fit : (vars : List TypeVarContent) (f : Formats) {all : List Builder} → all ≡ [] → AllZip (FitsNames vars f) [] all
none_fit vars f none = subst (AllZip (FitsNames vars f) []) (sym none) tt

pub names_added : {vars : List TypeVarContent} {m : Meanings} {rows : List Row} {old new : List Builder} → AddsRows vars m rows old new
    → map builder_name new ≡ map builder_name old ++ map row_name rows
names_added {vars} {m} {rows} {old} adds = ap (map builder_name) adds.is
    ∙ (map-append builder_name old adds.more ∙ ap (λ xs. map builder_name old ++ xs) (builders_named vars m rows adds.more adds.builders))

below_more : (v few all more : ℕ) → v < few → all ≡ few + more → v < all
below_more v few all more l e = omega arith

-- the variables of a greater registry are those of the smaller, and more
fitting_grows : {n : ℕ} {old new : List TypeVarContent} (f : Formats) (b : Builder) → Grows n old new
    → ((formats : List InstructionFormat) → AreFormatsOf (length formats) f → FitsBuilder old formats b)
    → (formats : List InstructionFormat) → AreFormatsOf (length formats) f → FitsBuilder new formats b
fitting_grows {n} {old} {new} f b grows h formats of =
    let fits = h formats of in
    let longer : length new ≡ length old + length grows.more = ap length grows.is ∙ length-append old grows.more in
    record {
      format = fits.format;
      outputs = λ k v at. below_more v (length old) (length new) (length grows.more) (fits.outputs k v at) longer;
      inputs = λ k v at. below_more v (length old) (length new) (length grows.more) (fits.inputs k v at) longer;
      second = λ s e. below_more s (length old) (length new) (length grows.more) (fits.second s e) longer;
    }

fits_grow : {n : ℕ} {old new : List TypeVarContent} (f : Formats) → Grows n old new → (format : Format) (b : Builder)
    → FitsNames old f format b → FitsNames new f format b
fits_grow f grows format b h = record { number = h.number; fits = fitting_grows f b grows h.fits }

-- those that were there and those that are added are of their formats, and name these variables alone
pub all_fit : {n : ℕ} {old new : List TypeVarContent} {m : Meanings} {rows : List Row} {start all : List Builder} (formats : List Format)
    → Grows n old new → AreMeant old m → AddsRows new m rows start all → AllZip (FitsNames old m.formats) formats start
    → AllZip (FitsNames new m.formats) (formats ++ map row_format rows) all
all_fit {n} {old} {new} {m} {rows} {start} {all} formats grows meant adds fit =
    subst (AllZip (FitsNames new m.formats) (formats ++ map row_format rows)) (sym adds.is)
    (pairs_joined (FitsNames new m.formats) formats (map row_format rows) start adds.more
    (pairs_imply (FitsNames old m.formats) (FitsNames new m.formats) (fits_grow m.formats grows) formats start fit)
    (builders_fit new m rows adds.more (meant_grows grows meant) adds.builders))
