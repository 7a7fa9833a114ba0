-- From the keys of kinds to what the kinds are.
use Rattle.std.proofs.Common.{◌≡◌, ◌∙◌, ◌++◌, ◌∷◌, ℕ, List, [], map, get_or, drop, sym, ap, refl}
use Rattle.std.specs.List.{AllZip}
use Rattle.meta_operands.specs.EnumEntries.{EnumEntries}
use Rattle.meta_operands.specs.Kind.{variable_in}
use Rattle.meta_operands.specs.declared.kind.OperandKind.{OperandKind}
use Rattle.meta_operands.specs.declared.kind.OperandKindFields.{OperandKindFields}
use Rattle.meta_operands.specs.declared.kind.OperandKindFields.TheVariants.{EntityRef, VariableArgs, ImmValue, ImmEnum, TypeVar}
use Rattle.meta_shared.specs.declared.entities.EntityRefs.{EntityRefs}
use Rattle.meta_shared.specs.declared.immediates.Immediates.{Immediates}
use Rattle.meta_shared.specs.Kinds.{IsKindOf, IsEnum, AreEntities, AreImmediates, EntitiesHoldNoVariable, ImmediatesHoldNoVariable}
use Rattle.meta_shared.specs.KindRows.{KindKey, key, key_of_kind, without_values, entity_keys, immediate_keys, kinds_of_entities}
use Rattle.meta_shared.specs.KindRows.{kinds_of_immediates, BeginWith}

plain : (fields wanted : OperandKindFields) → without_values fields ≡ wanted → (ImmEnum [] ≡ wanted → ⊥) → fields ≡ wanted
plain EntityRef wanted is not = is
plain VariableArgs wanted is not = is
plain ImmValue wanted is not = is
plain (ImmEnum values) wanted is not = absurd (not is)
plain (TypeVar v) wanted is not = is

-- a kind that isn't of an enum
of_key : (fields : OperandKindFields) (field_name rust_type : List ℕ) (kind : OperandKind) → (ImmEnum [] ≡ fields → ⊥)
    → key_of_kind kind ≡ key fields field_name rust_type → IsKindOf fields field_name rust_type kind
of_key fields field_name rust_type kind not is = record {
  fields_are = plain kind.fields fields (ap (λ (k : KindKey). k.fields) is) not;
  field_name_is = ap (λ (k : KindKey). k.field_name) is;
  rust_type_is = ap (λ (k : KindKey). k.rust_type) is;
}

entity : (field_name rust_type : List ℕ) (kind : OperandKind) → key_of_kind kind ≡ key EntityRef field_name rust_type
    → IsKindOf EntityRef field_name rust_type kind
entity field_name rust_type kind = of_key EntityRef field_name rust_type kind (λ bad. cc)

varargs : (field_name rust_type : List ℕ) (kind : OperandKind)
    → key_of_kind kind ≡ key VariableArgs field_name rust_type → IsKindOf VariableArgs field_name rust_type kind
varargs field_name rust_type kind = of_key VariableArgs field_name rust_type kind (λ bad. cc)

number : (field_name rust_type : List ℕ) (kind : OperandKind) → key_of_kind kind ≡ key ImmValue field_name rust_type
    → IsKindOf ImmValue field_name rust_type kind
number field_name rust_type kind = of_key ImmValue field_name rust_type kind (λ bad. cc)

record HasValues (fields : OperandKindFields) : Type 0 where
  values : EnumEntries
  is : fields ≡ ImmEnum values

values_in : (fields : OperandKindFields) → without_values fields ≡ ImmEnum [] → HasValues fields
values_in EntityRef is = absurd (cc)
values_in VariableArgs is = absurd (cc)
values_in ImmValue is = absurd (cc)
values_in (ImmEnum values) is = record { values = values; is = refl }
values_in (TypeVar v) is = absurd (cc)

-- a kind of an enum
choice : (field_name rust_type : List ℕ) (kind : OperandKind)
    → key_of_kind kind ≡ key (ImmEnum []) field_name rust_type → IsEnum field_name rust_type kind
choice field_name rust_type kind is =
    let has = values_in kind.fields (ap (λ (k : KindKey). k.fields) is) in
    record {
      values = has.values;
      fields_are = has.is;
      field_name_is = ap (λ (k : KindKey). k.field_name) is;
      rust_type_is = ap (λ (k : KindKey). k.rust_type) is;
    }

-- each kind has its key
keyed : (kinds : List OperandKind) (keys : List KindKey) → map key_of_kind kinds ≡ keys
    → AllZip (λ (kind : OperandKind) (k : KindKey). key_of_kind kind ≡ k) kinds keys
keyed [] [] is = tt
keyed [] (k ∷ keys) is = absurd (cc)
keyed (kind ∷ kinds) [] is = absurd (cc)
keyed (kind ∷ kinds) (k ∷ keys) is = (ap (λ ks. get_or ks 0 k) is, keyed kinds keys (ap (drop 1) is))

pub are_entities : (e : EntityRefs) (all : List OperandKind) → BeginWith (kinds_of_entities e) all
    → map key_of_kind all ≡ entity_keys → AreEntities e
are_entities e all begin keys =
    let h0 = keyed (kinds_of_entities e ++ begin.rest) entity_keys (ap (map key_of_kind) (sym begin.is) ∙ keys) in
    let h1 = h0.1 in
    let h2 = h1.1 in
    let h3 = h2.1 in
    let h4 = h3.1 in
    let h5 = h4.1 in
    let h6 = h5.1 in
    let h7 = h6.1 in
    let h8 = h7.1 in
    let h9 = h8.1 in
    let h10 = h9.1 in
    let h11 = h10.1 in
    let h12 = h11.1 in
    let h13 = h12.1 in
    record {
      block_call = entity _ _ _ h0.0;
      block_then = entity _ _ _ h1.0;
      block_else = entity _ _ _ h2.0;
      raw_block = entity _ _ _ h3.0;
      stack_slot = entity _ _ _ h4.0;
      dynamic_stack_slot = entity _ _ _ h5.0;
      global_value = entity _ _ _ h6.0;
      sig_ref = entity _ _ _ h7.0;
      func_ref = entity _ _ _ h8.0;
      jump_table = entity _ _ _ h9.0;
      exception_table = entity _ _ _ h10.0;
      varargs = varargs _ _ _ h11.0;
      pool_constant = entity _ _ _ h12.0;
      uimm128 = entity _ _ _ h13.0;
    }

pub entities_hold_none : (e : EntityRefs) → AreEntities e → EntitiesHoldNoVariable e
entities_hold_none e are = record {
  block_call = ap variable_in are.block_call.fields_are;
  block_then = ap variable_in are.block_then.fields_are;
  block_else = ap variable_in are.block_else.fields_are;
  raw_block = ap variable_in are.raw_block.fields_are;
  stack_slot = ap variable_in are.stack_slot.fields_are;
  dynamic_stack_slot = ap variable_in are.dynamic_stack_slot.fields_are;
  global_value = ap variable_in are.global_value.fields_are;
  sig_ref = ap variable_in are.sig_ref.fields_are;
  func_ref = ap variable_in are.func_ref.fields_are;
  jump_table = ap variable_in are.jump_table.fields_are;
  exception_table = ap variable_in are.exception_table.fields_are;
  varargs = ap variable_in are.varargs.fields_are;
  pool_constant = ap variable_in are.pool_constant.fields_are;
  uimm128 = ap variable_in are.uimm128.fields_are;
}

pub are_immediates : (i : Immediates) (all : List OperandKind) → BeginWith (kinds_of_immediates i) all
    → map key_of_kind all ≡ immediate_keys → AreImmediates i
are_immediates i all begin keys =
    let h0 = keyed (kinds_of_immediates i ++ begin.rest) immediate_keys (ap (map key_of_kind) (sym begin.is) ∙ keys) in
    let h1 = h0.1 in
    let h2 = h1.1 in
    let h3 = h2.1 in
    let h4 = h3.1 in
    let h5 = h4.1 in
    let h6 = h5.1 in
    let h7 = h6.1 in
    let h8 = h7.1 in
    let h9 = h8.1 in
    let h10 = h9.1 in
    record {
      imm64 = number _ _ _ h0.0;
      uimm8 = number _ _ _ h1.0;
      offset32 = number _ _ _ h2.0;
      ieee16 = number _ _ _ h3.0;
      ieee32 = number _ _ _ h4.0;
      ieee64 = number _ _ _ h5.0;
      intcc = choice _ _ _ h6.0;
      floatcc = choice _ _ _ h7.0;
      memflags = number _ _ _ h8.0;
      trapcode = choice _ _ _ h9.0;
      atomic_rmw_op = choice _ _ _ h10.0;
    }

pub immediates_hold_none : (i : Immediates) → AreImmediates i → ImmediatesHoldNoVariable i
immediates_hold_none i are = record {
  imm64 = ap variable_in are.imm64.fields_are;
  uimm8 = ap variable_in are.uimm8.fields_are;
  offset32 = ap variable_in are.offset32.fields_are;
  ieee16 = ap variable_in are.ieee16.fields_are;
  ieee32 = ap variable_in are.ieee32.fields_are;
  ieee64 = ap variable_in are.ieee64.fields_are;
  intcc = ap variable_in are.intcc.fields_are;
  floatcc = ap variable_in are.floatcc.fields_are;
  memflags = ap variable_in are.memflags.fields_are;
  trapcode = ap variable_in are.trapcode.fields_are;
  atomic_rmw_op = ap variable_in are.atomic_rmw_op.fields_are;
}
