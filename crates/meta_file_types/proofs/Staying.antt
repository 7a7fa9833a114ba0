-- What stays where a registry grows.
use Rattle.std.proofs.Common.{◌≡◌, ◌∙◌, ◌<◌, ℕ, List, [], ◌++◌, length, slice_get, sym, ap, subst, arith}
use Rattle.std.specs.Prelude.{Option}
use Rattle.std.proofs.lemmas.List.{append_assoc, length-append, append-nil}
use Rattle.meta_lists.proofs.Places.{get_left, get_stays}
use Rattle.meta_typevar.specs.Variable.{Variable}
use Rattle.meta_typevar.specs.Registry.{variable_from, variable_at, set_at, coded_along, coded_of, coded_at}
use Rattle.meta_typevar.specs.declared.content.TypeVarContent.{TypeVarContent}
use Rattle.meta_operands.specs.declared.kind.OperandKind.{OperandKind}
use Rattle.meta_operands.specs.declared.kind.OperandKindFields.{OperandKindFields}
use Rattle.meta_file_types.specs.Meant.{MeantType, MeantSort, Entity, Imm, ImmEnum, VariableArgs, Value, MeantKind, Sense, TypeSense}
use Rattle.meta_file_types.specs.Meant.{KindSense}
use Rattle.meta_file_types.specs.Symbols.{Symbol, symbol_of}
use Rattle.meta_file_types.specs.Registered.{Registered, IsNumberOf, IsTypeIn, AreValuesIn, AreFieldsIn, IsKindIn, Extends}
use Rattle.meta_file_types.specs.Operands.{IsOperandKindIn}
use Rattle.meta_file_types.specs.Depth.{name_from, root_name_at}

-- ---- growing

pub extends_same : (r : Registered) → Extends r r
extends_same r = record {
  more = [];
  symbols_more = [];
  vars = sym (append-nil r.vars);
  symbols = sym (append-nil r.symbols);
}

pub extends_more : (old now new : Registered) → Extends old now → Extends now new → Extends old new
extends_more old now new g h = record {
  more = g.more ++ h.more;
  symbols_more = g.symbols_more ++ h.symbols_more;
  vars = h.vars ∙ (ap (λ (xs : List TypeVarContent). xs ++ h.more) g.vars ∙ append_assoc old.vars g.more h.more);
  symbols = h.symbols ∙ (ap (λ (xs : List Symbol). xs ++ h.symbols_more) g.symbols
      ∙ append_assoc old.symbols g.symbols_more h.symbols_more);
}

-- ---- types

pub number_stays : (old new : Registered) → Extends old new → (s : Symbol) (n : ℕ) → IsNumberOf old s n → IsNumberOf new s n
number_stays old new e s n h = ap (λ (xs : List Symbol). slice_get xs n) e.symbols ∙ get_stays old.symbols e.symbols_more n s h

-- the variable and the set of a number stay
pub variable_stays : (vars more : List TypeVarContent) (n : ℕ) → n < length vars → variable_at (vars ++ more) n ≡ variable_at vars n
variable_stays vars more n l = ap (variable_from n) (get_left vars more n l)

pub coded_stays : (vars more : List TypeVarContent) (n : ℕ) → n < length vars → (variable_at vars n).root < length vars
    → coded_at (vars ++ more) n ≡ coded_at vars n
coded_stays vars more n l root =
    ap (coded_of (vars ++ more)) (variable_stays vars more n l)
    ∙ ap (λ (o : Option TypeVarContent). coded_along (variable_at vars n).chain (set_at o)) (get_left vars more
    (variable_at vars n).root root)

pub name_stays : (vars more : List TypeVarContent) (n : ℕ) → n < length vars → (variable_at vars n).root < length vars
    → root_name_at (vars ++ more) n ≡ root_name_at vars n
name_stays vars more n l root =
    ap (λ (v : Variable). name_from (slice_get (vars ++ more) v.root)) (variable_stays vars more n l)
    ∙ ap name_from (get_left vars more (variable_at vars n).root root)

type_in_more : (vars more : List TypeVarContent) (symbols : List Symbol) (m : MeantType) (n : ℕ)
    → IsTypeIn (record { vars = vars; symbols = symbols }) m n → IsTypeIn (record { vars = vars ++ more; symbols = symbols }) m n
type_in_more vars more symbols m n h =
    let of : n < length vars = h.of in
    let root : (variable_at vars n).root < length vars = h.root_of in
    let same : (variable_at (vars ++ more) n).root ≡ (variable_at vars n).root = ap (λ (v : Variable). v.root)
    (variable_stays vars more n of) in
    record {
      number = h.number;
      of = omega (arith, length-append vars more);
      root_of = omega (arith, length-append vars more);
      name = name_stays vars more n of root ∙ h.name;
      set = coded_stays vars more n of root ∙ h.set;
    }

pub type_stays : (old new : Registered) (m : MeantType) (n : ℕ) → Extends old new → IsTypeIn old m n → IsTypeIn new m n
type_stays old new m n e h =
    let h : IsTypeIn (record { vars = new.vars; symbols = old.symbols }) m n =
    subst (λ (vars : List TypeVarContent). IsTypeIn (record { vars = vars; symbols = old.symbols }) m n) (sym e.vars)
    (type_in_more old.vars e.more old.symbols m n h) in
    record {
      number = number_stays old new e (symbol_of m) n h.number;
      of = h.of;
      root_of = h.root_of;
      name = h.name;
      set = h.set;
    }

-- ---- kinds

pub values_stay : (old new : Registered) (m : MeantType) (f : OperandKindFields) → Extends old new → AreValuesIn old m f
    → AreValuesIn new m f
values_stay old new m f e h = record { number = h.number; is = h.is; type_is = type_stays old new m h.number e h.type_is }

pub fields_stay : (old new : Registered) (s : MeantSort) (f : OperandKindFields) → Extends old new → AreFieldsIn old s f
    → AreFieldsIn new s f
fields_stay old new Entity f e h = h
fields_stay old new Imm f e h = h
fields_stay old new (ImmEnum values) f e h = h
fields_stay old new VariableArgs f e h = h
fields_stay old new (Value m) f e h = values_stay old new m f e h

pub kind_stays : (old new : Registered) (k : MeantKind) (kind : OperandKind) → Extends old new → IsKindIn old k kind → IsKindIn new k kind
kind_stays old new k kind e h = record {
  field = h.field;
  rust = h.rust;
  sort = fields_stay old new k.sort kind.fields e h.sort;
  doc = h.doc;
}

pub operand_stays : (old new : Registered) (s : Sense) (kind : OperandKind) → Extends old new → IsOperandKindIn old s kind
    → IsOperandKindIn new s kind
operand_stays old new (TypeSense m) kind e h = record {
  field = h.field;
  rust = h.rust;
  sort = values_stay old new m kind.fields e h.sort;
  doc = h.doc;
}
operand_stays old new (KindSense k) kind e h = kind_stays old new k kind e h
