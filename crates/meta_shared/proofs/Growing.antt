-- What stays where a registry grows.
use Rattle.std.proofs.Common.{◌≡◌, ◌∙◌, ◌<◌, ◌≤◌, ◌+◌, ℕ, List, ◌++◌, length, slice_get, sym, ap, subst, arith}
use Rattle.std.proofs.lemmas.List.{append_assoc, length-append}
use Rattle.meta_lists.proofs.Places.{get_left}
use Rattle.meta_lists.proofs.Pairs.{pairs_imply}
use Rattle.meta_typevar.specs.TypeSetParts.{TypeSetParts}
use Rattle.meta_typevar.specs.Variable.{Variable}
use Rattle.meta_typevar.specs.Registry.{variable_from, set_at}
use Rattle.meta_typevar.specs.declared.content.TypeVarContent.{TypeVarContent}
use Rattle.meta_operands.specs.declared.kind.OperandKind.{OperandKind}
use Rattle.meta_operands.specs.declared.operand.Operand.{Operand}
use Rattle.meta_inst.specs.Builder.{Builder, inputs_of, outputs_of}
use Rattle.meta_shared.specs.declared.row.OperandRow.{OperandRow}
use Rattle.meta_shared.specs.declared.row.Row.{Row}
use Rattle.meta_shared.specs.declared.word.Word.{Word}
use Rattle.meta_shared.specs.declared.word.Word.TheVariants.{Kind, Root, Derived}
use Rattle.meta_shared.specs.Roots.{IsRootWith, root_of, set_of_root}
use Rattle.meta_shared.specs.Words.{Meanings, AreMeant, Grows, IsValueOf, IsKindOfWord}
use Rattle.meta_shared.specs.Rows.{IsOperandOf, AreOperandsOfRows, IsBuilderOf, AreBuildersOf}

pub grows_more : {n k : ℕ} {old now new : List TypeVarContent} → Grows n old now → Grows k now new → Grows (n + k) old new
grows_more {n} {k} {old} {now} {new} g h =
    let few_first : length g.more ≤ n = g.few in
    let few_then : length h.more ≤ k = h.few in
    record {
      more = g.more ++ h.more;
      is = h.is ∙ (ap (λ xs. xs ++ h.more) g.is ∙ append_assoc old g.more h.more);
      few = omega (arith, length-append g.more h.more);
    }

pub grows_to : {n k : ℕ} {old new : List TypeVarContent} → n ≡ k → Grows n old new → Grows k old new
grows_to {old = old} {new = new} e g = subst (λ m. Grows m old new) e g

-- how many there are at most
pub grown_count : {n : ℕ} {old new : List TypeVarContent} → Grows n old new → length new ≤ length old + n
grown_count {n} {old} {new} g =
    let few : length g.more ≤ n = g.few in
    let all : length new ≡ length old + length g.more = ap length g.is ∙ length-append old g.more in
    omega arith

pub root_stays : {vars : List TypeVarContent} {v : ℕ} {s : TypeSetParts} (more : List TypeVarContent) → IsRootWith vars v s
    → IsRootWith (vars ++ more) v s
root_stays {vars} {v} {s} more r =
    let same : slice_get (vars ++ more) v ≡ slice_get vars v = get_left vars more v r.of in
    let of : v < length vars = r.of in
    record {
      of = omega (arith, length-append vars more);
      root = ap (variable_from v) same ∙ r.root;
      set_is = ap set_at same ∙ r.set_is;
    }

pub meant_grows : {n : ℕ} {old new : List TypeVarContent} {m : Meanings} → Grows n old new → AreMeant old m → AreMeant new m
meant_grows {new = new} {m = m} g h = record {
  immediates = h.immediates;
  entities = h.entities;
  roots = λ root. subst (λ xs. IsRootWith xs (root_of m.roots root) (set_of_root root)) (sym g.is) (root_stays g.more (h.roots root));
}

value_stays : {vars : List TypeVarContent} {v : Variable} {kind : OperandKind} (more : List TypeVarContent) → IsValueOf vars v kind
    → IsValueOf (vars ++ more) v kind
value_stays {vars} more h =
    let of : h.number < length vars = h.of in
    record {
      number = h.number;
      fields_are = h.fields_are;
      of = omega (arith, length-append vars more);
      variable = ap (variable_from h.number) (get_left vars more h.number h.of) ∙ h.variable;
      field_name = h.field_name;
      rust_type = h.rust_type;
      doc = h.doc;
    }

kind_stays : (vars more : List TypeVarContent) (m : Meanings) (word : Word) (kind : OperandKind) → IsKindOfWord vars m word kind
    → IsKindOfWord (vars ++ more) m word kind
kind_stays vars more m (Kind k) kind h = h
kind_stays vars more m (Root root) kind h = value_stays more h
kind_stays vars more m (Derived function root) kind h = value_stays more h

operand_stays : (vars more : List TypeVarContent) (m : Meanings) (row : OperandRow) (o : Operand) → IsOperandOf vars m row o
    → IsOperandOf (vars ++ more) m row o
operand_stays vars more m row o h = record { name = h.name; doc = h.doc; kind = kind_stays vars more m row.word o.kind h.kind }

operands_stay : (vars more : List TypeVarContent) (m : Meanings) (rows : List OperandRow) (operands : List Operand)
    → AreOperandsOfRows vars m rows operands → AreOperandsOfRows (vars ++ more) m rows operands
operands_stay vars more m rows operands h =
    pairs_imply (IsOperandOf vars m) (IsOperandOf (vars ++ more) m) (operand_stays vars more m) rows operands h

builder_stays : (vars more : List TypeVarContent) (m : Meanings) (row : Row) (b : Builder) → IsBuilderOf vars m row b
    → IsBuilderOf (vars ++ more) m row b
builder_stays vars more m row b h = record {
  name = h.name;
  doc = h.doc;
  format = h.format;
  inputs = operands_stay vars more m row.inputs.now (inputs_of b) h.inputs;
  outputs = operands_stay vars more m row.outputs.now (outputs_of b) h.outputs;
  marks = h.marks;
  second = h.second;
}

pub operands_grow : {n : ℕ} {old new : List TypeVarContent} (m : Meanings) (rows : List OperandRow) (operands : List Operand)
    → Grows n old new → AreOperandsOfRows old m rows operands → AreOperandsOfRows new m rows operands
operands_grow {old = old} m rows operands g h =
    subst (λ vars. AreOperandsOfRows vars m rows operands) (sym g.is) (operands_stay old g.more m rows operands h)

pub builders_grow : {n : ℕ} {old new : List TypeVarContent} (m : Meanings) (rows : List Row) (builders : List Builder) → Grows n old new
    → AreBuildersOf old m rows builders → AreBuildersOf new m rows builders
builders_grow {old = old} m rows builders g h =
    subst (λ vars. AreBuildersOf vars m rows builders) (sym g.is)
    (pairs_imply (IsBuilderOf old m) (IsBuilderOf (old ++ g.more) m) (builder_stays old g.more m) rows builders h)
