-- Instructions that were made stay so where the variables grow, and one more is made.
use Rattle.std.proofs.Common.{◌≡◌, ⊎_elim, ◌+◌, ◌<◌, ◌≤◌, ℕ, List, [], ◌∷◌, ◌++◌, length, slice_get, None, Some, codes, refl, sym, ap}
use Rattle.std.proofs.Common.{subst, ◌∙◌, suc, add-one, arith, length-append}
use Rattle.std.specs.List.{AllZip}
use Rattle.meta_lists.proofs.Places.{get_stays, get_left}
use Rattle.meta_lists.proofs.Pushed.{get_pushed_below, last}
use Rattle.meta_lists.proofs.Pairs.{pairs_imply}
use Rattle.meta_typevar.specs.Variable.{Variable}
use Rattle.meta_typevar.specs.Registry.{variable_from, set_at, coded_of, coded_at, root_content, IsKept, IsRegistry}
use Rattle.meta_typevar.specs.declared.content.TypeVarContent.{TypeVarContent}
use Rattle.meta_operands.specs.declared.operand.Operand.{Operand}
use Rattle.meta_operands.specs.declared.format.InstructionFormat.{InstructionFormat}
use Rattle.meta_inst.specs.Builder.{Builder, inputs_of, outputs_of}
use Rattle.meta_inst.specs.Marks.{no_marks}
use Rattle.meta_inst.specs.InstructionSet.{AreOfRegistries}
use Rattle.meta_settings.specs.GroupDeclaration.{GroupDeclaration}
use Rattle.meta_build.specs.AllDeclared.{Declared}
use Rattle.meta_query.specs.declared.shape.Shape.{Shape}
use Rattle.meta_query.specs.declared.shape.Shape.TheVariants.{Bare, Copying, Comparing, Widening}
use Rattle.meta_query.specs.Shapes.{inputs_for, outputs_for, format_of, all_formats}
use Rattle.meta_query.specs.Seeds.{seed_of, shape_of, set_of_seed, name_of_number}
use Rattle.meta_query.specs.Synth.{IsValueOf, Extends, variables_of_number, variables_to, IsInstruction, AreInstructions, IsSynth}
use Rattle.meta_query.proofs.Valued.{are_of}

-- ---- a root

-- what is kept of the root of this seed
abbrev pub root_of : ℕ → ℕ → TypeVarContent
root_of seed x = root_content (codes "X") [] (set_of_seed seed) x

module _ (old new : List TypeVarContent) (seed x : ℕ) (at : x ≡ length old) (added : new ≡ old ++ root_of seed (length old) ∷ []) where
  pub new_root : IsKept new x (root_of seed x)
  new_root = subst (λ k. IsKept new k (root_of seed k)) (sym at) (last old new (root_of seed (length old)) added (length old) refl)

pub root_coded : (vars : List TypeVarContent) (seed x : ℕ) → IsKept vars x (root_of seed x) → coded_at vars x ≡ set_of_seed seed
root_coded vars seed x kept = ap (λ o. coded_of vars (variable_from x o)) kept ∙ ap set_at kept

-- ---- more variables

value_stays : (vars more : List TypeVarContent) (p : List ℕ × Variable) (o : Operand) → IsValueOf vars p o → IsValueOf (vars ++ more) p o
value_stays vars more p o h =
    let of : h.number < length vars = h.of in
    record {
      name = h.name;
      doc = h.doc;
      number = h.number;
      of = omega (arith, of, length-append vars more);
      variable = ap (variable_from h.number) (get_left vars more h.number of) ∙ h.variable;
      fields = h.fields;
      field_name = h.field_name;
      rust_type = h.rust_type;
      kind_doc = h.kind_doc;
    }

values_stay : {vars new : List TypeVarContent} {m : ℕ} (ps : List (List ℕ × Variable)) (os : List Operand) → Extends m vars new
    → AllZip (IsValueOf vars) ps os → AllZip (IsValueOf new) ps os
values_stay {vars = vars} ps os grows h =
    subst (λ all. AllZip (IsValueOf all) ps os) (sym grows.is)
    (pairs_imply (IsValueOf vars) (IsValueOf (vars ++ grows.more)) (value_stays vars grows.more) ps os h)

kept_stays : {vars new : List TypeVarContent} {m : ℕ} (x : ℕ) (c : TypeVarContent) → Extends m vars new → IsKept vars x c → IsKept new x c
kept_stays {vars} x c grows kept = subst (λ all. IsKept all x c) (sym grows.is) (get_stays vars grows.more x c kept)

instruction_stays : {vars new : List TypeVarContent} {m : ℕ} (n number x : ℕ) (b : Builder) → Extends m vars new
    → IsInstruction vars n number x b → IsInstruction new n number x b
instruction_stays n number x b grows h = record {
  root = kept_stays x (root_of (seed_of n number) x) grows h.root;
  name = h.name;
  doc = h.doc;
  format = h.format;
  inputs = values_stay (inputs_for (shape_of (seed_of n number)) x) (inputs_of b) grows h.inputs;
  outputs = values_stay (outputs_for (shape_of (seed_of n number)) x) (outputs_of b) grows h.outputs;
  inputs_set = h.inputs_set;
  outputs_set = h.outputs_set;
  marks = h.marks;
  second = h.second;
}

-- how many variables there are then, at most
pub extends_count : {m : ℕ} {old new : List TypeVarContent} → Extends m old new → length new ≤ length old + m
extends_count {m} {old} {new} g =
    let few : length g.more ≤ m = g.few in
    let all : length new ≡ length old + length g.more = ap length g.is ∙ length-append old g.more in
    omega (arith, few, all)

-- ---- one instruction

-- an instruction of these parts
abbrev pub builder_of : ℕ → Shape → List Operand → List Operand → Builder
builder_of number shape inputs outputs = record {
  name = name_of_number number;
  doc = [];
  format = format_of shape;
  operands_in = Some inputs;
  operands_out = Some outputs;
  marks = no_marks;
  second = None;
}

pub is_made : {now new : List TypeVarContent} {n number seed x y : ℕ} {shape : Shape} {inputs outputs : List Operand} {b : Builder}
    → seed ≡ seed_of n number → shape ≡ shape_of seed → x ≡ y → IsKept now x (root_of seed x) → Extends 1 now new
    → AllZip (IsValueOf new) (inputs_for shape x) inputs → AllZip (IsValueOf new) (outputs_for shape x) outputs
    → b ≡ builder_of number shape inputs outputs → IsInstruction new n number y b
is_made {now} {new} {n} {number} {seed} {x} {y} {shape} {inputs} {outputs} {b} is_seed is_shape at kept grows ins outs is =
    let shaped : shape ≡ shape_of (seed_of n number) = is_shape ∙ ap shape_of is_seed in
    subst (IsInstruction new n number y) (sym is) (subst (λ k. IsInstruction new n number k (builder_of number shape inputs outputs)) at
    (record {
      root = subst (λ s. IsKept new x (root_of s x)) is_seed (kept_stays x (root_of seed x) grows kept);
      name = refl;
      doc = refl;
      format = ap format_of shaped;
      inputs = subst (λ s. AllZip (IsValueOf new) (inputs_for s x) inputs) shaped ins;
      outputs = subst (λ s. AllZip (IsValueOf new) (outputs_for s x) outputs) shaped outs;
      inputs_set = refl;
      outputs_set = refl;
      marks = refl;
      second = refl;
    }))

-- ---- all of them

-- no variables are those of no instructions
no_variables : (n : ℕ) → variables_to n 0 ≡ []
unfolding variables_to
no_variables n = refl

next_variables : (n k : ℕ) → variables_to n (suc k) ≡ variables_to n k ++ variables_of_number n (suc k) (length (variables_to n k))
unfolding variables_to
next_variables n k = refl

-- and after those of the first come those of the next
more_variables : (n k : ℕ) → variables_to n (k + 1) ≡ variables_to n k ++ variables_of_number n (k + 1) (length (variables_to n k))
more_variables n k = subst (λ m. variables_to n m ≡ variables_to n k ++ variables_of_number n m (length (variables_to n k)))
    (sym (add-one k)) (next_variables n k)

pub none_yet : {vars : List TypeVarContent} {n : ℕ} {all : List Builder} → vars ≡ [] → all ≡ [] → AreInstructions vars n all
none_yet {vars} {n} v e = subst (AreInstructions vars n) (sym e) (record {
  variables = v ∙ sym (no_variables n);
  each = λ k b at. absurd (nothing k b at);
})
  where
    nothing : (k : ℕ) (b : Builder) → slice_get [] k ≡ Some b → ⊥
    nothing k b e = cc

pub one_more : {vars new : List TypeVarContent} {n number : ℕ} {all made : List Builder} {b : Builder}
    → AreInstructions vars n all → Extends 2 vars new → new ≡ vars ++ variables_of_number n number (length vars) → number ≡ length all + 1
    → IsInstruction new n number (length vars) b → made ≡ all ++ b ∷ [] → AreInstructions new n made
one_more {vars} {new} {n} {number} {all} {made} {b} are grows added numbered is pushed =
    subst (AreInstructions new n) (sym pushed) (record {
      variables = added ∙ (λ i. are.variables i ++ variables_of_number n (numbered i) (length (are.variables i)))
          ∙ sym (more_variables n (length all)) ∙ ap (variables_to n) (sym (length-append all (b ∷ [])));
      each = λ k c at. ⊎_elim
          (λ i. instruction_stays n (k + 1) (length (variables_to n k)) c grows (are.each k c i.1))
          (λ i. new_at k c i.0 i.1)
          (get_pushed_below all b k c at);
    })
  where
    new_at : (k : ℕ) (c : Builder) → k ≡ length all → b ≡ c → IsInstruction new n (k + 1) (length (variables_to n k)) c
    new_at k c here same =
        let place : number ≡ k + 1 = omega (arith, numbered, here) in
        let root : length vars ≡ length (variables_to n k) = ap length are.variables ∙ ap (λ m. length (variables_to n m)) (sym here) in
        subst (IsInstruction new n (k + 1) (length (variables_to n k))) same
        (subst (λ y. IsInstruction new n (k + 1) y b) root (subst (λ m. IsInstruction new n m (length vars) b) place is))

-- ---- they fit

three : (shape : Shape) → format_of shape < 3
three Bare = omega arith
three Copying = omega arith
three Comparing = omega arith
three Widening = omega arith

pub all_fit : {vars : List TypeVarContent} {formats : List InstructionFormat} {n : ℕ} {all : List Builder} → formats ≡ all_formats
    → AreInstructions vars n all → AreOfRegistries vars formats all
all_fit {vars} {formats} {n} {all} are_formats are k b at =
    let x = length (variables_to n k) in
    let is = are.each k b at in
    let below : format_of (shape_of (seed_of n (k + 1))) < 3 = three (shape_of (seed_of n (k + 1))) in
    let many : length formats ≡ 3 = ap length are_formats in
    record {
      format = omega (arith, below, many, is.format);
      outputs = are_of vars (outputs_for (shape_of (seed_of n (k + 1))) x) (outputs_of b) is.outputs;
      inputs = are_of vars (inputs_for (shape_of (seed_of n (k + 1))) x) (inputs_of b) is.inputs;
      second = λ s e. absurd (no_second s (sym is.second ∙ e));
    }
  where
    no_second : (s : ℕ) → None ≡ Some s → ⊥
    no_second s e = cc

-- ---- the declarations

pub synth_made : {groups : List GroupDeclaration} {vars : List TypeVarContent} {formats : List InstructionFormat} {all : List Builder} {n :
    ℕ} {d : Declared}
    → d ≡ record { set = record { vars = vars; formats = formats; instructions = all }; groups = groups } → groups ≡ []
    → formats ≡ all_formats → AreInstructions vars n all → length all ≡ 255 → IsRegistry vars → length vars ≤ 510 → IsSynth n d
synth_made {n = n} e none are_formats are count registry few = subst (IsSynth n) (sym e) (record {
  formats = are_formats;
  instructions = are;
  count = count;
  registry = registry;
  few = few;
  groups = none;
})
