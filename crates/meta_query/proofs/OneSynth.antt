-- The declarations of a number are one, and so is the line on their tables.
use Rattle.std.proofs.Common.{◌≡◌, ◌+◌, ◌<◌, ◌⊎◌, inl, inr, ⊎_elim, ℕ, zero, suc, List, [], ◌∷◌, length, Some, refl, sym}
use Rattle.std.proofs.Common.{ap, ◌∙◌, subst, arith}
use Rattle.std.specs.List.{AllZip}
use Rattle.meta_lists.proofs.Places.{get_there, same_places}
use Rattle.meta_typevar.specs.Variable.{Variable}
use Rattle.meta_typevar.specs.Registry.{IsRegistry}
use Rattle.meta_typevar.specs.declared.content.TypeVarContent.{TypeVarContent}
use Rattle.meta_typevar.proofs.Variables.{one_variable}
use Rattle.meta_operands.specs.declared.kind.OperandKindFields.TheVariants.{TypeVar}
use Rattle.meta_operands.specs.declared.operand.Operand.{Operand}
use Rattle.meta_inst.specs.Builder.{Builder, inputs_of, outputs_of}
use Rattle.meta_inst.specs.InstructionSet.{InstructionSet}
use Rattle.meta_build.specs.AllDeclared.{Declared}
use Rattle.meta_inst.specs.Tables.{TableContents}
use Rattle.meta_query.specs.Shapes.{inputs_for, outputs_for}
use Rattle.meta_query.specs.Seeds.{seed_of, shape_of}
use Rattle.meta_query.specs.Synth.{IsValueOf, variables_to, IsInstruction, AreInstructions, IsSynth}
use Rattle.meta_query.specs.Summary.{CountsTo, DeclaresEverywhere, i64_number, lengths_text, summary_line, IsSummaryOf}

-- ---- the declarations

module _ (vars : List TypeVarContent) (registry : IsRegistry vars) where
  one_operand : (expected : List ℕ × Variable) (o p : Operand) → IsValueOf vars expected o → IsValueOf vars expected p → o ≡ p
  one_operand expected o p a b =
      let number = one_variable vars registry a.number b.number a.of b.of (a.variable ∙ sym b.variable) in
      let name = a.name ∙ sym b.name in
      let doc = a.doc ∙ sym b.doc in
      let fields = a.fields ∙ ap TypeVar number ∙ sym b.fields in
      let field_name = a.field_name ∙ sym b.field_name in
      let rust_type = a.rust_type ∙ sym b.rust_type in
      let kind_doc = a.kind_doc ∙ sym b.kind_doc in
      λ i. record {
        name = name i;
        kind = record {
          rust_field_name = field_name i;
          rust_type = rust_type i;
          fields = fields i;
          doc = kind_doc i;
        };
        doc = doc i;
      }

  one_operands : (expected : List (List ℕ × Variable)) (os ps : List Operand) → AllZip (IsValueOf vars) expected os
      → AllZip (IsValueOf vars) expected ps → os ≡ ps
  one_operands [] [] [] a b = refl
  one_operands [] [] (p ∷ ps) a b = absurd b
  one_operands [] (o ∷ os) ps a b = absurd a
  one_operands (e ∷ es) [] ps a b = absurd a
  one_operands (e ∷ es) (o ∷ os) [] a b = absurd b
  one_operands (e ∷ es) (o ∷ os) (p ∷ ps) a b =
      let first = one_operand e o p a.0 b.0 in
      let rest = one_operands es os ps a.1 b.1 in
      λ i. first i ∷ rest i

  one_instruction : (n number x : ℕ) (b c : Builder) → IsInstruction vars n number x b → IsInstruction vars n number x c → b ≡ c
  one_instruction n number x b c h g =
      let name = h.name ∙ sym g.name in
      let doc = h.doc ∙ sym g.doc in
      let format = h.format ∙ sym g.format in
      let inputs = h.inputs_set
      ∙ ap Some (one_operands (inputs_for (shape_of (seed_of n number)) x) (inputs_of b)
      (inputs_of c) h.inputs g.inputs) ∙ sym g.inputs_set in
      let outputs = h.outputs_set
      ∙ ap Some (one_operands (outputs_for (shape_of (seed_of n number)) x) (outputs_of b)
      (outputs_of c) h.outputs g.outputs) ∙ sym g.outputs_set in
      let marks = h.marks ∙ sym g.marks in
      let second = h.second ∙ sym g.second in
      λ i. record {
        name = name i;
        doc = doc i;
        format = format i;
        operands_in = inputs i;
        operands_out = outputs i;
        marks = marks i;
        second = second i;
      }

  one_list : (n : ℕ) (all others : List Builder) → AreInstructions vars n all → AreInstructions vars n others
      → length all ≡ length others → all ≡ others
  one_list n all others h g count = same_places all others count (λ j l.
      let (b, at_b) = get_there all j l in
      let (c, at_c) = get_there others j (omega (arith, l, count)) in
      at_b ∙ ap Some (one_instruction n (j + 1) (length (variables_to n j)) b c (h.each j b at_b) (g.each j c at_c)) ∙ sym at_c)

pub one_declared : (n : ℕ) (d e : Declared) → IsSynth n d → IsSynth n e → d ≡ e
one_declared n d e h g =
    let count : length d.set.instructions ≡ length e.set.instructions = h.count ∙ sym g.count in
    let vars : d.set.vars ≡ e.set.vars = h.instructions.variables ∙ ap (variables_to n) count ∙ sym g.instructions.variables in
    let instructions = one_list d.set.vars h.registry n d.set.instructions e.set.instructions h.instructions
    (subst (λ v. AreInstructions v n e.set.instructions) (sym vars) g.instructions) count in
    let formats = h.formats ∙ sym g.formats in
    let groups = h.groups ∙ sym g.groups in
    λ i. record { set = record { vars = vars i; formats = formats i; instructions = instructions i }; groups = groups i }

-- ---- the line

-- only one number is the count of those that have a property
one_count : (P : ℕ → Type 0) (n a b : ℕ) → CountsTo P n a → CountsTo P n b → a ≡ b
one_count P zero a b h g = h ∙ sym g
one_count P (suc n) a b (inl y) (inl z) = y.1.1 ∙ ap (λ k. k + 1) (one_count P n y.1.0 z.1.0 y.1.2 z.1.2) ∙ sym z.1.1
one_count P (suc n) a b (inl y) (inr z) = absurd (z.0 y.0)
one_count P (suc n) a b (inr y) (inl z) = absurd (y.0 z.0)
one_count P (suc n) a b (inr y) (inr z) = one_count P n a b y.1 z.1

pub one_line : (n : ℕ) (d : InstructionSet) (t : TableContents) (line other : List ℕ) → IsSummaryOf n d t line
    → IsSummaryOf n d t other → line ≡ other
one_line n d t line other h g =
    let accepted = one_count (DeclaresEverywhere d i64_number) 255 h.accepted g.accepted h.are_accepted g.are_accepted in
    h.is ∙ ap (summary_line n (lengths_text 255 (length t.type_sets) (length t.operand_constraints)
    (length t.opcode_slots)) 255) accepted ∙ sym g.is
