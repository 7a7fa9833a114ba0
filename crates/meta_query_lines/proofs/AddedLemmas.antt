-- What the calls of explaining add.
use Rattle.std.proofs.Common.{◌≡◌, ℕ, ◌+◌, ◌<◌, ◌==◌, true, false, suc, List, [], ◌∷◌, ◌++◌, map, length, slice_get, All}
use Rattle.std.proofs.Common.{Option, Some, None, IfSome, codes, refl, sym, ap, ◌∙◌, subst, arith}
use Rattle.std.specs.Global.{Vec}
use Rattle.std.proofs.lemmas.Bool.{eqb-true}
use Rattle.std.proofs.lemmas.List.{length-map}
use Rattle.meta_lists.specs.First.{IsFirst}
use Rattle.meta_lists.proofs.Contained.{contains_first, contains_none}
use Rattle.meta_lists.proofs.Joined.{two, three}
use Rattle.meta_lists.proofs.Mapped.{get_map}
use Rattle.meta_types.specs.TypeParts.{number_of}
use Rattle.meta_types.specs.TypeNumber.{IsTypeNumber}
use Rattle.meta_inst.specs.Built.{BuiltInstruction}
use Rattle.meta_inst.specs.Tables.{TableContents, OpcodeNumbers, NumberConstraint, at_opcode, result_count, value_count}
use Rattle.meta_gen.specs.Constraint.{number_constraint_of}
use Rattle.meta_gen.specs.Contents.{IsOpcode, IsOpcodeNamed}
use Rattle.meta_gen.specs.Question.{Question}
use Rattle.meta_gen.specs.WellFormedOpcodes.{IsWellFormedOpcodes}
use Rattle.meta_gen.specs.declared.constraint.Constraint.{Constraint}
use Rattle.meta_explain.specs.Found.{Finds, IsBefore}
use Rattle.meta_explain.specs.Listed.{AreListed, IsLess}
use Rattle.meta_explain.specs.Options.{AreControlOptions}
use Rattle.meta_explain.specs.Parts.{Accepts}
use Rattle.meta_explain.specs.Texts.{set_text, place_text, held_text, wants_text}
use Rattle.meta_explain.specs.declared.control_options.ControlOptions.{ControlOptions}
use Rattle.meta_explain.specs.declared.control_types.ControlTypes.{ControlTypes}
use Rattle.meta_explain.specs.Wanted.{IsExplained}
use Rattle.meta_explain.specs.declared.explained.Explained.{Explained}
use Rattle.meta_explain.specs.declared.explained.Explained.TheVariants.{Refuse}
use Rattle.meta_explain.specs.declared.explained.Wanted.{Wanted}
use Rattle.meta_explain.specs.declared.found.Found.{Found}
use Rattle.meta_explain.specs.declared.part.Part.{Part}
use Rattle.meta_explain.proofs.Listing.{contained_at}
use Rattle.meta_query_lines.specs.Explanation.{part_name, why_text, asked_controls, IsExplainedFor, AreOperandsTold, IsListOf, IsOperandTold}
use Rattle.meta_query_lines.specs.Explanation.{control_set, second_set, AreShapes}
use Rattle.meta_query_lines.specs.NamesOf.{IsListedBy}
use Rattle.meta_query_lines.specs.declared.naming.NamesOf.{NamesOf}
use Rattle.meta_query_lines.specs.declared.naming.NamesOf.TheVariants as names
use Rattle.meta_query_lines.proofs.ExplanationLemmas.{seven, formatted_opcode}

-- the parts of a refusal are that of the question
pub refusal : (told : Option (List BuiltInstruction)) (op : ℕ) (q : Question) (p : Part) (w : Wanted) (c : ControlTypes) (rs vs : List ℕ)
    (n : ℕ) (old new : List ℕ) → c ≡ asked_controls q → rs ≡ map number_of q.results → vs ≡ map number_of q.values → n ≡ length rs
    → new ≡ old ++ (codes "refuse " ++ (place_text p n ++ (part_name told op p ++ (codes ": " ++ (held_text p c rs vs
    ++ (codes ", " ++ wants_text w))))))
    → new ≡ old ++ why_text told op (asked_controls q) (map number_of q.results) (map number_of q.values) (Refuse p w)
refusal told op q p w c rs vs n old new same results values count e =
    let counts : n ≡ length (map number_of q.results) = count ∙ ap length results in
    e ∙ (λ i. old ++ (codes "refuse " ++ (place_text p (counts i) ++ (part_name told op p ++ (codes ": "
    ++ (held_text p (same i) (results i) (values i) ++ (codes ", " ++ wants_text w)))))))

-- the results and the values of an opcode are told
pub operands_told : (tables : TableContents) (op : ℕ) (e : OpcodeNumbers) (c : Option ControlTypes) (r v : ℕ) (old a b f new : List ℕ)
    → at_opcode tables.entries op ≡ Some e → r ≡ result_count e.flags → v ≡ value_count e.flags → a ≡ old ++ codes "results "
    → (text : List ℕ) × IsListOf (λ k word. IsOperandTold tables op e c (0 + k) word) r text × (b ≡ a ++ text)
    → f ≡ b ++ codes " values "
    → (text : List ℕ) × IsListOf (λ k word. IsOperandTold tables op e c (r + k) word) v text × (new ≡ f ++ text)
    → (text : List ℕ) × AreOperandsTold tables op c text × (new ≡ old ++ text)
operands_told tables op e c r v old a b f new at results values start (rs, are_rs, added) middle (vs, are_vs, more) =
    let P : ℕ → List ℕ → Type 0 = λ k word. IsOperandTold tables op e c k word in (
      codes "results " ++ (rs ++ (codes " values " ++ vs)),
      record {
        entry = e;
        is_opcode = at;
        results = rs;
        values = vs;
        are_results = subst (λ n. IsListOf P n rs) results (record {
          words = are_rs.words;
          as_many = are_rs.as_many;
          each = λ k word there. subst (λ n. P n word) (omega arith) (are_rs.each k word there);
          is = are_rs.is;
        });
        are_values = subst (λ n. IsListOf (λ k word. P (result_count e.flags + k) word) n vs) values
            (subst (λ n. IsListOf (λ k word. P (n + k) word) v vs) results are_vs);
        is = refl;
      },
      two old (codes "results ") (rs ++ (codes " values " ++ vs)) start (three a rs (codes " values ") vs added middle more),
    )

-- and so is how the opcode goes by its controls
pub shapes_told : (tables : TableContents) (op : ℕ) (x : ControlOptions) (old a b f g new : List ℕ) → AreControlOptions tables op x
    → a ≡ old ++ codes "control " → b ≡ a ++ control_set x.first → f ≡ b ++ second_set x.second → g ≡ f ++ codes " "
    → (text : List ℕ) × AreOperandsTold tables op None text × (new ≡ g ++ text)
    → (text : List ℕ) × AreShapes tables op text × (new ≡ old ++ text)
shapes_told tables op x old a b f g new are start first second blank (text, told, added) = (
  codes "control " ++ (control_set x.first ++ (second_set x.second ++ 32 ∷ text)),
  record { options = x; are_options = are; operands = text; are_operands = told; is = refl },
  two old (codes "control ") (control_set x.first ++ (second_set x.second ++ 32 ∷ text)) start
      (three a (control_set x.first) (second_set x.second) (32 ∷ text) first second
      (two f (codes " ") text blank added)),
)

-- what is found has types
pub found_types : (tables : TableContents) (rs vs : List (Option ℕ)) (found : List Found)
    → ((op : ℕ) (c : ControlTypes) (rs vs : List ℕ) → Accepts tables op c rs vs
    → IfSome c.ctrl IsTypeNumber × IfSome c.second IsTypeNumber × All IsTypeNumber (rs ++ vs))
    → AreListed IsBefore (Finds tables rs vs) found → (k : ℕ) (x : Found) → slice_get found k ≡ Some x
    → IfSome x.controls.ctrl IsTypeNumber × IfSome x.controls.second IsTypeNumber
found_types tables rs vs found types listed k x at =
    let finds = (listed.contains x).0 (contained_at found k x at) in
    let known = types x.opcode x.controls finds.result_types finds.value_types finds.accepts in
    (known.0, known.1)

-- what is listed is an opcode
pub listed_opcode : (tables : TableContents) (which : NamesOf) (op : ℕ) → IsWellFormedOpcodes tables → IsListedBy tables which op
    → IsOpcode tables op
listed_opcode tables names.All op well h = h
listed_opcode tables (names.Marked told p) op well h = h.0
listed_opcode tables (names.OfFormat name) op well h = formatted_opcode tables op name.now well h

-- the constraint at a place of the list
pub constraint_within : (cs : List Constraint) (xs : List NumberConstraint) (place : ℕ) → map number_constraint_of cs ≡ xs
    → place < length xs → place < length cs
constraint_within cs xs place e l =
    let long = length-map cs number_constraint_of in
    let same = ap length e in
    omega (arith, l, long, same)

pub constraint_at : (cs : List Constraint) (xs : List NumberConstraint) (place : ℕ) (c : Constraint) (x : NumberConstraint)
    → map number_constraint_of cs ≡ xs → slice_get cs place ≡ Some c → x ≡ number_constraint_of c → slice_get xs place ≡ Some x
constraint_at cs xs place c x e at is =
    ap (λ ys. slice_get ys place) (sym e) ∙ get_map number_constraint_of cs place c at ∙ ap Some (sym is)

-- why an opcode that has the name accepts or refuses what is asked
pub why_told : (tables : TableContents) (told : Option (List BuiltInstruction)) (q : Question) (op : ℕ) (c : ControlTypes) (rs vs : List ℕ)
    (x : Explained) → IsFirst (IsOpcodeNamed tables.names q.name) op → c ≡ asked_controls q → rs ≡ map number_of q.results
    → vs ≡ map number_of q.values → IsExplained tables op c rs vs x
    → IsExplainedFor tables told q (why_text told op (asked_controls q) (map number_of q.results) (map number_of q.values) x)
why_told tables told q op c rs vs x named same results values explained = record {
  opcode = op;
  named = named;
  why = x;
  explained = subst (λ vs. IsExplained tables op (asked_controls q) (map number_of q.results) vs x) values
      (subst (λ rs. IsExplained tables op (asked_controls q) rs vs x) results
      (subst (λ c. IsExplained tables op c rs vs x) same explained));
  is = refl;
}

-- nothing is listed only where P holds of nothing
pub none_listed : (P : ℕ → Type 0) (xs : List ℕ) → AreListed IsLess P xs → true ≡ (length xs == 0) → (n : ℕ) → P n → ⊥
none_listed P [] listed empty n p = contains_none n ((listed.contains n).1 p)
none_listed P (x ∷ xs) listed empty n p =
    let e : suc (length xs) ≡ 0 = eqb-true (suc (length xs)) 0 (sym empty) in absurd (omega (arith, e))

pub some_listed : (P : ℕ → Type 0) (xs : List ℕ) → AreListed IsLess P xs → false ≡ (length xs == 0) → (n : ℕ) × P n
some_listed P [] listed some = absurd (cc)
some_listed P (x ∷ xs) listed some = (x, (listed.contains x).0 (contains_first x xs))

-- the set of a control is written
pub control_added : (o : Option (Vec ℕ)) (v : Vec ℕ) (ns old new : List ℕ) → o ≡ Some v → ns ≡ v.items → new ≡ old ++ set_text ns
    → new ≡ old ++ control_set o
control_added o v ns old new is items e =
    e ∙ ap (λ (xs : List ℕ). old ++ set_text xs) items ∙ ap (λ (x : Option (Vec ℕ)). old ++ control_set x) (sym is)

pub second_added : (o : Option (Vec ℕ)) (v : Vec ℕ) (ns old mid new : List ℕ) → o ≡ Some v → ns ≡ v.items → mid ≡ old ++ codes " second "
    → new ≡ mid ++ set_text ns → new ≡ old ++ second_set o
second_added o v ns old mid new is items start e =
    two old (codes " second ") (set_text v.items) start (e ∙ ap (λ (xs : List ℕ). mid ++ set_text xs) items)
    ∙ ap (λ (x : Option (Vec ℕ)). old ++ second_set x) (sym is)

-- the parts of a refusal are written
pub refusal_added : (told : Option (List BuiltInstruction)) (op : ℕ) (q : Question) (p : Part) (w : Wanted) (c : ControlTypes)
    (rs vs : List ℕ) (n : ℕ) (old t u v x y z new : List ℕ) → c ≡ asked_controls q → rs ≡ map number_of q.results
    → vs ≡ map number_of q.values → n ≡ length rs → t ≡ old ++ codes "refuse " → u ≡ t ++ place_text p n → v ≡ u ++ part_name told op p
    → x ≡ v ++ codes ": " → y ≡ x ++ held_text p c rs vs → z ≡ y ++ codes ", " → new ≡ z ++ wants_text w
    → new ≡ old ++ why_text told op (asked_controls q) (map number_of q.results) (map number_of q.values) (Refuse p w)
refusal_added told op q p w c rs vs n old t u v x y z new same results values count h i j k l m e =
    refusal told op q p w c rs vs n old new same results values count
    (seven old (codes "refuse ") (place_text p n) (part_name told op p) (codes ": ") (held_text p c rs vs) (codes ", ") (wants_text w)
    h i j k l m e)
