-- For one environment a text reads as one line at most, as valid declarations mean. No table is spoken of.
use Rattle.std.proofs.Common.{◌≡◌, inl, ℕ, Bool, true, false, List, map, get_or, slice_get, Option, None, Some, IfSome, refl, sym, ap, ◌∙◌}
use Rattle.std.proofs.Common.{subst}
use Rattle.std.proofs.lemmas.Option.{same_Some, get_or_from_slice_get}
use Rattle.meta_lists.proofs.Places.{get_beside}
use Rattle.meta_lists.proofs.Mapped.{get_map}
use Rattle.meta_types.specs.Name.{IsName}
use Rattle.meta_types.specs.TypeParts.{TypeParts, IsType}
use Rattle.meta_typevar.specs.Variable.{Variable, Sets}
use Rattle.meta_inst.specs.Instruction.{Instruction}
use Rattle.meta_inst.specs.Builder.{Builder}
use Rattle.meta_inst.specs.Control.{IsControl, HasBadSecond, HasBadDerivation}
use Rattle.meta_inst.specs.InstructionFaults.{NameRule}
use Rattle.meta_inst.specs.InstructionSet.{InstructionSet, root_sets, instruction_in_set}
use Rattle.meta_inst.specs.Faults.{IsValid, OfInstruction}
use Rattle.meta_inst.proofs.OneControl.{same_control}
use Rattle.meta_inst.specs.Acceptance.{Accepts, IsChosenControl}
use Rattle.meta_inst.specs.Inference.{EndsInRelation}
use Rattle.meta_inst.specs.Tables.{DesignatedControls}
use Rattle.meta_inst.proofs.Inferring.{result_inferred, only_inferred, designated_typed}
use Rattle.meta_gen.proofs.ValidNames.{is_name_where}
use Rattle.meta_gen.proofs.Derivations.{no_bad_place}
use Rattle.meta_lines.specs.Control.{IsAfter}
use Rattle.meta_gen.specs.Reply.{IsAskedFor, AcceptsAsked, AcceptedReply}
use Rattle.meta_inst.proofs.ValidControls.{good_second, well_derived}
use Rattle.meta_verify.specs.Statement.{TypedValue, Application, OfApplication, CanApply}
use Rattle.meta_verify.specs.Environment.{Environment, HaveTypes}
use Rattle.meta_verify.specs.Wrong.{question_of, IsAccepted}
use Rattle.meta_verify.proofs.OneAnswer.{same_found_types}
use Rattle.meta_gen.proofs.OneReply.{one_asked}
use Rattle.meta_asm.specs.Short.{Manner, short_results, control_written, short_application}
use Rattle.meta_asm.specs.PlainNames.{IsPlain}
use Rattle.meta_asm.specs.Manners.{ControlHasOne, IsMannerOf, IsMannerDeclared}
use Rattle.meta_asm.specs.Reading.{IsShortDeclared}
use Rattle.meta_asm.proofs.ShortLemmas.{same_line_parts}
use Rattle.meta_asm.proofs.Determined.{same_results}
use Rattle.meta_asm.proofs.MannersMean.{one_manner_of}
use Rattle.meta_asm.proofs.OneLine.{is_plain_name, written_alike, one_shortened, one_form_of_line}

-- ---- one instruction

module _ (sets : Sets) (i : Instruction) (control : Option Variable) (controlled : IsControl sets i control) (good : HasBadSecond sets i
    → ⊥) (none : (k : ℕ) → HasBadDerivation sets i control k → ⊥) (m : Manner) (manner : IsMannerOf sets i control m)
    (vs : List TypeParts) where
  -- a result whose type isn't written has one type
  one_type_at : (c d : Option TypeParts) (rs ps : List TypeParts) → Accepts sets i control c d rs vs → Accepts sets i control c d ps vs
      → (k : ℕ) (t u : TypeParts) → slice_get rs k ≡ Some t → slice_get ps k ≡ Some u → get_or m.opened k false ≡ false → t ≡ u
  one_type_at c d rs ps x y k t u t_at u_at closed =
      let (w, w_at) = get_beside rs i.results k t x.results t_at in
      let (o, o_at) = get_beside i.results m.opened k w (sym manner.count) w_at in
      let mark : o ≡ false = sym (get_or_from_slice_get m.opened k o false o_at) ∙ closed in
      let ends : EndsInRelation w → ⊥ = λ e. (let on : false ≡ true = sym mark ∙ (manner.opened k w o w_at o_at).1 e in absurd (cc)) in
      only_inferred sets i control c d controlled good none k w w_at ends t u
      (result_inferred sets i control c d rs vs controlled good x k w t w_at t_at)
      (result_inferred sets i control c d ps vs controlled good y k w u w_at u_at)

  -- where the control is left out, it is that of the designated value, and there is no second one
  left_out : (c d e g : Option TypeParts) (rs ps : List TypeParts) → Accepts sets i control c d rs vs → Accepts sets i control e g ps vs
      → (i.second ≡ None) × DesignatedControls i control × (ControlHasOne sets control → ⊥) → (c ≡ e) × (d ≡ g)
  left_out c d e g rs ps x y (alone, (v, is, designates), several) =
      let (t, t_at, first) = designated_typed sets i control c d rs vs controlled good x (
        v,
        is,
        designates,
      ) designates.place designates.designates in
      let (u, u_at, second) = designated_typed sets i control e g ps vs controlled good y (
        v,
        is,
        designates,
      ) designates.place designates.designates in
      let same : t ≡ u = same_Some t u (sym t_at ∙ u_at) in
      let no : d ≡ None = subst (λ s. IsChosenControl x.choice s d) alone x.second_controlled in
      let nor : g ≡ None = subst (λ s. IsChosenControl y.choice s g) alone y.second_controlled in
      (first ∙ ap (λ z. Some z) same ∙ sym second, no ∙ sym nor)

  -- so controls that are written alike are the same
  same_controls : (leaves_out : Bool) → leaves_out ≡ m.leaves_out → (c d e g : Option TypeParts) (rs ps : List TypeParts) → IfSome c IsType
      → IfSome d IsType → IsAfter c d → IfSome e IsType → IfSome g IsType → IsAfter e g
      → control_written leaves_out c d ≡ control_written leaves_out e g → Accepts sets i control c d rs vs
      → Accepts sets i control e g ps vs → (c ≡ e) × (d ≡ g)
  same_controls true is c d e g rs ps hc hd hb he hg gb w x y = left_out c d e g rs ps x y (manner.leaves_out.0 (sym is))
  same_controls false is c d e g rs ps hc hd hb he hg gb w x y = written_alike c d e g hc hd hb he hg gb w

-- ---- declarations

module _ (d : InstructionSet) (valid : IsValid d) where
  -- the name that an instruction is asked for by is a name
  pub asked_name : (name : List ℕ) (b : Builder) → IsAskedFor d name b → IsName name
  asked_name name b asked = subst IsName asked.named (is_name_where b.name
      (λ bad. valid (OfInstruction asked.place NameRule) _ (inl (record { builder = b; at = asked.at; breaks = (refl, bad) }))))

  -- the lines of an instruction have one manner
  own_manner : (name : List ℕ) (b : Builder) (control : Option Variable) (m : Manner) → IsAskedFor d name b
      → IsControl (root_sets d) (instruction_in_set d b) control → IsMannerDeclared d name m
      → IsMannerOf (root_sets d) (instruction_in_set d b) control m
  own_manner name b control m asked controlled h =
      let own : h.builder ≡ b = one_asked d valid name h.builder b h.asked asked in
      let is = subst (λ x. IsMannerOf (root_sets d) (instruction_in_set d x) h.control m) own h.is in
      let same = same_control (root_sets d) (instruction_in_set d b) h.control control
      (subst (λ x. IsControl (root_sets d) (instruction_in_set d x) h.control) own h.is_control) controlled in
      subst (λ c. IsMannerOf (root_sets d) (instruction_in_set d b) c m) same is

  pub one_manner_declared : (name : List ℕ) (m n : Manner) → IsMannerDeclared d name m → IsMannerDeclared d name n → m ≡ n
  one_manner_declared name m n h k =
      one_manner_of (root_sets d) (instruction_in_set d k.builder) k.control m n
      (own_manner name k.builder k.control m k.asked k.is_control h) k.is

  -- so a line has one short form at most
  pub one_form_declared : (env : Environment) (line a b : List ℕ) → IsShortDeclared d env line a → IsShortDeclared d env line b → a ≡ b
  one_form_declared = one_form_of_line (AcceptedReply d) (IsMannerDeclared d) one_manner_declared

  module _ (env : Environment) where
    named_plain : (a : Application) → IsAccepted (AcceptedReply d) env (OfApplication a) → IsPlain a.name
    named_plain a (types, have, h) = (let (b, asked, accepts) = h in is_plain_name a.name (asked_name a.name b asked))

    one_application : (m n : Manner) (a b : Application) → CanApply a → CanApply b → IsAccepted (AcceptedReply d) env (OfApplication a)
        → IsAccepted (AcceptedReply d) env (OfApplication b)
        → IsMannerDeclared d a.name m → IsMannerDeclared d b.name n → short_application m a ≡ short_application n b → a ≡ b
    one_application m n a b ca cb fa fb hm hn e =
        let parts = same_line_parts m n a b (named_plain a fa) (named_plain b fb) ca cb e in
        let (types, have, replied) = fa in
        let (x, asked, accepts) = replied in
        let (others, has, answered) = fb in
        let (y, also, accepted) = answered in
        let sets : Sets = root_sets d in
        let i : Instruction = instruction_in_set d x in
        let control : Option Variable = accepts.control in
        let rs : List TypeParts = map (λ (r : TypedValue). r.type) a.results in
        let ps : List TypeParts = map (λ (r : TypedValue). r.type) b.results in
        let same : others ≡ types =
        same_found_types env a.values others types (subst (λ values. HaveTypes env values others) (sym parts.values) has) have in
        let same_builder : y ≡ x = one_asked d valid a.name y x (subst (λ z. IsAskedFor d z y) (sym parts.names) also) asked in
        let moved : AcceptsAsked d x (question_of b types) =
        subst (λ z. AcceptsAsked d z (question_of b types)) same_builder
        (subst (λ ts. AcceptsAsked d y (question_of b ts)) same accepted) in
        let other : Accepts sets i control b.control b.second ps types =
        subst (λ c. Accepts sets i c b.control b.second ps types)
        (same_control sets i moved.control control moved.is_control accepts.is_control) moved.accepts in
        let good : HasBadSecond sets i → ⊥ = good_second d valid asked.place x asked.at in
        let none : (k : ℕ) → HasBadDerivation sets i control k → ⊥ =
        no_bad_place sets i control accepts.is_control (well_derived d valid asked.place x asked.at) in
        let first : IsMannerOf sets i control m = own_manner a.name x control m asked accepts.is_control hm in
        let second : IsMannerOf sets i control n =
        own_manner a.name x control n asked accepts.is_control (subst (λ z. IsMannerDeclared d z n) (sym parts.names) hn) in
        let manner : m ≡ n = one_manner_of sets i control m n first second in
        let written : control_written m.leaves_out a.control a.second ≡ control_written m.leaves_out b.control b.second = parts.controls
        ∙ ap (λ (z : Manner). control_written z.leaves_out b.control b.second) (sym manner) in
        let controls = same_controls sets i control accepts.is_control good none m first types m.leaves_out refl a.control a.second
        b.control b.second rs ps ca.control ca.second ca.after cb.control cb.second cb.after written accepts.accepts other in
        let under : Accepts sets i control a.control a.second ps types =
        subst (λ z. Accepts sets i control a.control z ps types) (sym controls.1)
        (subst (λ c. Accepts sets i control c b.second ps types) (sym controls.0) other) in
        let shorts : short_results m.opened a.results ≡ short_results m.opened b.results = parts.results
        ∙ ap (λ (z : Manner). short_results z.opened b.results) (sym manner) in
        let results = same_results m.opened a.results b.results shorts (λ k r q r_at q_at closed.
        one_type_at sets i control accepts.is_control good none m first types a.control a.second rs ps accepts.accepts under k r.type
        q.type (get_map (λ (z : TypedValue). z.type) a.results k r r_at)
        (get_map (λ (z : TypedValue). z.type) b.results k q q_at) closed) in
        λ j. record { name = parts.names j; control = controls.0 j; second = controls.1 j; results = results j; values = parts.values j }

    -- for one environment a text reads as one line at most
    pub one_line_declared : (text a b : List ℕ) → IsShortDeclared d env a text → IsShortDeclared d env b text → a ≡ b
    one_line_declared = one_shortened (AcceptedReply d) (IsMannerDeclared d) env named_plain one_application
