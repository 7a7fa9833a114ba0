-- What a constraint gives for a result is the number of the type that is inferred.
use Rattle.std.proofs.Common.{◌≡◌, ◌↔◌, ◌≤◌, ◌<◌, ◌+◌, ◌⊎◌, ℕ, List, [], ◌∷◌, ◌++◌, length, All, Option, Some, slice_get, refl, sym}
use Rattle.std.proofs.Common.{ap, ◌∙◌, subst, inl, inr, arith}
use Rattle.std.proofs.lemmas.Option.{same_Some, slice_get_within}
use Rattle.std.proofs.lemmas.List.{same_from_push}
use Rattle.std.proofs.lemmas.List.Elements.{All-head, All-tail}
use Rattle.meta_lists.proofs.Pushed.{not_empty}
use Rattle.meta_lists.proofs.Places.{get_beside, get_stays}
use Rattle.meta_types.specs.TypeParts.{TypeParts, number_of}
use Rattle.meta_types.specs.Function.{Function, IsRelation, IsFunction, StepsTypes}
use Rattle.meta_types.proofs.Functions.{relation_or_not, no_function}
use Rattle.meta_types.proofs.Numbers.{one_number}
use Rattle.meta_typevar.specs.TypeSetParts.{IsMember, IsTypeSet}
use Rattle.meta_typevar.specs.Chain.{Agrees, IsFixed}
use Rattle.meta_typevar.specs.Variable.{Variable, Sets, underived}
use Rattle.meta_inst.specs.Which.{Which, First, Second, both}
use Rattle.meta_inst.specs.Instruction.{Instruction, IsOperand, controls_of}
use Rattle.meta_inst.specs.Control.{IsControl, HasBadSecond, IsLoneInput}
use Rattle.meta_inst.specs.Acceptance.{IsNumberOf}
use Rattle.meta_inst.specs.Constraint.{TypeConstraint, ConcreteType, FreeType, SameType, ByType, IsConstraint, ControlFits}
use Rattle.meta_inst.specs.Inference.{EndsInRelation, IsRootOf, RootHas, IsResultNumber, InfersNumbers, GivesNumber}
use Rattle.meta_inst.specs.Inference.{GivesAt, GivesResults}
use Rattle.meta_inst.specs.Tables.{TableContents, NumberConstraint, ByNumber, OpcodeNumbers}
use Rattle.meta_inst.specs.Tables.{ControlNumberFits, StandsFor, AreOpcodeNumbersOf, at_opcode}
use Rattle.meta_inst.specs.Tables.{result_count}
use Rattle.meta_inst.proofs.Candidates.{same_variable, underived_agrees, agrees_step}
use Rattle.meta_inst.proofs.Fixedness.{fixed_from_one}
use Rattle.meta_inst.proofs.Family.{IsSettled, IsUsed, Ruling}
use Rattle.meta_inst.proofs.ControlFamily.{ruling_of}
use Rattle.meta_inst.proofs.ListedOperands.{type_of_number, number_of_type}
use Rattle.meta_inst.proofs.Passing.{controlling_type, control_number_fits}
use Rattle.meta_inst.proofs.Inferring.{root_of}

-- a chain of functions doesn't end in a relation
last_function : (fs : List Function) (f : Function) → All IsFunction (fs ++ f ∷ []) → IsFunction f
last_function [] f h = All-head IsFunction f [] h
last_function (g ∷ gs) f h = last_function gs f (All-tail IsFunction g (gs ++ f ∷ []) h)

functions_end : (w : Variable) → All IsFunction w.chain → EndsInRelation w → ⊥
functions_end w h e = no_function e.last e.relation (last_function e.before e.last (subst (All IsFunction) e.chain h))

module _ (sets : Sets) (i : Instruction) (controls : Which → Option Variable) (ruling : Ruling sets i controls)
    (e : Which → Option TypeParts) (fits : (a : Which) → ControlFits sets (controls a) (e a)) where
  -- the type of a control is a member of its set
  control_member : (a : Which) (v : Variable) → controls a ≡ Some v → (t : TypeParts) × (e a ≡ Some t) × IsMember (sets v.root) t
  control_member a v is = subst (λ (o : Option Variable). ControlFits sets o (e a)) is (fits a)

  module _ (w : Variable) where
    -- what the root of w has is a member of its set
    root_member : (r : TypeParts) → RootHas sets controls e w r → IsMember (sets w.root) r
    root_member r (inl (a, p, has)) =
        let (t, is, m) = control_member a (underived w.root) p in
        subst (λ x. IsMember (sets w.root) x) (same_Some t r (sym is ∙ has)) m
    root_member r (inr (none, one, is)) = subst (λ x. IsMember (sets w.root) x) (sym is) one.member

    module _ (k : ℕ) (at : slice_get i.results k ≡ Some w) where
      operand : IsOperand i k w
      operand = get_stays i.results i.values k w at

      -- a result is no lone input
      not_lone : IsLoneInput i k w → ⊥
      not_lone lone = let within = slice_get_within i.results k w at in let past = lone.is_input in omega arith

      -- so its root has a type
      root_has : (r : TypeParts) × RootHas sets controls e w r
      root_has = by_case (ruling.settled k w operand)
        where
          by_case : IsSettled sets i controls k w → (r : TypeParts) × RootHas sets controls e w r
          by_case (inl (a, p)) =
              let is = root_of sets i controls ruling e w a p in
              let (t, has, m) = control_member a (underived w.root) is in
              (t, inl (a, is, has))
          by_case (inr (none, inl one)) =
              (one.one, inr ((λ a p. none (a, record { variable = underived w.root; controls_is = p; root = refl })), one, refl))
          by_case (inr (none, inr lone)) = absurd (not_lone lone)

      -- and no type set alone is its constraint
      not_free : (s : _) → IsConstraint sets controls w (FreeType s) → ⊥
      not_free s h = by_case (ruling.settled k w operand)
        where
          by_case : IsSettled sets i controls k w → ⊥
          by_case (inl (a, p)) = h.other a (p.controls_is
              ∙ ap Some (same_variable p.variable w (sym p.root) (ruling.underived a p.variable p.controls_is ∙ sym h.underived)))
          by_case (inr (none, inl one)) =
              h.not_fixed one.one (subst (λ (fs : List Function). IsFixed (sets w.root) fs one.one) (sym h.underived)
              (fixed_from_one (sets w.root) one))
          by_case (inr (none, inr lone)) = absurd (not_lone lone)

      module _ (tables : TableContents) (c : Which → Option ℕ) (numbered : (a : Which) → IsNumberOf (e a) (c a)) where
        -- what is inferred is given
        result_gives : (x : TypeConstraint) (y : NumberConstraint) (n : ℕ) → IsConstraint sets controls w x → StandsFor tables x y
            → IsResultNumber sets controls e w n → GivesNumber c y n
        result_gives (ConcreteType t) y n h stands (inl (ends, zero)) = absurd (functions_end w h.functions ends)
        result_gives (ConcreteType t) y n h stands (inr (_, (u, inferred, is))) =
            let same : u ≡ t = h.only inferred.root_type u (root_member inferred.root_type inferred.root) inferred.agrees in
            subst (λ z. GivesNumber c z n) (sym stands) (is ∙ ap number_of same)
        result_gives (FreeType s) y n h stands is = absurd (not_free s h)
        result_gives (SameType a) y n h stands is = subst (λ z. GivesNumber c z n) (sym stands) (by_case is)
          where
            chain : w.chain ≡ []
            chain = ruling.underived a w h.controls_is

            own : underived w.root ≡ w
            own = same_variable (underived w.root) w refl (sym chain)

            by_case : IsResultNumber sets controls e w n → c a ≡ Some n
            by_case (inl (ends, zero)) = absurd (not_empty ends.before ends.last (sym ends.chain ∙ chain))
            by_case (inr (_, (t, inferred, number))) = typed inferred.root
              where
                agreed : t ≡ inferred.root_type
                agreed = underived_agrees w.chain inferred.root_type t chain inferred.agrees

                typed : RootHas sets controls e w inferred.root_type → c a ≡ Some n
                typed (inl (b, p, has)) =
                    let same : a ≡ b = ruling.one a b w (underived w.root) h.controls_is p refl in
                    number_of_type (e a) (c a) t (numbered a) (ap e same ∙ has ∙ ap Some (sym agreed)) ∙ ap Some (sym number)
                typed (inr (none, one, is)) = absurd (none a (h.controls_is ∙ ap Some (sym own)))
        result_gives (ByType a f) y n h stands is = subst (λ z. GivesNumber c z n) (sym stands) (by_case is)
          where
            parent : h.variable.chain ≡ []
            parent = ruling.underived a h.variable h.controls_is

            chain : w.chain ≡ f ∷ []
            chain = h.derived.chain ∙ ap (λ (fs : List Function). fs ++ (f ∷ [])) parent

            root_is : IsRootOf controls a w
            root_is = h.controls_is ∙ ap Some (same_variable h.variable (underived w.root) (sym h.derived.root) parent)

            by_case : IsResultNumber sets controls e w n → GivesNumber c (ByNumber a f) n
            by_case (inl (ends, zero)) =
                let last : ends.last ≡ f = (same_from_push ends.before h.variable.chain ends.last f (sym ends.chain ∙ h.derived.chain)).1 in
                inl (subst IsRelation last ends.relation, zero)
            by_case (inr (not_ending, (t, inferred, number))) = typed inferred.root
              where
                is_function : IsFunction f
                is_function = elim (relation_or_not f) [
                  | inl r ↦ absurd (not_ending (record { before = h.variable.chain; last = f; chain = h.derived.chain; relation = r }))
                  | inr g ↦ g
                ]

                typed : RootHas sets controls e w inferred.root_type → GivesNumber c (ByNumber a f) n
                typed (inl (b, p, has)) =
                    let same : a ≡ b = ruling.one a b (underived w.root) (underived w.root) root_is p refl in
                    let (u, step, end) = subst (λ (fs : List Function). Agrees fs inferred.root_type t) chain inferred.agrees in
                    inr (
                      number_of inferred.root_type,
                      number_of_type (e a) (c a) inferred.root_type (numbered a) (ap e same ∙ has),
                      record {
                        is_function = is_function;
                        steps = record {
                          from = inferred.root_type;
                          to = u;
                          steps = step;
                          number_from = refl;
                          number_to = sym (number ∙ ap number_of end);
                        };
                      },
                    )
                typed (inr (none, one, is)) = absurd (none a root_is)

        -- and what is given is inferred
        given_result : (x : TypeConstraint) (y : NumberConstraint) (n : ℕ) → IsConstraint sets controls w x → StandsFor tables x y
            → GivesNumber c y n → IsResultNumber sets controls e w n
        given_result (ConcreteType t) y n h stands g =
            let (r, has) = root_has in
            inr (
              functions_end w h.functions,
              (
                t,
                record { root_type = r; root = has; agrees = h.reached r (root_member r has) },
                subst (λ z. GivesNumber c z n) stands g,
              ),
            )
        given_result (FreeType s) y n h stands g = absurd (not_free s h)
        given_result (SameType a) y n h stands g =
            let chain : w.chain ≡ [] = ruling.underived a w h.controls_is in
            let (t, is, _, number) = type_of_number (e a) (c a) n (numbered a) (subst (λ z. GivesNumber c z n) stands g) in
            inr (
              (λ ends. not_empty ends.before ends.last (sym ends.chain ∙ chain)),
              (
                t,
                record {
                  root_type = t;
                  root = inl (a, h.controls_is ∙ ap Some (same_variable w (underived w.root) refl chain), is);
                  agrees = subst (λ (fs : List Function). Agrees fs t t) (sym chain) refl;
                },
                sym number,
              ),
            )
        given_result (ByType a f) y n h stands g = by_case (subst (λ z. GivesNumber c z n) stands g)
          where
            parent : h.variable.chain ≡ []
            parent = ruling.underived a h.variable h.controls_is

            chain : w.chain ≡ f ∷ []
            chain = h.derived.chain ∙ ap (λ (fs : List Function). fs ++ (f ∷ [])) parent

            root_is : IsRootOf controls a w
            root_is = h.controls_is ∙ ap Some (same_variable h.variable (underived w.root) (sym h.derived.root) parent)

            by_case : GivesNumber c (ByNumber a f) n → IsResultNumber sets controls e w n
            by_case (inl (relation, zero)) =
                inl (record { before = h.variable.chain; last = f; chain = h.derived.chain; relation = relation }, zero)
            by_case (inr (u, is, answer)) =
                let (r, has, is_r, number) = type_of_number (e a) (c a) u (numbered a) is in
                let from : answer.steps.from ≡ r = one_number answer.steps.from r answer.steps.steps.from is_r (answer.steps.number_from
                ∙ sym number) in
                let step : StepsTypes f r answer.steps.to = subst (λ v. StepsTypes f v answer.steps.to) from answer.steps.steps in
                let ends : EndsInRelation w → ⊥ =
                λ x. no_function f (subst IsRelation ((same_from_push x.before h.variable.chain x.last f (sym x.chain
                ∙ h.derived.chain)).1) x.relation) answer.is_function in
                inr (
                  ends,
                  (
                    answer.steps.to,
                    record {
                      root_type = r;
                      root = inl (a, root_is, has);
                      agrees = agrees_step w.chain f r answer.steps.to chain step;
                    },
                    sym answer.steps.number_to,
                  ),
                )

module _ (sets : Sets) (i : Instruction) (control : Option Variable) (tables : TableContents) (entry : OpcodeNumbers)
    (typed : (k : ℕ) (w : Variable) → IsOperand i k w → IsTypeSet (sets w.root)) (h : IsControl sets i control)
    (good : HasBadSecond sets i → ⊥) (is : AreOpcodeNumbersOf sets i control tables entry) (c d : Option ℕ) where
  -- the root of a control has a set of types
  control_typed : (a : Which) (v : Variable) → controls_of i control a ≡ Some v → IsTypeSet (sets v.root)
  control_typed a v e =
      let used : IsUsed i v = (ruling_of sets i control h good).used a v e in
      subst (λ r. IsTypeSet (sets r)) used.root (typed used.place used.variable used.operand)

  module _ (e g : Option TypeParts) (e_number : IsNumberOf e c) (g_number : IsNumberOf g d) (e_fits : ControlFits sets control e)
      (g_fits : ControlFits sets i.second g) where
    numbered : (a : Which) → IsNumberOf (both e g a) (both c d a)
    numbered First = e_number
    numbered Second = g_number

    fits : (a : Which) → ControlFits sets (controls_of i control a) (both e g a)
    fits First = e_fits
    fits Second = g_fits

    -- a number that is given at a result's place is the result's
    given_there : (k : ℕ) (w : Variable) (n : ℕ) → slice_get i.results k ≡ Some w
        → GivesAt tables (both c d) (entry.constraint_offset + k) n → IsResultNumber sets (controls_of i control) (both e g) w n
    given_there k w n at p =
        let x = is.constraints k w (get_stays i.results i.values k w at) in
        let same = same_Some p.constraint x.number_constraint (sym p.is_constraint ∙ x.placed) in
        given_result sets i (controls_of i control) (ruling_of sets i control h good) (both e g) fits w k at tables
        (both c d) numbered x.constraint x.number_constraint n x.is_constraint x.stands
        (subst (λ y. GivesNumber (both c d) y n) same p.gives)

    -- a result's number is given at its place
    gives_there : (k : ℕ) (w : Variable) (n : ℕ) → slice_get i.results k ≡ Some w
        → IsResultNumber sets (controls_of i control) (both e g) w n → GivesAt tables (both c d) (entry.constraint_offset + k) n
    gives_there k w n at r =
        let x = is.constraints k w (get_stays i.results i.values k w at) in
        record {
          constraint = x.number_constraint;
          is_constraint = x.placed;
          gives = result_gives sets i (controls_of i control) (ruling_of sets i control h good) (both e g) fits w k at tables
              (both c d) numbered x.constraint x.number_constraint n x.is_constraint x.stands r;
        }

  -- what the tables give for an opcode with this entry
  record Gives (numbers : List ℕ) (own : OpcodeNumbers) : Type 0 where
    control_fits : ControlNumberFits tables own.typeset_offset c
    second_fits : ControlNumberFits tables own.second_offset d
    count : length numbers ≡ result_count own.flags
    each : (k n : ℕ) → slice_get numbers k ≡ Some n → GivesAt tables (both c d) (own.constraint_offset + k) n

  inferred_from_given : (numbers : List ℕ) → Gives numbers entry → InfersNumbers sets i control c d numbers
  inferred_from_given numbers q =
      let (e, e_number, e_fits) =
      controlling_type sets control tables entry.typeset_offset c (control_typed First) is.type_set q.control_fits in
      let (g, g_number, g_fits) =
      controlling_type sets i.second tables entry.second_offset d (control_typed Second) is.second_set q.second_fits in
      record {
        control_type = e;
        second_type = g;
        control_number = e_number;
        second_number = g_number;
        infers = record {
          control_fits = e_fits;
          second_fits = g_fits;
          count = q.count ∙ is.flags.results;
          each = λ k w n at n_at. given_there e g e_number g_number e_fits g_fits k w n at (q.each k n n_at);
        };
      }

  given_from_inferred : (numbers : List ℕ) → InfersNumbers sets i control c d numbers → Gives numbers entry
  given_from_inferred numbers q = record {
    control_fits = control_number_fits sets control tables entry.typeset_offset q.control_type c
        (control_typed First) is.type_set q.control_number q.infers.control_fits;
    second_fits = control_number_fits sets i.second tables entry.second_offset q.second_type d
        (control_typed Second) is.second_set q.second_number q.infers.second_fits;
    count = q.infers.count ∙ sym is.flags.results;
    each = λ k n n_at.
        let (w, at) = get_beside numbers i.results k n q.infers.count n_at in
        gives_there q.control_type q.second_type q.control_number q.second_number q.infers.control_fits q.infers.second_fits k w n at
        (q.infers.each k w n at n_at);
  }

  -- The tables give for the results what the instruction infers.
  pub results_mean : (op : ℕ) → at_opcode tables.entries op ≡ Some entry → (numbers : List ℕ)
      → (GivesResults tables op c d numbers ↔ InfersNumbers sets i control c d numbers)
  results_mean op at numbers = (
    (λ q. inferred_from_given numbers (subst (Gives numbers) (same_Some q.entry entry (sym q.is_opcode ∙ at))
        (record { control_fits = q.control_fits; second_fits = q.second_fits; count = q.count; each = q.each }))),
    (λ q. let r = given_from_inferred numbers q in record {
      entry = entry;
      is_opcode = at;
      control_fits = r.control_fits;
      second_fits = r.second_fits;
      count = r.count;
      each = r.each;
    }),
  )
