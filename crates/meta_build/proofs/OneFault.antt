-- Declarations have at most one first fault.
use Rattle.std.proofs.Common.{◌≡◌, ◌<◌, ◌≤◌, ◌+◌, inl, inr, ⊎_elim, ℕ, List, [], ◌∷◌, length, get_or, if◌then◌else◌, ◌==◌, refl, sym, ap}
use Rattle.std.proofs.Common.{◌∙◌, subst, arith}
use Rattle.std.proofs.lemmas.Option.{same_Some, slice_get_within}
use Rattle.std.proofs.lemmas.Bool.{cases_lt}
use Rattle.std.proofs.lemmas.List.{length-map}
use Rattle.meta_types.specs.declared.fault.Place.TheVariants.{Instruction as AtInstruction}
use Rattle.meta_types.specs.declared.fault.DefinitionError.{DefinitionError}
use Rattle.meta_types.specs.declared.fault.DefinitionError.TheVariants.{DuplicateName, TooManyTypeSets, FormatClash}
use Rattle.meta_types.specs.FirstFault.{Key}
use Rattle.meta_types.proofs.SharedNames.{one_earlier}
use Rattle.meta_types.proofs.FirstFault.{IsIn, IsSearchable, one_first_shown}
use Rattle.meta_inst.specs.Builder.{Builder}
use Rattle.meta_inst.specs.InstructionSet.{InstructionSet}
use Rattle.meta_inst.specs.InstructionFaults.{Rule, Breaks}
use Rattle.meta_inst.specs.Faults.{names_of, IsFirstUse, IsFirstClash, FormatRule, FormatNameRule, BlocksRule, ClashRule}
use Rattle.meta_inst.specs.Faults.{format_rule_number, Position, OfOpcodes, OfInstruction, OfFormat, OfTypeSets, position_key, FormatBreaks}
use Rattle.meta_inst.specs.Faults.{HasFaultAt, IsFirstFault, IsValid}
use Rattle.meta_inst.proofs.OneOwnFault.{rule_of, rule_count, few_rules, one_broken}
use Rattle.meta_inst.proofs.OneOwnFault as own
use Rattle.meta_build.proofs.Counted.{one_count}

-- ---- a position is known by its key

-- the rules for a format, in order
abbrev pub format_rules : List FormatRule
format_rules = FormatNameRule ∷ BlocksRule ∷ ClashRule ∷ []

format_known : (r : FormatRule) → get_or format_rules (format_rule_number r) FormatNameRule ≡ r
format_known r = grind arith

few_format_rules : (r : FormatRule) → format_rule_number r < length format_rules
few_format_rules r = grind arith

abbrev position_of : Key → Position
position_of k =
    if k.part == 0 then OfOpcodes
    else (if k.part == 1 then OfInstruction k.place (rule_of k.rule)
    else (if k.part == 2 then OfFormat k.place (get_or format_rules k.rule FormatNameRule)
    else OfTypeSets))

known : (p : Position) → position_of (position_key p) ≡ p
known OfOpcodes = refl
known (OfInstruction k r) = ap (OfInstruction k) (own.known r)
known (OfFormat k r) = ap (OfFormat k) (format_known r)
known OfTypeSets = refl

module _ (d : InstructionSet) where
  -- ---- at a position one fault is shown

  one_at_instruction : (k : ℕ) (rule : Rule) (e f : DefinitionError) → HasFaultAt d (OfInstruction k rule) e
      → HasFaultAt d (OfInstruction k rule) f → e ≡ f
  one_at_instruction k rule e f (inl h) (inl g) =
      one_broken d.vars d.formats g.builder (k + 1) rule e f (subst (λ (b : Builder). Breaks d.vars d.formats b (k + 1) rule e)
      (same_Some h.builder g.builder (sym h.at ∙ g.at)) h.breaks) g.breaks
  one_at_instruction k rule e f (inl h) (inr g) = absurd (subst (λ r. Breaks d.vars d.formats h.builder (k + 1) r e) g.second h.breaks)
  one_at_instruction k rule e f (inr h) (inl g) = absurd (subst (λ r. Breaks d.vars d.formats g.builder (k + 1) r f) h.second g.breaks)
  one_at_instruction k rule e f (inr h) (inr g) = h.tells
      ∙ ap (λ j. DuplicateName (AtInstruction (k + 1)) (j + 1)) (one_earlier (names_of d) k h.earlier g.earlier h.duplicate g.duplicate)
      ∙ sym g.tells

  -- the format that an instruction is the first to use
  one_use : (f g k : ℕ) → IsFirstUse d f k → IsFirstUse d g k → f ≡ g
  one_use f g k h other = sym h.uses ∙ ap (λ (b : Builder). b.format) (same_Some h.user other.user (sym h.at ∙ other.at)) ∙ other.uses

  -- of two formats that are clashed with first neither comes before the other
  not_before : (f k g h : ℕ) (a : IsFirstClash d f k g) (b : IsFirstClash d f k h) → a.place < b.place → ⊥
  not_before f k g h a b l = b.first a.place g l a.first_use a.clashes

  -- the format that is clashed with
  one_clash : (f k g h : ℕ) → IsFirstClash d f k g → IsFirstClash d f k h → g ≡ h
  one_clash f k g h a b =
      ⊎_elim (λ (l : a.place < b.place). absurd (not_before f k g h a b l))
      (λ (m : b.place ≤ a.place).
      ⊎_elim (λ (l : b.place < a.place). absurd (not_before f k h g b a l))
      (λ (n : a.place ≤ b.place). one_use g h b.place (subst (IsFirstUse d g) (omega arith) a.first_use) b.first_use)
      (cases_lt b.place a.place))
      (cases_lt a.place b.place)

  one_of_format : (k f : ℕ) (rule : FormatRule) (e g : DefinitionError) → FormatBreaks d k f rule e → FormatBreaks d k f rule g → e ≡ g
  one_of_format k f FormatNameRule e g a b = a.0 ∙ sym b.0
  one_of_format k f BlocksRule e g a b = a.0 ∙ sym b.0
  one_of_format k f ClashRule e g a b = a.1 ∙ ap (FormatClash f) (one_clash f k a.0 b.0 a.2 b.2) ∙ sym b.1

  one_shown : (p : Position) (e f : DefinitionError) → HasFaultAt d p e → HasFaultAt d p f → e ≡ f
  one_shown OfOpcodes e f h g = h.0 ∙ sym g.0
  one_shown (OfInstruction k rule) e f h g = one_at_instruction k rule e f h g
  one_shown (OfFormat k rule) e f h g =
      one_of_format k g.format rule e f (subst (λ n. FormatBreaks d k n rule e)
      (one_use h.format g.format k h.first_use g.first_use) h.breaks) g.breaks
  one_shown OfTypeSets e f (m, he, h) (n, ge, g) = he ∙ ap TooManyTypeSets (h.2 ∙ one_count d h.0 g.0 h.1 g.1 ∙ sym g.2) ∙ sym ge

  -- ---- what is shown is shown of what there is

  abbrev pub places_of : ℕ → ℕ
  places_of part = if part == 0 then 1 else (if part == 3 then 1 else length d.instructions)

  abbrev pub rules_of : ℕ → ℕ
  rules_of part = if part == 1 then rule_count else (if part == 2 then length format_rules else 1)

  of_instruction : (k : ℕ) (rule : Rule) (e : DefinitionError) → HasFaultAt d (OfInstruction k rule) e → k < length d.instructions
  of_instruction k rule e (inl h) = slice_get_within d.instructions k h.builder h.at
  of_instruction k rule e (inr h) =
      let l = slice_get_within (names_of d) k h.duplicate.name h.duplicate.is_name in
      omega (arith, l, length-map d.instructions (λ (b : Builder). b.name))

  within : (p : Position) (e : DefinitionError) → HasFaultAt d p e → IsIn 4 places_of rules_of (position_key p)
  within OfOpcodes e s = record { part = omega arith; place = omega arith; rule = omega arith }
  within (OfInstruction k rule) e s = record { part = omega arith; place = of_instruction k rule e s; rule = few_rules rule }
  within (OfFormat k rule) e s = record {
    part = omega arith;
    place = slice_get_within d.instructions k s.first_use.user s.first_use.at;
    rule = few_format_rules rule;
  }
  within OfTypeSets e s = record { part = omega arith; place = omega arith; rule = omega arith }

  pub searchable : IsSearchable position_key (HasFaultAt d) 4 places_of rules_of
  searchable = record { position_of = position_of; known = known; one = one_shown; within = within }

-- Declarations have at most one first fault.
pub one_fault : (d : InstructionSet) (e f : DefinitionError) → IsFirstFault d e → IsFirstFault d f → e ≡ f
one_fault d = one_first_shown (searchable d)

-- Valid declarations show none.
pub none_where_valid : (d : InstructionSet) (e : DefinitionError) → IsValid d → IsFirstFault d e → ⊥
none_where_valid d e valid h = valid h.position e h.shows
