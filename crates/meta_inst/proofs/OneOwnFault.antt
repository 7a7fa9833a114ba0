-- One fault at most says that an instruction breaks a rule.
use Rattle.std.proofs.Common.{◌≡◌, ◌≢◌, ◌<◌, inl, inr, ⊎_elim, ℕ, List, [], ◌∷◌, length, get_or, Option, sym, ap, ◌∙◌, subst, arith}
use Rattle.std.proofs.lemmas.Option.{same_Some}
use Rattle.std.proofs.lemmas.Bool.{cases_lt}
use Rattle.meta_types.specs.declared.fault.Place.{Place}
use Rattle.meta_types.specs.declared.fault.DefinitionError.{DefinitionError}
use Rattle.meta_types.specs.declared.fault.DefinitionError.TheVariants.{BadName, BadOutput, BadDerivation, TooManyOperands}
use Rattle.meta_types.proofs.FirstFault as first
use Rattle.meta_types.proofs.FirstFault.{IsSearchable}
use Rattle.meta_typevar.specs.Variable.{Variable, Sets}
use Rattle.meta_typevar.specs.declared.content.TypeVarContent.{TypeVarContent}
use Rattle.meta_operands.specs.declared.format.InstructionFormat.{InstructionFormat}
use Rattle.meta_inst.specs.Builder.{Builder}
use Rattle.meta_inst.specs.Instruction.{Instruction}
use Rattle.meta_inst.specs.InstructionSet.{instruction_of_builder}
use Rattle.meta_typevar.specs.Registry.{sets_of}
use Rattle.meta_inst.specs.Control.{IsFirstBadDerivation, DerivesBadly}
use Rattle.meta_inst.specs.InstructionFaults.{AreTooMany, Rule, NameRule, DuplicateRule, OutputRule, MismatchRule, ControlRule, SecondRule}
use Rattle.meta_inst.specs.InstructionFaults.{DerivationRule, CountRule, MethodRule, rule_number, rule_key, Breaks, IsFirstOwnFault}
use Rattle.meta_inst.proofs.OneControl.{same_control}

-- two places of the first operand that is badly derived are one
pub one_bad : (sets : Sets) (i : Instruction) (m n : ℕ) → DerivesBadly sets i m → DerivesBadly sets i n → m ≡ n
one_bad sets i m n h g =
    let same = same_control sets i h.control g.control h.is_control g.is_control in
    let f : IsFirstBadDerivation sets i g.control m = subst (λ (x : Option Variable). IsFirstBadDerivation sets i x m) same h.first in
    ⊎_elim (λ l. absurd (g.first.first m l f.bad))
    (λ l. ⊎_elim (λ b. absurd (f.first n b g.first.bad)) (λ b. omega (arith, l, b)) (cases_lt n m)) (cases_lt m n)

-- so are two counts of too many operands
one_many : (results values m n : ℕ) → AreTooMany results values m → AreTooMany results values n → m ≡ n
one_many results values m n (inl h) (inl g) = h.1 ∙ sym g.1
one_many results values m n (inl h) (inr g) = absurd (omega (arith, h.0, g.0))
one_many results values m n (inr h) (inl g) = absurd (omega (arith, h.0, g.0))
one_many results values m n (inr h) (inr g) = h.2 ∙ sym g.2

-- the rules, in order
abbrev rules : List Rule
rules = NameRule ∷ DuplicateRule ∷ OutputRule ∷ MismatchRule ∷ ControlRule ∷ SecondRule ∷ DerivationRule ∷ CountRule ∷ MethodRule ∷ []

abbrev pub rule_of : ℕ → Rule
rule_of n = get_or rules n NameRule

pub known : (r : Rule) → rule_of (rule_number r) ≡ r
known r = grind arith

abbrev pub rule_count : ℕ
rule_count = length rules

pub few_rules : (r : Rule) → rule_number r < rule_count
few_rules r = grind arith

module _ (vars : List TypeVarContent) (formats : List InstructionFormat) (b : Builder) (n : ℕ) where
  -- one fault at most tells that a rule is broken
  pub one_broken : (rule : Rule) (e f : DefinitionError) → Breaks vars formats b n rule e → Breaks vars formats b n rule f → e ≡ f
  one_broken NameRule e f h g = h.0 ∙ sym g.0
  one_broken DuplicateRule e f h g = absurd h
  one_broken OutputRule e f h g = h.1 ∙ ap (BadOutput n) (same_Some h.0 g.0 (sym h.2 ∙ g.2)) ∙ sym g.1
  one_broken MismatchRule e f h g = h.0 ∙ sym g.0
  one_broken ControlRule e f h g = h.0 ∙ sym g.0
  one_broken SecondRule e f h g = h.0 ∙ sym g.0
  one_broken DerivationRule e f h g = h.1
      ∙ ap (BadDerivation n) (one_bad (sets_of vars) (instruction_of_builder vars formats b) h.0 g.0 h.2 g.2) ∙ sym g.1
  one_broken CountRule e f h g = h.1 ∙ ap (TooManyOperands n) (one_many _ _ h.0 g.0 h.2 g.2) ∙ sym g.1
  one_broken MethodRule e f h g = h.0 ∙ sym g.0

  -- a bad name is told of by the first rule alone
  pub first_rule : (rule : Rule) (p : Place) → Breaks vars formats b n rule (BadName p) → rule ≡ NameRule
  first_rule rule p h = grind (arith, h)

  -- and any other fault by a later one
  pub later : (rule : Rule) (e : DefinitionError) → Breaks vars formats b n rule e → ((p : Place) → e ≢ BadName p) → 0 < rule_number rule
  later rule e h other = grind (arith, h, other)

  pub searchable : IsSearchable rule_key (Breaks vars formats b n) 1 (λ part. 1) (λ part. rule_count)
  searchable = record {
    position_of = λ k. rule_of k.rule;
    known = known;
    one = one_broken;
    within = λ rule e h. record { part = omega arith; place = omega arith; rule = few_rules rule };
  }

  -- the first fault that an instruction shows is one
  pub one_own_first : (e f : DefinitionError) → IsFirstOwnFault vars formats b n e → IsFirstOwnFault vars formats b n f → e ≡ f
  one_own_first = first.one_first_shown searchable
