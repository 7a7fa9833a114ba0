-- The first fault, if one instruction shows it: by a rule that it breaks by itself, or by a name that it shares.
use Rattle.std.proofs.Common.{◌≡◌, ◌≢◌, ◌<◌, ◌+◌, inl, inr, ℕ, slice_get, Result, Ok, Err, IfOk, OnOk, IfErr, refl, sym, ap, ◌∙◌, subst}
use Rattle.std.proofs.Common.{arith}
use Rattle.std.specs.Result.{result_and}
use Rattle.std.proofs.lemmas.Option.{same_Some}
use Rattle.meta_lists.proofs.Results.{on_ok}
use Rattle.meta_types.specs.declared.fault.Place.{Place}
use Rattle.meta_types.specs.declared.fault.Place.TheVariants.{Instruction as AtInstruction}
use Rattle.meta_types.specs.declared.fault.DefinitionError.{DefinitionError}
use Rattle.meta_types.specs.declared.fault.DefinitionError.TheVariants.{BadName, DuplicateName, OutOfMemory}
use Rattle.meta_types.specs.SharedNames.{IsDuplicate}
use Rattle.meta_types.specs.FirstFault.{key_at, HasNoneBefore}
use Rattle.meta_types.proofs.FirstFault.{next_place, some_rules}
use Rattle.meta_inst.specs.Builder.{Builder}
use Rattle.meta_inst.specs.Built.{BuiltInstruction}
use Rattle.meta_inst.specs.InstructionSet.{InstructionSet}
use Rattle.meta_inst.specs.InstructionFaults.{Rule, NameRule, DuplicateRule, rule_number, Breaks, IsFirstOwnFault, IsWellMade}
use Rattle.meta_inst.specs.Faults.{IsAt, names_of, Position, OfOpcodes, OfInstruction, OfFormat, OfTypeSets, position_key, HasFaultAt}
use Rattle.meta_inst.specs.Faults.{IsFirstFault}
use Rattle.meta_inst.proofs.OneOwnFault.{rule_count, first_rule, later}
use Rattle.meta_inst.specs.Content.{content_of, IsPolymorphicInfoOf}
use Rattle.meta_build.specs.BuiltInstructions.{IsBuiltAt}
use Rattle.meta_build.specs.Searched.{IsCleanBefore, IsRefusedFirst, IsUnshared, IsSharedName}
use Rattle.meta_build.proofs.OneFault.{searchable}

module _ (d : InstructionSet) (k : ℕ) (b : Builder) (at : IsAt d k b) (clean : IsCleanBefore d (OfInstruction k NameRule)) where
  -- the first rules are kept where the instruction keeps them by itself, and its name, if it is among them
  first_rules : (n : ℕ) → ((rule : Rule) (e : DefinitionError) → rule_number rule < n → Breaks d.vars d.formats b (k + 1) rule e → ⊥)
      → (1 < n → (j : ℕ) → IsDuplicate (names_of d) k j → ⊥) → HasNoneBefore position_key (HasFaultAt d) (key_at 1 k n)
  first_rules n own unshared = some_rules (searchable d) 1 k n clean never
    where
      here : (i : ℕ) (rule : Rule) (e : DefinitionError) → i ≡ k → rule_number rule < n → HasFaultAt d (OfInstruction i rule) e → ⊥
      here i rule e is l (inl s) = own rule e l (subst (λ m. Breaks d.vars d.formats b (m + 1) rule e) is
          (subst (λ (x : Builder). Breaks d.vars d.formats x (i + 1) rule e) (same_Some s.builder b (sym s.at
          ∙ ap (slice_get d.instructions) is ∙ at)) s.breaks))
      here i rule e is l (inr s) =
          let second = ap rule_number s.second in
          unshared (omega (arith, l, second)) s.earlier (subst (λ m. IsDuplicate (names_of d) m s.earlier) is s.duplicate)

      never : (p : Position) (e : DefinitionError) → (position_key p).part ≡ 1 → (position_key p).place ≡ k → (position_key p).rule < n
          → HasFaultAt d p e → ⊥
      never OfOpcodes e part place l s = omega (arith, part)
      never (OfInstruction i rule) e part place l s = here i rule e place l s
      never (OfFormat i rule) e part place l s = omega (arith, part)
      never OfTypeSets e part place l s = omega (arith, part)

  -- the first fault of its own is the first, where no name is shared before it
  first_own : (e : DefinitionError) (h : IsFirstOwnFault d.vars d.formats b (k + 1) e)
      → (1 < rule_number h.position → (j : ℕ) → IsDuplicate (names_of d) k j → ⊥) → IsFirstFault d e
  first_own e h unshared = record {
    position = OfInstruction k h.position;
    shows = inl (record { builder = b; at = at; breaks = h.shows });
    first = first_rules (rule_number h.position) (λ rule f l s. h.first rule f (inr (refl, inr (refl, l))) s) unshared;
  }

  -- where it has a name, and shares it, that is the first fault
  shared_first : ((rule : Rule) (f : DefinitionError) → rule_number rule < 1 → Breaks d.vars d.formats b (k + 1) rule f → ⊥) → (j : ℕ)
      → IsDuplicate (names_of d) k j → IsFirstFault d (DuplicateName (AtInstruction (k + 1)) (j + 1))
  shared_first named j duplicate = record {
    position = OfInstruction k DuplicateRule;
    shows = inr (record { second = refl; earlier = j; duplicate = duplicate; tells = refl });
    first = first_rules 1 named (λ l. absurd (omega (arith, l)));
  }

  -- a bad name is looked for first
  bad_name_first : (p : Place) → IsFirstOwnFault d.vars d.formats b (k + 1) (BadName p) → IsFirstFault d (BadName p)
  bad_name_first p h = first_own (BadName p) h (λ l. let is = ap rule_number (first_rule d.vars d.formats b (k + 1) h.position p h.shows)
      in absurd (omega (arith, l, is)))

  -- building was refused by what comes first
  pub refused_first : (built : Result BuiltInstruction DefinitionError)
      → IfErr built (λ e. e ≢ OutOfMemory → IsFirstOwnFault d.vars d.formats b (k + 1) e) → IsRefusedFirst built
      → IfErr built (λ e. e ≢ OutOfMemory → IsFirstFault d e)
  refused_first (Ok c) refused first = tt
  refused_first (Err e) refused (inl (p, is)) = λ other. let same : e ≡ BadName p = cc
      in subst (IsFirstFault d) (sym same) (bad_name_first p (subst (IsFirstOwnFault d.vars d.formats b (k + 1)) same (refused other)))
  refused_first (Err e) refused (inr is) = λ other. let same : e ≡ OutOfMemory = cc in absurd (other same)

  -- it wasn't, and no name is shared: what is said of the instruction itself is all
  module _ (unshared : (j : ℕ) → IsDuplicate (names_of d) k j → ⊥) where
    pub clean_told : (built : Result BuiltInstruction DefinitionError) → OnOk built (IsWellMade d.vars d.formats b)
        → OnOk built (IsCleanBefore d (OfInstruction (k + 1) NameRule))
    clean_told (Ok c) well = next_place (searchable d) 1 k (first_rules rule_count (λ rule e l s. well (k + 1) rule e s) (λ l. unshared))
    clean_told (Err e) well = tt

    pub refused_told : (built : Result BuiltInstruction DefinitionError)
        → IfErr built (λ e. e ≢ OutOfMemory → IsFirstOwnFault d.vars d.formats b (k + 1) e)
        → IfErr built (λ e. e ≢ OutOfMemory → IsFirstFault d e)
    refused_told (Ok c) refused = tt
    refused_told (Err e) refused = λ other. first_own e (refused other) (λ l. unshared)

  -- its name is shared: that is the first fault, unless building was refused by what comes first
  pub shared_told : (built : Result BuiltInstruction DefinitionError)
      → IfErr built (λ e. e ≢ OutOfMemory → IsFirstOwnFault d.vars d.formats b (k + 1) e) → OnOk built (IsWellMade d.vars d.formats b)
      → (IsRefusedFirst built → ⊥)
      → (j : ℕ) → IsDuplicate (names_of d) k j → IsFirstFault d (DuplicateName (AtInstruction (k + 1)) (j + 1))
  shared_told (Ok c) refused well after = shared_first (λ rule f l s. well (k + 1) rule f s)
  shared_told (Err e) refused well after =
      let first = refused (λ s. after (inr (ap Err s))) in
      let later = later d.vars d.formats b (k + 1) first.position e first.shows (λ p is. after (inl (p, ap Err is))) in
      shared_first (λ rule f l s. first.first rule f (inr (refl, inr (refl, omega (arith, l, later)))) s)

  -- its name was added, if it could be, after it was built
  pub added_clean : (added : Result (Unit {0}) DefinitionError) (built r : Result BuiltInstruction DefinitionError)
      → r ≡ result_and added built → OnOk added (IsUnshared d k) → OnOk built (IsWellMade d.vars d.formats b)
      → OnOk r (IsCleanBefore d (OfInstruction (k + 1) NameRule))
  added_clean (Ok u) built r is unshared well =
      subst (λ (s : Result BuiltInstruction DefinitionError). OnOk s (IsCleanBefore d (OfInstruction (k + 1) NameRule))) (sym is)
      (clean_told unshared built well)
  added_clean (Err e) built r is unshared well =
      subst (λ (s : Result BuiltInstruction DefinitionError). OnOk s (IsCleanBefore d (OfInstruction (k + 1) NameRule))) (sym is) tt

  pub added_refused : (added : Result (Unit {0}) DefinitionError) (built r : Result BuiltInstruction DefinitionError)
      → r ≡ result_and added built → OnOk added (IsUnshared d k) → IfErr added (λ e. e ≢ OutOfMemory → IsSharedName d k e)
      → IfErr built (λ e. e ≢ OutOfMemory → IsFirstOwnFault d.vars d.formats b (k + 1) e) → OnOk built (IsWellMade d.vars d.formats b)
      → (IsRefusedFirst built → ⊥) → IfErr r (λ e. e ≢ OutOfMemory → IsFirstFault d e)
  added_refused (Ok u) built r is unshared shares refused well after =
      subst (λ (s : Result BuiltInstruction DefinitionError). IfErr s (λ e. e ≢ OutOfMemory → IsFirstFault d e)) (sym is)
      (refused_told unshared built refused)
  added_refused (Err e) built r is unshared shares refused well after =
      subst (λ (s : Result BuiltInstruction DefinitionError). IfErr s (λ e. e ≢ OutOfMemory → IsFirstFault d e)) (sym is) (λ other.
      let shared = shares other in
      subst (IsFirstFault d) (sym shared.tells) (shared_told built refused well after shared.earlier shared.duplicate))

module _ (d : InstructionSet) (k : ℕ) (b : Builder) (at : IsAt d k b) where
  -- what is built of it
  pub built_told : (built : Result BuiltInstruction DefinitionError) → IfOk built (λ c. c ≡ content_of d.formats b c.polymorphic_info)
      → IfOk built (λ c. IsPolymorphicInfoOf d.vars d.formats b c.polymorphic_info) → IfOk built (IsBuiltAt d k)
  built_told (Ok c) content control = record { builder = b; at = at; is = record { content = content; control = control } }
  built_told (Err e) content control = tt

-- what is refused first isn't built
pub refused_on : (built : Result BuiltInstruction DefinitionError) (P : Type 0) → IsRefusedFirst built → OnOk built P
refused_on built P (inl (p, is)) = subst (λ r. OnOk r P) (sym is) tt
refused_on built P (inr is) = subst (λ r. OnOk r P) (sym is) tt

pub refused_if : (built : Result BuiltInstruction DefinitionError) (P : BuiltInstruction → Type 0) → IsRefusedFirst built → IfOk built P
refused_if built P (inl (p, is)) = subst (λ r. IfOk r P) (sym is) tt
refused_if built P (inr is) = subst (λ r. IfOk r P) (sym is) tt

-- after two steps both have succeeded
pub both_on : (one : Result (Unit {0}) DefinitionError) (other r : Result BuiltInstruction DefinitionError) (P : Type 0)
    → r ≡ result_and one other → OnOk one P → OnOk r P
both_on (Ok x) other r P is h = on_ok r h
both_on (Err e) other r P is h = subst (λ (s : Result BuiltInstruction DefinitionError). OnOk s P) (sym is) tt

pub both_if : (one : Result (Unit {0}) DefinitionError) (other r : Result BuiltInstruction DefinitionError) (P : BuiltInstruction → Type 0)
    → r ≡ result_and one other → IfOk other P → IfOk r P
both_if (Ok x) other r P is h = subst (λ (s : Result BuiltInstruction DefinitionError). IfOk s P) (sym is) h
both_if (Err e) other r P is h = subst (λ (s : Result BuiltInstruction DefinitionError). IfOk s P) (sym is) tt
