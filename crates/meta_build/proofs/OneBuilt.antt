-- What is built of declarations is one.
use Rattle.std.proofs.Common.{◌≡◌, ◌≢◌, ◌<◌, ◌↔◌, ◌⊎◌, inl, inr, ⊎_elim, ℕ, zero, suc, Bool, true, false, IsTrue, List, [], ◌∷◌, length}
use Rattle.std.proofs.Common.{map, slice_get, Option, None, Some, refl, sym, ap, ◌∙◌, subst, arith}
use Rattle.std.specs.Ordering.{nat_cmp, ordering_reverse}
use Rattle.std.specs.Cmp.Lexicographic.{slice_cmp}
use Rattle.std.specs.declared.cmp.Ordering.TheVariants.{Less, Greater}
use Rattle.std.proofs.lemmas.Bool.{false≢true}
use Rattle.std.proofs.lemmas.Cmp.{nat_list_cmp_total}
use Rattle.std.proofs.lemmas.Option.{same_Some}
use Rattle.meta_lists.proofs.Places.{get_there, same_places}
use Rattle.meta_typevar.specs.TypeSetParts.{TypeSetParts}
use Rattle.meta_typevar.specs.Registry.{sets_of, variable_at, IsRegistry}
use Rattle.meta_typevar.specs.declared.content.TypeVarContent.{TypeVarContent}
use Rattle.meta_typevar.proofs.Variables.{one_variable}
use Rattle.meta_operands.specs.declared.format.InstructionFormat.{InstructionFormat}
use Rattle.meta_inst.specs.Builder.{Builder}
use Rattle.meta_inst.specs.Built.{BuiltInstruction}
use Rattle.meta_inst.specs.Content.{content_of, control_kept, IsPolymorphicInfoOf}
use Rattle.meta_inst.specs.Instruction.{IsDesignated}
use Rattle.meta_inst.specs.InstructionSet.{InstructionSet, AreOfRegistries, instruction_of_builder}
use Rattle.meta_inst.specs.declared.polymorphic.PolymorphicInfo.{PolymorphicInfo}
use Rattle.meta_inst.proofs.OneControl.{same_control}
use Rattle.meta_settings.specs.LaidOut.{built_of}
use Rattle.meta_build.specs.AllDeclared.{Declared}
use Rattle.meta_build.specs.BuiltInstructions.{IsBuiltAt, AreInstructionsOf}
use Rattle.meta_build.specs.FormatsByName.{IsInUse, AreFormatsByName}
use Rattle.meta_build.specs.Needed.{ComesBefore, IsNeededBefore, AreSetsByNeed}
use Rattle.meta_build.specs.BuiltDeclarations.{BuiltDeclarations, AreBuilt}

-- ---- lists in a strict order

-- what stands at some place
abbrev Stands : {A : Type 0} → List A → A → Type 0
Stands xs a = (k : ℕ) × (slice_get xs k ≡ Some a)

module _ {A : Type 0} (R : A → A → Type 0) (strict : (a b : A) → R a b → R b a → ⊥) where
  -- what stands earlier comes before
  abbrev InOrder : List A → Type 0
  InOrder xs = (j k : ℕ) (a b : A) → j < k → slice_get xs j ≡ Some a → slice_get xs k ≡ Some b → R a b

  -- the first of the one is the first of the other
  same_first : (x y : A) (xs ys : List A) → InOrder (x ∷ xs) → InOrder (y ∷ ys) → (k : ℕ) → slice_get (y ∷ ys) k ≡ Some x → (j : ℕ)
      → slice_get (x ∷ xs) j ≡ Some y → x ≡ y
  same_first x y xs ys a b zero e j f = sym (same_Some y x e)
  same_first x y xs ys a b (suc k) e zero f = same_Some x y f
  same_first x y xs ys a b (suc k) e (suc j) f =
      absurd (strict x y (a zero (suc j) x y (omega arith) refl f) (b zero (suc k) y x (omega arith) refl e))

  -- what comes after the first of one list comes after the first of the other
  after : (x y a : A) (xs ys : List A) → x ≡ y → InOrder (x ∷ xs) → (j : ℕ) → slice_get xs j ≡ Some a → (k : ℕ)
      → slice_get (y ∷ ys) k ≡ Some a → Stands ys a
  after x y a xs ys same o j e zero f =
      let first : R x a = o zero (suc j) x a (omega arith) refl e in
      let twice : R a a = subst (λ (z : A). R z a) (same ∙ same_Some y a f) first in
      absurd (strict a a twice twice)
  after x y a xs ys same o j e (suc k) f = (k, f)

  later : (x : A) (xs : List A) → InOrder (x ∷ xs) → InOrder xs
  later x xs o j k a b l e f = o (suc j) (suc k) a b (omega arith) e f

  -- two such lists of the same elements are one
  pub one_order : (xs ys : List A) → InOrder xs → InOrder ys → ((a : A) (k : ℕ) → slice_get xs k ≡ Some a → Stands ys a)
      → ((a : A) (k : ℕ) → slice_get ys k ≡ Some a → Stands xs a) → xs ≡ ys
  one_order [] [] a b to from = refl
  one_order [] (y ∷ ys) a b to from = let h = from y zero refl in absurd (none h.0 y h.1)
    where
      none : (k : ℕ) (z : A) → slice_get [] k ≡ Some z → ⊥
      none k z e = cc
  one_order (x ∷ xs) [] a b to from = let h = to x zero refl in absurd (none h.0 x h.1)
    where
      none : (k : ℕ) (z : A) → slice_get [] k ≡ Some z → ⊥
      none k z e = cc
  one_order (x ∷ xs) (y ∷ ys) a b to from =
      let there = to x zero refl in
      let here = from y zero refl in
      let first = same_first x y xs ys a b there.0 there.1 here.0 here.1 in
      let rest = one_order xs ys (later x xs a) (later y ys b)
      (λ z k e. let h = to z (suc k) e in after x y z xs ys first a k e h.0 h.1)
      (λ z k e. let h = from z (suc k) e in after y x z ys xs (sym first) b k e h.0 h.1) in
      λ i. first i ∷ rest i

-- ---- the formats in use

-- the formats f and g of the table, of which f's name comes first
record ComesFirst (formats : List InstructionFormat) (f g : ℕ) : Type 0 where
  one : InstructionFormat
  other : InstructionFormat
  is_one : slice_get formats f ≡ Some one
  is_other : slice_get formats g ≡ Some other
  before : slice_cmp nat_cmp one.name other.name ≡ Less

less_strict : (a b : List ℕ) → slice_cmp nat_cmp a b ≡ Less → slice_cmp nat_cmp b a ≡ Less → ⊥
less_strict a b l m = less_greater (sym l ∙ nat_list_cmp_total.antisymm a b ∙ ap ordering_reverse m)
  where
    less_greater : Less ≡ Greater → ⊥
    less_greater e = cc

first_strict : (formats : List InstructionFormat) (f g : ℕ) → ComesFirst formats f g → ComesFirst formats g f → ⊥
first_strict formats f g a b =
    let one : a.one ≡ b.other = same_Some a.one b.other (sym a.is_one ∙ b.is_other) in
    let other : a.other ≡ b.one = same_Some a.other b.one (sym a.is_other ∙ b.is_one) in
    let names : slice_cmp nat_cmp a.other.name a.one.name ≡ slice_cmp nat_cmp b.one.name b.other.name =
    λ i. slice_cmp nat_cmp (other i).name (one i).name in
    less_strict a.one.name a.other.name a.before (names ∙ b.before)

module _ (d : InstructionSet) (fits : AreOfRegistries d.vars d.formats d.instructions) where
  -- a format in use is of the table
  of_table : (f : ℕ) → IsInUse d f → (format : InstructionFormat) × (slice_get d.formats f ≡ Some format)
  of_table f h = get_there d.formats f (subst (λ (g : ℕ). g < length d.formats) h.uses (fits h.place h.user h.at).format)

  in_order : (ids : List ℕ) → AreFormatsByName d ids → InOrder (ComesFirst d.formats) (first_strict d.formats) ids
  in_order ids h j k f g l at_j at_k =
      let (one, is_one) = of_table f (h.in_use j f at_j) in
      let (other, is_other) = of_table g (h.in_use k g at_k) in
      record {
        one = one;
        other = other;
        is_one = is_one;
        is_other = is_other;
        before = h.sorted j k f g l at_j at_k one other is_one is_other;
      }

  among : (ids others : List ℕ) → AreFormatsByName d ids → AreFormatsByName d others → (f k : ℕ) → slice_get ids k ≡ Some f
      → Stands others f
  among ids others h g f k at =
      let used = h.in_use k f at in
      subst (Stands others) used.uses (g.all used.place used.user used.at)

  pub one_formats : (ids others : List ℕ) → AreFormatsByName d ids → AreFormatsByName d others → ids ≡ others
  one_formats ids others h g = one_order (ComesFirst d.formats) (first_strict d.formats) ids others (in_order ids h) (in_order others g)
      (among ids others h g) (among others ids g h)

-- ---- the type sets

need_strict : (d : InstructionSet) (s t : TypeSetParts) → IsNeededBefore d s t → IsNeededBefore d t s → ⊥
need_strict d s t a b = both_before (a.first b.instruction b.place b.needs) (b.first a.instruction a.place a.needs)
  where
    both_before : ComesBefore a.instruction a.place b.instruction b.place → ComesBefore b.instruction b.place a.instruction a.place → ⊥
    both_before (inl l) (inl m) = omega (arith, l, m)
    both_before (inl l) (inr (e, m)) = omega (arith, l, e)
    both_before (inr (e, l)) (inl m) = omega (arith, e, m)
    both_before (inr (e, l)) (inr (f, m)) = omega (arith, l, m)

pub one_sets : (d : InstructionSet) (sets others : List TypeSetParts) → AreSetsByNeed d sets → AreSetsByNeed d others → sets ≡ others
one_sets d sets others h g = one_order (IsNeededBefore d) (need_strict d) sets others h.ordered g.ordered
    (λ s k at. g.are_needed.all s (h.are_needed.needed k s at))
    (λ s k at. h.are_needed.all s (g.are_needed.needed k s at))

-- ---- the instructions

same_mark : (a b : Bool) → (IsTrue a → IsTrue b) → (IsTrue b → IsTrue a) → a ≡ b
same_mark true true to from = refl
same_mark true false to from = sym (to refl)
same_mark false true to from = from refl
same_mark false false to from = refl

-- what is kept of the control
one_info : (vars : List TypeVarContent) (formats : List InstructionFormat) (b : Builder) → IsRegistry vars → (p q : Option PolymorphicInfo)
    → IsPolymorphicInfoOf vars formats b p → IsPolymorphicInfoOf vars formats b q → p ≡ q
one_info vars formats b registry p q h g =
    told p q h g (same_control (sets_of vars) (instruction_of_builder vars formats b) (control_kept vars p)
    (control_kept vars q) h.control g.control)
  where
    told : (p q : Option PolymorphicInfo) → IsPolymorphicInfoOf vars formats b p → IsPolymorphicInfoOf vars formats b q
        → control_kept vars p ≡ control_kept vars q → p ≡ q
    told None None h g e = refl
    told None (Some y) h g e = absurd (cc)
    told (Some x) None h g e = absurd (cc)
    told (Some x) (Some y) h g e =
        let one : x.ctrl_typevar ≡ y.ctrl_typevar =
        one_variable vars registry x.ctrl_typevar y.ctrl_typevar (h.of_registry x refl) (g.of_registry y refl) (same_Some _ _ e) in
        let second : x.second_typevar ≡ y.second_typevar = h.second x refl ∙ sym (g.second y refl) in
        let here = h.designated x refl in
        let there = g.designated y refl in
        let mark : x.use_typevar_operand ≡ y.use_typevar_operand = same_mark x.use_typevar_operand y.use_typevar_operand
        (λ t. there.1 (subst (λ (n : ℕ). IsDesignated (instruction_of_builder vars formats b) (variable_at vars n)) one (here.0 t)))
        (λ t. here.1 (subst (λ (n : ℕ). IsDesignated (instruction_of_builder vars formats b) (variable_at vars n)) (sym one) (there.0 t)))
        in
        λ i. Some (record { use_typevar_operand = mark i; ctrl_typevar = one i; second_typevar = second i })

one_at : (d : InstructionSet) (k : ℕ) (x y : BuiltInstruction) → IsRegistry d.vars → IsBuiltAt d k x → IsBuiltAt d k y → x ≡ y
one_at d k x y registry a b =
    let builder : a.builder ≡ b.builder = same_Some a.builder b.builder (sym a.at ∙ b.at) in
    let info : x.polymorphic_info ≡ y.polymorphic_info =
    one_info d.vars d.formats b.builder registry x.polymorphic_info y.polymorphic_info
    (subst (λ (u : Builder). IsPolymorphicInfoOf d.vars d.formats u x.polymorphic_info) builder a.is.control) b.is.control in
    let made : content_of d.formats a.builder x.polymorphic_info ≡ content_of d.formats b.builder y.polymorphic_info =
    λ i. content_of d.formats (builder i) (info i) in
    a.is.content ∙ made ∙ sym b.is.content

pub one_instructions : (d : InstructionSet) (xs ys : List BuiltInstruction) → IsRegistry d.vars → AreInstructionsOf d xs
    → AreInstructionsOf d ys → xs ≡ ys
one_instructions d xs ys registry h g = same_places xs ys (h.count ∙ sym g.count) (λ j l.
    let (x, at_x) = get_there xs j l in
    let (y, at_y) = get_there ys j (omega (arith, l, h.count, g.count)) in
    at_x ∙ ap Some (one_at d j x y registry (h.each j x at_x) (g.each j y at_y)) ∙ sym at_y)

-- ---- all of it

pub one_of_declared : (a b : BuiltDeclarations) → AreBuilt a → AreBuilt b → a.declared ≡ b.declared → a ≡ b
one_of_declared a b h g e =
    let instructions = one_instructions a.declared.set a.instructions b.instructions h.registry h.instructions
    (subst (λ (d : Declared). AreInstructionsOf d.set b.instructions) (sym e) g.instructions) in
    let formats = one_formats a.declared.set h.fits a.formats b.formats h.formats
    (subst (λ (d : Declared). AreFormatsByName d.set b.formats) (sym e) g.formats) in
    let groups = h.groups ∙ ap (λ (d : Declared). map built_of d.groups) e ∙ sym g.groups in
    let sets = one_sets a.declared.set a.type_sets b.type_sets h.type_sets
    (subst (λ (d : Declared). AreSetsByNeed d.set b.type_sets) (sym e) g.type_sets) in
    λ i. record { declared = e i; instructions = instructions i; formats = formats i; groups = groups i; type_sets = sets i }
