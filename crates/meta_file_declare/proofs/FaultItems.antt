-- The first fault of what items declare has its item.
use Rattle.std.proofs.Common.{◌≡◌, ◌<◌, ⊎_elim, ℕ, zero, suc, ◌+◌, ◌-◌, ◌==◌, Bool, false, List, [], ◌∷◌, Some, None, length}
use Rattle.std.proofs.Common.{slice_get, refl, sym, ap, ◌∙◌, subst, arith}
use Rattle.std.specs.Prelude.{option_and_then, if◌then◌else◌}
use Rattle.std.specs.List.{AllZip}
use Rattle.std.proofs.lemmas.Bool.{ne_eqb}
use Rattle.std.proofs.lemmas.Option.{slice_get_within, same_Some}
use Rattle.std.proofs.lemmas.Slice.Zip.{AllZip-long}
use Rattle.meta_lists.proofs.Places.{get_there}
use Rattle.meta_lists.proofs.Mapped.{get_mapped}
use Rattle.meta_types.specs.declared.fault.Place.{Place}
use Rattle.meta_types.specs.declared.fault.Place.TheVariants.{Instruction, Format, Group, Entry}
use Rattle.meta_types.specs.declared.fault.DefinitionError.{DefinitionError}
use Rattle.meta_types.specs.declared.fault.DefinitionError.TheVariants.{TooManyOpcodes, TooManyTypeSets}
use Rattle.meta_operands.specs.declared.format.InstructionFormat.{InstructionFormat}
use Rattle.meta_inst.specs.Builder.{Builder}
use Rattle.meta_inst.specs.InstructionFaults.{Rule, NameRule, DuplicateRule, OutputRule, MismatchRule, ControlRule, SecondRule}
use Rattle.meta_inst.specs.InstructionFaults.{DerivationRule}
use Rattle.meta_inst.specs.InstructionFaults.{CountRule, MethodRule, Breaks}
use Rattle.meta_inst.specs.Faults.{Position, OfOpcodes, OfInstruction, OfFormat, OfTypeSets, FormatRule, FormatNameRule, BlocksRule}
use Rattle.meta_inst.specs.Faults.{ClashRule}
use Rattle.meta_inst.specs.Faults.{FormatBreaks, SharesNameAt, HasTooManyTypeSets, HasFaultAt}
use Rattle.meta_settings.specs.GroupDeclaration.{GroupDeclaration, Entry as AnEntry, entries_of}
use Rattle.meta_settings.specs.GroupFaults.{EntryRule, EntryNameRule, EntryDuplicateRule, EnumRule, PresetRule, GroupPosition, OfGroupName}
use Rattle.meta_settings.specs.GroupFaults.{OfEntry, OfCounts, BreaksRule, GroupHasFaultAt}
use Rattle.meta_build.specs.AllDeclared.{Declared, HasFirstFault}
use Rattle.meta_file_syntax.specs.declared.items.Item.{Item}
use Rattle.meta_file_declare.specs.Registered.{IsFormatIn, IsBuilderIn}
use Rattle.meta_file_declare.specs.SaidOfInsts.{said}
use Rattle.meta_file_declare.specs.Held.{meant_formats}
use Rattle.meta_file_declare.specs.Places.{is_inst, is_format, places_of, place_of_inst, item_of_place, named_by}
use Rattle.meta_file_declare.specs.AllItems.{registry_of, Declares}
use Rattle.meta_file_declare.specs.Faults.{DeclaresInst, DeclaresFormat, DeclaresAt, HasItsItem}
use Rattle.meta_file_declare.proofs.NthPlaces.{nth_is}
use Rattle.meta_file_declare.proofs.OpenedEntries.{group_declared, entry_declared}
use Rattle.meta_file_declare.proofs.SetItems.{IsInstAt, IsFormatAt, all_insts, all_formats}

-- ---- what a fault names is there

-- something stands at the place of the declarations
abbrev IsThere : Declared → Place → Type 0
IsThere d (Instruction i) = (n : ℕ) × (i ≡ n + 1) × (b : Builder) × (slice_get d.set.instructions n ≡ Some b)
IsThere d (Format f) = (x : InstructionFormat) × (slice_get d.set.formats f ≡ Some x)
IsThere d (Group g) = (x : GroupDeclaration) × (slice_get d.groups g ≡ Some x)
IsThere d (Entry g e) = (x : GroupDeclaration) × (slice_get d.groups g ≡ Some x) × (y : AnEntry) × (slice_get (entries_of x) e ≡ Some y)

record Names (d : Declared) (e : DefinitionError) : Type 0 where
  pub place : Place
  pub named : named_by (length d.set.instructions) e ≡ Some place
  pub there : IsThere d place

-- by an equation that tells the fault
names : (d : Declared) (e f : DefinitionError) (p : Place) → e ≡ f → named_by (length d.set.instructions) f ≡ Some p → IsThere d p
    → Names d e
names d e f p is named there = record {
  place = p;
  named = ap (named_by (length d.set.instructions)) is ∙ named;
  there = there;
}

module _ (d : Declared) (e : DefinitionError) where
  -- an instruction breaks a rule by itself
  inst_breaks : (k : ℕ) (b : Builder) (rule : Rule) → slice_get d.set.instructions k ≡ Some b
      → Breaks d.set.vars d.set.formats b (k + 1) rule e → Names d e
  inst_breaks k b NameRule at h = names d e _ (Instruction (k + 1)) h.0 refl (k, refl, b, at)
  inst_breaks k b DuplicateRule at h = absurd h
  inst_breaks k b OutputRule at h = names d e _ (Instruction (k + 1)) h.1 refl (k, refl, b, at)
  inst_breaks k b MismatchRule at h = names d e _ (Instruction (k + 1)) h.0 refl (k, refl, b, at)
  inst_breaks k b ControlRule at h = names d e _ (Instruction (k + 1)) h.0 refl (k, refl, b, at)
  inst_breaks k b SecondRule at h = names d e _ (Instruction (k + 1)) h.0 refl (k, refl, b, at)
  inst_breaks k b DerivationRule at h = names d e _ (Instruction (k + 1)) h.1 refl (k, refl, b, at)
  inst_breaks k b CountRule at h = names d e _ (Instruction (k + 1)) h.1 refl (k, refl, b, at)
  inst_breaks k b MethodRule at h = names d e _ (Instruction (k + 1)) h.0 refl (k, refl, b, at)

  -- it shares its name with an earlier one
  inst_shares : (k : ℕ) (rule : Rule) → SharesNameAt d.set k rule e → Names d e
  inst_shares k rule h =
      let named = get_mapped (λ (b : Builder). b.name) d.set.instructions k h.duplicate.name h.duplicate.is_name in
      names d e _ (Instruction (k + 1)) h.tells refl (k, refl, named.0, named.1)

  format_breaks : (k f : ℕ) (rule : FormatRule) → FormatBreaks d.set k f rule e → Names d e
  format_breaks k f FormatNameRule h = names d e _ (Format f) h.0 refl (h.1.0, h.1.1)
  format_breaks k f BlocksRule h = names d e _ (Format f) h.0 refl (h.1.0, h.1.1)
  format_breaks k f ClashRule h = names d e _ (Format f) h.1 refl (h.2.clashes.0, h.2.clashes.2)

  entry_breaks : (g k : ℕ) (group : GroupDeclaration) (x : AnEntry) (rule : EntryRule) → slice_get d.groups g ≡ Some group
      → slice_get (entries_of group) k ≡ Some x → BreaksRule group g k x rule e → Names d e
  entry_breaks g k group x EntryNameRule at has h = names d e _ (Entry g k) h.0 refl (group, at, x, has)
  entry_breaks g k group x EntryDuplicateRule at has h = names d e _ (Entry g k) h.1 refl (group, at, x, has)
  entry_breaks g k group x EnumRule at has h = names d e _ (Entry g k) h.0 refl (group, at, x, has)
  entry_breaks g k group x PresetRule at has h = names d e _ (Entry g k) h.0 refl (group, at, x, has)

  group_shows : (g : ℕ) (group : GroupDeclaration) (p : GroupPosition) → slice_get d.groups g ≡ Some group → GroupHasFaultAt group g p e
      → Names d e
  group_shows g group OfGroupName at h = names d e _ (Group g) h.0 refl (group, at)
  group_shows g group (OfEntry k rule) at h = entry_breaks g k group h.0 rule at h.1 h.2
  group_shows g group OfCounts at h = names d e _ (Group g) h.0 refl (group, at)

  -- there are too many instructions: the first that is one too many
  too_many : e ≡ TooManyOpcodes (length d.set.instructions) → 4095 < length d.set.instructions → Names d e
  too_many is l = let there = get_there d.set.instructions 4095 l in names d e _ (Instruction 4096) is refl (4095, refl, there.0, there.1)

  -- or too many sets: the last instruction
  too_many_sets : (count : ℕ) → e ≡ TooManyTypeSets count → HasTooManyTypeSets d.set count → Names d e
  too_many_sets count is h =
      let first = get_there h.0 0 (omega (arith, h.2, h.3)) in
      let needs = h.1.needed 0 first.0 first.1 in
      let some = slice_get_within d.set.instructions needs.0 needs.1.user needs.1.at in
      let last = get_there d.set.instructions (length d.set.instructions - 1) (omega (arith, some)) in
      names d e _ (Instruction (length d.set.instructions)) is refl
      (length d.set.instructions - 1, omega (arith, some), last.0, last.1)

  set_shows : (p : Position) → HasFaultAt d.set p e → Names d e
  set_shows OfOpcodes h = too_many h.0 h.1
  set_shows (OfInstruction k rule) h = ⊎_elim (λ b. inst_breaks k b.builder rule b.at b.breaks) (λ s. inst_shares k rule s) h
  set_shows (OfFormat k rule) h = format_breaks k h.format rule h.breaks
  set_shows OfTypeSets h = too_many_sets h.0 h.1 h.2

  shows : HasFirstFault d e → Names d e
  shows h = ⊎_elim (λ s. set_shows s.position s.shows) (λ g. group_shows g.1.place g.1.group g.1.first.position g.1.at g.1.first.shows) h

-- ---- and an item declares it

-- what stands beside it
beside : {X Y : Type 0} (R : X → Y → Type 0) (xs : List X) (ys : List Y) (n : ℕ) (y : Y) → AllZip R xs ys → slice_get ys n ≡ Some y
    → (x : X) × (slice_get xs n ≡ Some x) × R x y
beside R [] [] n y h at = absurd (cc)
beside R [] (z ∷ ys) n y h at = absurd h
beside R (x ∷ xs) [] n y h at = absurd h
beside R (x ∷ xs) (z ∷ ys) zero y h at = (x, refl, subst (λ w. R x w) (same_Some z y at) h.0)
beside R (x ∷ xs) (z ∷ ys) (suc n) y h at = beside R xs ys n y h.1 at

-- instructions count from 1
inst_place : (items : List Item) (n : ℕ) → place_of_inst items (n + 1) ≡ slice_get (places_of is_inst items) n
inst_place items n =
    let some : (n + 1 == 0) ≡ false = ne_eqb (n + 1) 0 (λ e. omega (arith, e)) in
    let less : n + 1 - 1 ≡ n = omega arith in
    ap (λ (b : Bool). if b then None else slice_get (places_of is_inst items) (n + 1 - 1)) some
    ∙ ap (slice_get (places_of is_inst items)) less

module _ (items : List Item) (d : Declared) (declares : Declares items d) where
  inst_item : (n : ℕ) (b : Builder) → slice_get d.set.instructions n ≡ Some b
      → (k : ℕ) × (slice_get (places_of is_inst items) n ≡ Some k) × DeclaresInst items d.set k n
  inst_item n b at =
      let meant = beside (IsBuilderIn (registry_of items d.set))
      (said items).insts.insts d.set.instructions n b declares.set.instructions at in
      let place = beside (IsInstAt items) (places_of is_inst items) (said items).insts.insts n meant.0
      (all_insts items declares.right) meant.1 in (
        place.0,
        place.1,
        record {
          inst = place.2.inst;
          meant = meant.0;
          declared = b;
          at = place.2.at;
          above = (nth_is is_inst items n place.0 place.1).above;
          says = place.2.says;
          stands = at;
          is = meant.2;
        },
      )

  format_item : (n : ℕ) (f : InstructionFormat) → slice_get d.set.formats n ≡ Some f
      → (k : ℕ) × (slice_get (places_of is_format items) n ≡ Some k) × DeclaresFormat items d.set k n
  format_item n f at =
      let formats = meant_formats (said items).insts.formats in
      let meant = beside (IsFormatIn (registry_of items d.set)) formats d.set.formats n f declares.set.formats at in
      let place = beside (IsFormatAt items) (places_of is_format items) formats n meant.0 (all_formats items declares.right) meant.1 in (
        place.0,
        place.1,
        record {
          format = place.2.format;
          meant = meant.0;
          declared = f;
          at = place.2.at;
          above = (nth_is is_format items n place.0 place.1).above;
          says = place.2.says;
          stands = at;
          is = meant.2;
        },
      )

  pub item_there : (p : Place) → IsThere d p → (k : ℕ) × (item_of_place items p ≡ Some k) × DeclaresAt items d k p
  item_there (Instruction i) h =
      let found = inst_item h.0 h.2 h.3 in
      (found.0, ap (place_of_inst items) h.1 ∙ inst_place items h.0 ∙ found.1, (h.0, h.1, found.2))
  item_there (Format f) h = format_item f h.0 h.1
  item_there (Group g) h = group_declared items d.groups g h.0 declares.groups h.1
  item_there (Entry g e) h = entry_declared items d.groups g e h.0 h.2 declares.groups h.1 h.3

  -- as many items are instructions as are declared
  insts_count : length (places_of is_inst items) ≡ length d.set.instructions
  insts_count =
      sym (AllZip-long (IsInstAt items) (places_of is_inst items) (said items).insts.insts (all_insts items declares.right))
      ∙ sym (AllZip-long (IsBuilderIn (registry_of items d.set)) (said items).insts.insts d.set.instructions declares.set.instructions)

pub fault_has_item : (items : List Item) (d : Declared) (e : DefinitionError) → Declares items d → HasFirstFault d e → HasItsItem items d e
fault_has_item items d e h s =
    let it = shows d e s in
    let found = item_there items d h it.place it.there in
    record {
      place = found.0;
      named = it.place;
      item = ap (λ (n : ℕ). option_and_then (item_of_place items) (named_by n e)) (insts_count items d h)
          ∙ ap (option_and_then (item_of_place items)) it.named ∙ found.1;
      names = it.named;
      declares = found.2;
    }
