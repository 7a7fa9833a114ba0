use Rattle.std.proofs.Common.{◌≡◌, ◌<◌, ◌≤◌, ⊎_elim, ℕ, List, length, ◌∙◌, sym, ap, subst, arith}
use Rattle.std.proofs.lemmas.Bool.{false≢true}
use Rattle.meta_setting_tables.specs.declared.descriptor.Descriptor.{Descriptor}
use Rattle.meta_setting_tables.specs.declared.parts.GroupParts.{GroupParts}
use Rattle.meta_setting_tables.specs.declared.shape.Shape.{Shape}
use Rattle.meta_setting_tables.specs.Shape.{IsShapeOf}
use Rattle.meta_setting_tables.specs.WellFormed.{KeepLimits, AreWellNamed, ArePlaced, AreGoodDefaults, AreGoodMasks}
use Rattle.meta_setting_tables.proofs.FromParts.{of_both, small_shape, good_where}
use Rattle.meta_setting_tables.proofs.parts.are_good.Goals as goal

-- entries past the limit
too_many : (parts : GroupParts) (entries : List Descriptor) → entries ≡ parts.descriptors.items → 65535 < length entries
    → KeepLimits parts.descriptors.items parts.enumerators.items → ⊥
too_many parts entries e many limits = let few = limits.few_entries in omega (arith, few, many, ap length e)

-- counts within the limits
kept : (entries : List Descriptor) (enumerators : List (List ℕ)) (shape : Shape) → length entries ≤ 65535 → IsShapeOf entries shape
    → shape.booleans ≤ 248 → shape.bytes ≤ 255 → length enumerators ≤ 65535 → KeepLimits entries enumerators
kept entries enumerators shape few is booleans bytes values =
    let same_booleans = is.booleans in let same_bytes = is.bytes in
    record {
      few_entries = few;
      few_booleans = omega (arith, booleans, same_booleans);
      few_bytes = omega (arith, bytes, same_bytes);
      few_enumerators = values;
    }

pub are_placed-requires-clause-small : goal.are_placed-requires-clause-small
are_placed-requires-clause-small c =
    let limits : KeepLimits c.as_slice-entries.result.now c.as_slice-enumerators.result.now =
    kept c.as_slice-entries.result.now c.as_slice-enumerators.result.now c.of-shape.result c.if-entries-gt-MAX_ENTRIES.false
    c.of-shape.ensures
    c.if-shape-gt-MAX_BOOLEANS.false c.if-shape-gt-MAX_BYTES.false c.if-enumerators-gt-MAX_ENUMERATORS.false in
    small_shape c.as_slice-entries.result.now c.as_slice-enumerators.result.now c.of-shape.result
    c.if-entries-gt-MAX_ENTRIES.false c.of-shape.ensures limits

pub are_good_defaults-requires-clause-small : goal.are_good_defaults-requires-clause-small
are_good_defaults-requires-clause-small c =
    let limits : KeepLimits c.as_slice-entries.result.now c.as_slice-enumerators.result.now =
    kept c.as_slice-entries.result.now c.as_slice-enumerators.result.now c.of-shape.result c.if-entries-gt-MAX_ENTRIES.false
    c.of-shape.ensures
    c.if-shape-gt-MAX_BOOLEANS.false c.if-shape-gt-MAX_BYTES.false c.if-enumerators-gt-MAX_ENUMERATORS.false in
    small_shape c.as_slice-entries.result.now c.as_slice-enumerators.result.now c.of-shape.result
    c.if-entries-gt-MAX_ENTRIES.false c.of-shape.ensures limits

pub are_good_masks-requires-clause-small : goal.are_good_masks-requires-clause-small
are_good_masks-requires-clause-small c =
    let limits : KeepLimits c.as_slice-entries.result.now c.as_slice-enumerators.result.now =
    kept c.as_slice-entries.result.now c.as_slice-enumerators.result.now c.of-shape.result c.if-entries-gt-MAX_ENTRIES.false
    c.of-shape.ensures
    c.if-shape-gt-MAX_BOOLEANS.false c.if-shape-gt-MAX_BYTES.false c.if-enumerators-gt-MAX_ENUMERATORS.false in
    small_shape c.as_slice-entries.result.now c.as_slice-enumerators.result.now c.of-shape.result
    c.if-entries-gt-MAX_ENTRIES.false c.of-shape.ensures limits

pub returns : goal.returns
returns c =
    let limits : KeepLimits c.as_slice-entries.result.now c.as_slice-enumerators.result.now =
    kept c.as_slice-entries.result.now c.as_slice-enumerators.result.now c.of-shape.result c.if-entries-gt-MAX_ENTRIES.false
    c.of-shape.ensures
    c.if-shape-gt-MAX_BOOLEANS.false c.if-shape-gt-MAX_BYTES.false c.if-enumerators-gt-MAX_ENUMERATORS.false in
    good_where c.args.parts.now c.as_slice-entries.result.now c.as_slice-enumerators.result.now c.as_slice.result.now
    c.as_slice-2.result.now c.have_their_values.result c.as_slice-entries.ensures.value
    c.as_slice-enumerators.ensures.value c.as_slice.ensures.value c.as_slice-2.ensures.value
    limits (c.are_placed.ensures.0 c.if-not-are_placed.false)
    (c.are_good_defaults.ensures.0 c.if-not-are_good_defaults.false) (c.are_good_masks.ensures.0 c.if-not-are_good_masks.false)
    (c.in_ok-are_well_named.ensures.0 c.if-not-branch.false) c.have_their_values.ensures

-- ---- what isn't so shows that the parts aren't good

pub returns-then-entries-gt-MAX_ENTRIES : goal.returns-then-entries-gt-MAX_ENTRIES
returns-then-entries-gt-MAX_ENTRIES c = (
  λ t. absurd (false≢true t),
  λ good. absurd
      (too_many c.args.parts.now c.as_slice-entries.result.now c.as_slice-entries.ensures.value c.if-entries-gt-MAX_ENTRIES.true
      good.limits),
)

pub returns-then-shape-gt-MAX_BOOLEANS : goal.returns-then-shape-gt-MAX_BOOLEANS
returns-then-shape-gt-MAX_BOOLEANS c = (
  λ t. absurd (false≢true t),
  λ good.
      let limits = of_both KeepLimits (sym c.as_slice-entries.ensures.value) (sym c.as_slice-enumerators.ensures.value) good.limits in
      let few_booleans = limits.few_booleans in let few_bytes = limits.few_bytes in let few_values = limits.few_enumerators in
      let booleans = c.of-shape.ensures.booleans in let bytes = c.of-shape.ensures.bytes in
      ⊎_elim (λ m. absurd (omega (arith, m, few_booleans, booleans))) (⊎_elim (λ m. absurd (omega (arith, m.1, few_bytes, bytes)))
      (λ m. absurd (omega (arith, m.2, few_values)))) c.then-shape-gt-MAX_BOOLEANS.either,
)

pub returns-then-not-are_placed : goal.returns-then-not-are_placed
returns-then-not-are_placed c = (
  λ t. absurd (false≢true t),
  λ good. absurd (false≢true (sym c.if-not-are_placed.true ∙ c.are_placed.ensures.1 (subst ArePlaced
      (sym c.as_slice-entries.ensures.value) good.placed))),
)

pub returns-then-not-are_good_defaults : goal.returns-then-not-are_good_defaults
returns-then-not-are_good_defaults c = (
  λ t. absurd (false≢true t),
  λ good. absurd (false≢true (sym c.if-not-are_good_defaults.true ∙ c.are_good_defaults.ensures.1 (of_both AreGoodDefaults
      (sym c.as_slice-entries.ensures.value) (sym c.as_slice.ensures.value) good.defaults))),
)

pub returns-then-not-are_good_masks : goal.returns-then-not-are_good_masks
returns-then-not-are_good_masks c = (
  λ t. absurd (false≢true t),
  λ good. absurd (false≢true (sym c.if-not-are_good_masks.true ∙ c.are_good_masks.ensures.1 (of_both AreGoodMasks
      (sym c.as_slice-entries.ensures.value) (sym c.as_slice-2.ensures.value) good.masks))),
)

pub returns-then-not-branch : goal.returns-then-not-branch
returns-then-not-branch c = (
  λ t. absurd (false≢true t),
  λ good. absurd (false≢true (sym c.if-not-branch.true ∙ c.in_ok-are_well_named.ensures.1 (of_both
      (AreWellNamed c.args.parts.now.name) (sym c.as_slice-entries.ensures.value)
      (sym c.as_slice-enumerators.ensures.value) good.names))),
)
