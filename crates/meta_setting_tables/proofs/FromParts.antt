-- Tables and their parts.
use Rattle.std.proofs.Common.{◌≡◌, ◌↔◌, ◌≤◌, ℕ, List, All, length, Bool, Result, Ok, Err, IfOk, IsTrue, sym, ◌∙◌, subst, arith}
use Rattle.std.specs.declared.alloc.AllocError.{AllocError}
use Rattle.meta_unique.specs.NameSlots.{AreNameSlots}
use Rattle.meta_setting_tables.specs.declared.descriptor.Descriptor.{Descriptor}
use Rattle.meta_setting_tables.specs.declared.parts.GroupParts.{GroupParts}
use Rattle.meta_setting_tables.specs.declared.shape.Shape.{Shape}
use Rattle.meta_setting_tables.specs.GroupTables.{GroupContents, names_in}
use Rattle.meta_setting_tables.specs.Shape.{IsShapeOf, HasSmallCounts}
use Rattle.meta_setting_tables.specs.Parts.{HasGroupParts, AreGoodParts}
use Rattle.meta_setting_tables.specs.WellFormed.{KeepLimits, AreWellNamed, ArePlaced, HasItsValues, AreGoodDefaults, AreGoodMasks}
use Rattle.meta_setting_tables.specs.WellFormed.{IsWellFormedGroup}
use Rattle.meta_setting_tables.proofs.Inside.{all_kinds}
use Rattle.meta_unique.proofs.OneFilling.{one_filling}

-- what is said of two things is said of what they are
pub of_both : {A B : Type 0} (P : A → B → Type 0) {a a' : A} {b b' : B} → a ≡ a' → b ≡ b' → P a b → P a' b'
of_both P {a} {a'} {b} {b'} e f p = subst (λ y. P a' y) f (subst (λ x. P x b) e p)

-- the counts of entries that keep the limits are small
pub small_shape : (entries : List Descriptor) (enumerators : List (List ℕ)) (shape : Shape) → length entries ≤ 65535
    → IsShapeOf entries shape → KeepLimits entries enumerators → HasSmallCounts shape
small_shape entries enumerators shape few is keep =
    let own = is.own_bytes in let booleans = is.booleans in let presets = is.presets in let bytes = is.bytes in
    let few_booleans = keep.few_booleans in let few_bytes = keep.few_bytes in let all = all_kinds entries in
    record {
      few_own_bytes = omega (arith, own, few_bytes);
      few_booleans = omega (arith, booleans, few_booleans);
      few_presets = omega (arith, presets, all, few);
      few_bytes = omega (arith, bytes, few_bytes);
    }

-- parts are good where all but the values of enums are and these are
pub good_where : (parts : GroupParts) (entries : List Descriptor) (enumerators : List (List ℕ))
    (defaults masks : List ℕ) (r : Result Bool AllocError) → entries ≡ parts.descriptors.items
    → enumerators ≡ parts.enumerators.items → defaults ≡ parts.defaults.items → masks ≡ parts.preset_masks.items
    → KeepLimits entries enumerators → ArePlaced entries → AreGoodDefaults entries defaults
    → AreGoodMasks entries masks → AreWellNamed parts.name entries enumerators
    → IfOk r (λ b. IsTrue b ↔ All (λ (d : Descriptor). HasItsValues enumerators d.detail) entries)
    → IfOk r (λ b. IsTrue b ↔ AreGoodParts parts)
good_where parts entries enumerators defaults masks (Err x) e f g h limits placed bytes turned names values = tt
good_where parts entries enumerators defaults masks (Ok b) e f g h limits placed bytes turned names values = (
  λ t. record {
    limits = of_both KeepLimits e f limits;
    names = of_both (AreWellNamed parts.name) e f names;
    placed = subst ArePlaced e placed;
    values = of_both (λ (xs : List (List ℕ)) (ds : List Descriptor). All
        (λ (d : Descriptor). HasItsValues xs d.detail) ds) f e (values.0 t);
    defaults = of_both AreGoodDefaults e g bytes;
    masks = of_both AreGoodMasks e h turned;
  },
  λ good. values.1 (of_both (λ (xs : List (List ℕ)) (ds : List Descriptor). All
      (λ (d : Descriptor). HasItsValues xs d.detail) ds) (sym f) (sym e) good.values),
)

-- the parts of well-formed tables are good
pub parts_good : (parts : GroupParts) (t : GroupContents) → IsWellFormedGroup t → HasGroupParts parts t → AreGoodParts parts
parts_good parts t w p = record {
  limits = of_both KeepLimits p.descriptors p.enumerators w.limits;
  names = subst (λ (name : List ℕ). AreWellNamed name parts.descriptors.items parts.enumerators.items) p.name
      (of_both (AreWellNamed t.name) p.descriptors p.enumerators w.names);
  placed = subst ArePlaced p.descriptors w.placed;
  values = of_both (λ (xs : List (List ℕ)) (ds : List Descriptor). All
      (λ (d : Descriptor). HasItsValues xs d.detail) ds) p.enumerators p.descriptors w.values;
  defaults = of_both AreGoodDefaults p.descriptors p.defaults w.defaults;
  masks = of_both AreGoodMasks p.descriptors p.preset_masks w.masks;
}

-- two well-formed tables that have the same parts are one
pub one_with_parts : (parts : GroupParts) (s t : GroupContents) → IsWellFormedGroup s → IsWellFormedGroup t
    → HasGroupParts parts s → HasGroupParts parts t → s ≡ t
one_with_parts parts s t v w p q =
    let name : s.name ≡ t.name = p.name ∙ sym q.name in
    let descriptors : s.descriptors ≡ t.descriptors = p.descriptors ∙ sym q.descriptors in
    let enumerators : s.enumerators ≡ t.enumerators = p.enumerators ∙ sym q.enumerators in
    let defaults : s.defaults ≡ t.defaults = p.defaults ∙ sym q.defaults in
    let masks : s.preset_masks ≡ t.preset_masks = p.preset_masks ∙ sym q.preset_masks in
    let slots : s.slots ≡ t.slots = one_filling 0 (names_in t.descriptors) s.slots t.slots
    (subst (λ (ds : List Descriptor). AreNameSlots 0 (names_in ds) s.slots) descriptors v.slots) w.slots in
    λ i. record {
      name = name i;
      descriptors = descriptors i;
      enumerators = enumerators i;
      defaults = defaults i;
      preset_masks = masks i;
      slots = slots i;
    }
