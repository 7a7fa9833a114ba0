-- What is told of the counts of entries is told of the entries.
use Rattle.std.proofs.Common.{◌≡◌, ◌↔◌, ◌+◌, ◌*◌, ◌/◌, ◌%◌, ◌<◌, ◌≤◌, ℕ, List, All, length, slice_get, Some, true, sym, ap, ◌∙◌, subst}
use Rattle.std.proofs.Common.{arith}
use Rattle.std.specs.Prelude.{nat_lt}
use Rattle.std.proofs.Math.Nat.{mod-lt}
use Rattle.std.proofs.lemmas.Bool.Decides.{Decides-ltb}
use Rattle.std.proofs.lemmas.Nat.{mod-mul-add}
use Rattle.meta_setting_tables.specs.declared.descriptor.Detail.{Detail}
use Rattle.meta_setting_tables.specs.declared.descriptor.Descriptor.{Descriptor}
use Rattle.meta_setting_tables.specs.declared.shape.Shape.{Shape}
use Rattle.meta_setting_tables.specs.Shape.{IsShapeOf}
use Rattle.meta_setting_tables.specs.WellFormed.{own_byte_count, described_boolean_count, preset_count, described_byte_count, IsPlaced}
use Rattle.meta_setting_tables.specs.WellFormed.{IsBooleanBit, HoldsBooleansAlone, HasFirstValue, AreGoodDefaults, AreGoodMasks}

-- a number that is given by a count
place_as : {o o' b b' s s' : ℕ} → o ≡ o' → b ≡ b' → s ≡ s' → (e offset : ℕ) (detail : Detail) → IsPlaced o b s e offset detail
    → IsPlaced o' b' s' e offset detail
place_as {o} {o'} {b} {b'} {s} {s'} p q r e offset detail h =
    subst (λ n. IsPlaced o' b' n e offset detail) r
    (subst (λ n. IsPlaced o' n s e offset detail) q (subst (λ n. IsPlaced n b s e offset detail) p h))

alone_as : {o o' b b' : ℕ} → o ≡ o' → b ≡ b' → (byte m : ℕ) → HoldsBooleansAlone o b byte m → HoldsBooleansAlone o' b' byte m
alone_as {o} {o'} {b} {b'} p q byte m h = subst (λ n. HoldsBooleansAlone o' n byte m) q (subst (λ n. HoldsBooleansAlone n b byte m) p h)

module _ (entries : List Descriptor) (shape : Shape) (is : IsShapeOf entries shape) where
  pub place_counted : (e offset : ℕ) (detail : Detail) → IsPlaced shape.own_bytes shape.booleans shape.bytes e offset detail
      ↔ IsPlaced (own_byte_count entries) (described_boolean_count entries) (described_byte_count entries) e offset detail
  place_counted e offset detail = (
    place_as is.own_bytes is.booleans is.bytes e offset detail,
    place_as (sym is.own_bytes) (sym is.booleans) (sym is.bytes) e offset detail,
  )

  pub alone_counted : (byte m : ℕ) → HoldsBooleansAlone shape.own_bytes shape.booleans byte m
      ↔ HoldsBooleansAlone (own_byte_count entries) (described_boolean_count entries) byte m
  alone_counted byte m = (alone_as is.own_bytes is.booleans byte m, alone_as (sym is.own_bytes) (sym is.booleans) byte m)

-- a bit after the bytes of the enums and numbers is a boolean's if its number is below their count
pub boolean_bit : (own booleans byte bit after : ℕ) → byte ≡ own + after → bit < 8
    → (nat_lt (after * 8 + bit) booleans ≡ true) ↔ IsBooleanBit own booleans byte bit
boolean_bit own booleans byte bit after e low = (
  λ t. let below = (Decides-ltb (after * 8 + bit) booleans).0 t
      in record {
        number = after * 8 + bit;
        within = below;
        place = record { byte_is = omega (arith, e, low); bit_is = omega (arith, low) };
      },
  λ h. let within = h.within in let byte_is = h.place.byte_is in let bit_is = h.place.bit_is
      in (Decides-ltb (after * 8 + bit) booleans).1 (omega (arith, e, within, byte_is, bit_is)),
)

-- mask i is that of byte i % size
pub mask_part : (own booleans size i m : ℕ) (masks : List ℕ) → 0 < size → slice_get masks i ≡ Some m
    → ((k byte n : ℕ) → byte < size → slice_get masks (k * size + byte) ≡ Some n → HoldsBooleansAlone own booleans byte n)
    → HoldsBooleansAlone own booleans (i % size) m
mask_part own booleans size i m masks some at h = h (i / size) (i % size) m (mod-lt i some) (ap (slice_get masks) (omega arith) ∙ at)

pub mask_whole : (own booleans size : ℕ) (masks : List ℕ)
    → ((i m : ℕ) → slice_get masks i ≡ Some m → HoldsBooleansAlone own booleans (i % size) m) → (k byte m : ℕ) → byte < size
    → slice_get masks (k * size + byte) ≡ Some m → HoldsBooleansAlone own booleans byte m
mask_whole own booleans size masks h k byte m l at =
    subst (λ n. HoldsBooleansAlone own booleans n m) (mod-mul-add k size byte l) (h (k * size + byte) m at)

-- masks by the counts
pub masks_counted : (entries : List Descriptor) (shape : Shape) (is : IsShapeOf entries shape) (masks : List ℕ)
    → length masks ≡ shape.presets * shape.bytes
    → ((k byte m : ℕ) → byte < shape.bytes → slice_get masks (k * shape.bytes + byte) ≡ Some m
    → HoldsBooleansAlone shape.own_bytes shape.booleans byte m) ↔ AreGoodMasks entries masks
masks_counted entries shape is masks long = (
  λ h. record {
    count = long ∙ ap (λ n. n * shape.bytes) is.presets ∙ ap (λ n. preset_count entries * n) is.bytes;
    booleans = λ k byte m l at. (alone_counted entries shape is byte m).0
        (h k byte m (subst (λ n. byte < n) (sym is.bytes) l) (ap (λ n. slice_get masks (k * n + byte)) is.bytes ∙ at));
  },
  λ good k byte m l at. (alone_counted entries shape is byte m).1
      (good.booleans k byte m (subst (λ n. byte < n) is.bytes l) (ap (λ n. slice_get masks (k * n + byte)) (sym is.bytes) ∙ at)),
)

-- default bytes by the counts
pub defaults_counted : (entries : List Descriptor) (shape : Shape) (is : IsShapeOf entries shape) (defaults : List ℕ)
    → length defaults ≡ shape.bytes → All (λ b. b < 256) defaults
    → All (λ (d : Descriptor). HasFirstValue defaults d.offset d.detail) entries
    → ((byte b : ℕ) → shape.own_bytes ≤ byte → slice_get defaults byte ≡ Some b → HoldsBooleansAlone shape.own_bytes shape.booleans byte b)
    ↔ AreGoodDefaults entries defaults
defaults_counted entries shape is defaults long fit first = (
  λ h. record {
    count = long ∙ is.bytes;
    bytes = fit;
    enums = first;
    booleans = λ byte b l at. (alone_counted entries shape is byte b).0 (h byte b (subst (λ n. n ≤ byte) (sym is.own_bytes) l) at);
  },
  λ good byte b l at. (alone_counted entries shape is byte b).1 (good.booleans byte b (subst (λ n. n ≤ byte) is.own_bytes l) at),
)
