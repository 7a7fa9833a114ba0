-- What tables say that a preset turns on is what the group means.
use Rattle.std.proofs.Common.{◌≡◌, ℕ, zero, suc, ◌+◌, ◌-◌, ◌*◌, ◌/◌, ◌%◌, ◌<◌, ◌≤◌, ◌==◌, eqb, ⊎_elim, Bool, true, false, not, cond, ◌||◌}
use Rattle.std.proofs.Common.{List, [], ◌∷◌, length, map, take, drop, filter, slice_get, get_or, Some, refl, sym, ap, ap₂, ◌∙◌, subst}
use Rattle.std.proofs.Common.{eq-eqb, eqb-true, arith}
use Rattle.std.specs.Prelude.{Contains, if◌then◌else◌}
use Rattle.std.specs.Int.{bit_at}
use Rattle.std.proofs.lemmas.Bool.{cond-false}
use Rattle.std.proofs.lemmas.Option.{slice_get_within, slice_get-get_or, get_or_from_slice_get, same_Some}
use Rattle.meta_lists.proofs.Places.{get_cases, get_there, get_take, get_drop}
use Rattle.meta_settings.specs.declared.proto.ProtoSpecificSetting.{ProtoSpecificSetting}
use Rattle.meta_settings.specs.declared.proto.ProtoSpecificSetting.TheVariants.{Bool as DeclaredBool, Enum as DeclaredEnum}
use Rattle.meta_settings.specs.declared.proto.ProtoSpecificSetting.TheVariants.{Num as DeclaredNum}
use Rattle.meta_settings.specs.declared.setting.BoolSetting.{BoolSetting}
use Rattle.meta_settings.specs.declared.setting.SpecificSetting.{SpecificSetting}
use Rattle.meta_settings.specs.declared.setting.SpecificSetting.TheVariants.{Bool as ABool, Enum as AnEnum, Num as ANum}
use Rattle.meta_settings.specs.GroupDeclaration.{SettingDeclaration, GroupDeclaration, is_bool_specific, has_own_byte, booleans_among}
use Rattle.meta_settings.specs.GroupDeclaration.{others_among, start_of}
use Rattle.meta_settings.specs.LaidOut.{placed_specific, in_bytes, in_bits, laid_out, built_of}
use Rattle.meta_settings.specs.Layout.{PlacedSetting, BuiltPreset, Layout}
use Rattle.meta_settings.specs.Marked.{stands_in}
use Rattle.meta_settings.specs.PresetLayout.{HasBitsOf}
use Rattle.meta_setting_tables.specs.declared.descriptor.Detail.{Detail}
use Rattle.meta_setting_tables.specs.declared.descriptor.Descriptor.{Descriptor}
use Rattle.meta_setting_tables.specs.Descriptor.{IsDetailOf}
use Rattle.meta_setting_tables.specs.EntryValues.{is_on, masks_from, names_on, is_one_of, names_enabled}
use Rattle.meta_setting_tables.specs.GroupTables.{GroupContents, AreTablesOfGroup}

-- ---- truth values and numbers

-- what is true under the same condition is the same
same_truth : (a b : Bool) → (a ≡ true → b ≡ true) → (b ≡ true → a ≡ true) → a ≡ b
same_truth true true f g = refl
same_truth true false f g = sym (f refl)
same_truth false true f g = g refl
same_truth false false f g = refl

-- a digit that says whether something is true tells it back
pub default_back : (default : Bool) (bit : ℕ) → bit ≡ (if default then 1 else 0) → (bit == 1) ≡ default
default_back true bit e = ap (λ n. n == 1) e
default_back false bit e = ap (λ n. n == 1) e

stands_from_get : (n : ℕ) (numbers : List ℕ) (k : ℕ) → slice_get numbers k ≡ Some n → stands_in n numbers ≡ true
stands_from_get n [] k e = absurd (cc)
stands_from_get n (m ∷ numbers) zero e = let same : m ≡ n = same_Some m n e in ap (λ b. b || stands_in n numbers) (eq-eqb m n same)
stands_from_get n (m ∷ numbers) (suc k) e = ap (λ b. eqb m n || b) (stands_from_get n numbers k e) ∙ either (eqb m n)
  where
    either : (b : Bool) → (b || true) ≡ true
    either true = refl
    either false = refl

-- what is among numbers stands in them
stands : (n : ℕ) (numbers : List ℕ) → Contains numbers n → stands_in n numbers ≡ true
stands n numbers (k, within, is) = stands_from_get n numbers k (slice_get-get_or numbers k n within ∙ ap (λ m. Some m) is)

get_from_stands : (n : ℕ) (numbers : List ℕ) → stands_in n numbers ≡ true → (k : ℕ) × (slice_get numbers k ≡ Some n)
get_from_stands n [] e = absurd (cc)
get_from_stands n (m ∷ numbers) e = go (eqb m n) refl e (get_from_stands n numbers)
  where
    go : (b : Bool) → eqb m n ≡ b → (b || stands_in n numbers) ≡ true
        → (stands_in n numbers ≡ true → (k : ℕ) × (slice_get numbers k ≡ Some n)) → (k : ℕ) × (slice_get (m ∷ numbers) k ≡ Some n)
    go true t e more = (0, ap (λ x. Some x) (eqb-true m n t))
    go false t e more = let r = more e in (suc r.0, r.1)

-- what stands in numbers is among them
contained : (n : ℕ) (numbers : List ℕ) → stands_in n numbers ≡ true → Contains numbers n
contained n numbers e = let r = get_from_stands n numbers e
    in (r.0, slice_get_within numbers r.0 n r.1, get_or_from_slice_get numbers r.0 n n r.1)

-- ---- where booleans stand

-- the place that a boolean of this number has, after this many bytes
pub record HasItsPlace (start : ℕ) (s : PlacedSetting) (b : BoolSetting) : Type 0 where
  pub byte : s.byte_offset ≡ start + b.predicate_number / 8
  pub bit : b.bit_offset ≡ b.predicate_number % 8

module _ (b : BoolSetting) where
  -- among enums and numbers is no boolean
  no_boolean : (k : ℕ) (x : ProtoSpecificSetting) → not (is_bool_specific x) ≡ true → placed_specific k x ≡ ABool b → ⊥
  no_boolean k (DeclaredBool default) other e = absurd (cc)
  no_boolean k (DeclaredEnum values) other e = (cc)
  no_boolean k (DeclaredNum default) other e = (cc)

  in_bytes_none : (byte : ℕ) (ss : List SettingDeclaration) (k : ℕ) (s : PlacedSetting)
      → slice_get (in_bytes byte (others_among ss)) k ≡ Some s → s.specific ≡ ABool b → ⊥
  in_bytes_none byte [] k s e is = (cc)
  in_bytes_none byte (x ∷ ss) k s e is = go (has_own_byte x) refl byte k e (λ byte i e. in_bytes_none byte ss i s e is)
    where
      go : (own : Bool) → has_own_byte x ≡ own → (byte k : ℕ)
          → slice_get (in_bytes byte (cond own (x ∷ others_among ss) (others_among ss))) k ≡ Some s
          → ((byte i : ℕ) → slice_get (in_bytes byte (others_among ss)) i ≡ Some s → ⊥) → ⊥
      go true own byte zero e below = no_boolean 0 x.specific own (ap (λ s. s.specific) (same_Some _ s e) ∙ is)
      go true own byte (suc k) e below = below (byte + 1) k e
      go false own byte k e below = below byte k e

  in_its_place : (start k : ℕ) (x : SettingDeclaration) (s : PlacedSetting)
      → record {
        name = x.name;
        description = x.description;
        comment = x.comment;
        specific = placed_specific k x.specific;
        byte_offset = start + k / 8;
      } ≡ s → s.specific ≡ ABool b → HasItsPlace start s b
  in_its_place start k x s e is = of_specific x.specific (ap (λ s. s.specific) e ∙ is) (sym (ap (λ s. s.byte_offset) e))
    where
      of_specific : (p : ProtoSpecificSetting) → placed_specific k p ≡ ABool b → s.byte_offset ≡ start + k / 8 → HasItsPlace start s b
      of_specific (DeclaredBool default) is byte =
          let number : b.predicate_number ≡ k = cc in
          let bit : b.bit_offset ≡ k % 8 = cc in
          record { byte = byte ∙ sym (ap (λ n. start + n / 8) number); bit = bit ∙ sym (ap (λ n. n % 8) number) }
      of_specific (DeclaredEnum values) is byte = absurd (cc)
      of_specific (DeclaredNum default) is byte = absurd (cc)

  in_bits_placed : (start k : ℕ) (ss : List SettingDeclaration) (i : ℕ) (s : PlacedSetting) → slice_get (in_bits start k ss) i ≡ Some s
      → s.specific ≡ ABool b → HasItsPlace start s b
  in_bits_placed start k [] i s e is = absurd (cc)
  in_bits_placed start k (x ∷ ss) zero s e is = in_its_place start k x s (same_Some _ s e) is
  in_bits_placed start k (x ∷ ss) (suc i) s e is = in_bits_placed start (k + 1) ss i s e is

-- each boolean of a group has its place
pub in_place : (g : GroupDeclaration) (k : ℕ) (s : PlacedSetting) (b : BoolSetting) → slice_get (laid_out g) k ≡ Some s
    → s.specific ≡ ABool b → HasItsPlace (start_of g) s b
in_place g k s b e is = ⊎_elim
    (λ h. absurd (in_bytes_none b 0 g.settings k s h is))
    (λ h. in_bits_placed b (start_of g) 0 (booleans_among g.settings) h.0 s h.2 is)
    (get_cases (in_bytes 0 (others_among g.settings)) (in_bits (start_of g) 0 (booleans_among g.settings)) k s e)

-- ---- what is on

-- the descriptor has the name of the setting, and both are among those that are looked for, or neither
pub record AreNamedAlike (looked_for : Descriptor → Bool)
    (is_named : PlacedSetting → Bool) (s : PlacedSetting) (d : Descriptor) : Type 0 where
  pub name : d.name ≡ s.name
  pub same : looked_for d ≡ is_named s

module _ (looked_for : Descriptor → Bool) (is_named : PlacedSetting → Bool) where
  -- the same names are found among settings and their descriptors, and later descriptors aren't looked at
  same_names : (ss : List PlacedSetting) (ds : List Descriptor) → ((k : ℕ) (s : PlacedSetting) (d : Descriptor) → slice_get ss k ≡ Some s
      → slice_get ds k ≡ Some d → AreNamedAlike looked_for is_named s d) → length ss ≤ length ds
      → ((k : ℕ) (d : Descriptor) → length ss ≤ k → slice_get ds k ≡ Some d → looked_for d ≡ false)
      → map (λ (d : Descriptor). d.name) (filter looked_for ds) ≡ map (λ (s : PlacedSetting). s.name) (filter is_named ss)
  same_names [] [] alike few after = refl
  same_names [] (d ∷ ds) alike few after =
      ap (map (λ (d : Descriptor). d.name)) (cond-false (looked_for d) _ _ (after 0 d (omega arith) refl))
      ∙ same_names [] ds (λ k s d at. absurd (cc)) (omega arith) (λ k d past. after (suc k) d (omega arith))
  same_names (s ∷ ss) [] alike few after = absurd (omega (arith, few))
  same_names (s ∷ ss) (d ∷ ds) alike few after =
      let h = alike 0 s d refl refl in
      let rest = same_names ss ds (λ k s d. alike (suc k) s d) (omega (arith, few)) (λ k d past. after (suc k) d (omega (arith, past))) in
      ap (λ c. map (λ (d : Descriptor). d.name) (cond c (d ∷ filter looked_for ds) (filter looked_for ds))) h.same
      ∙ go (is_named s) h.name rest
    where
      go : (b : Bool) → d.name ≡ s.name → map (λ (d : Descriptor). d.name) (filter looked_for ds)
          ≡ map (λ (s : PlacedSetting). s.name) (filter is_named ss)
          → map (λ (d : Descriptor). d.name) (cond b (d ∷ filter looked_for ds) (filter looked_for ds))
          ≡ map (λ (s : PlacedSetting). s.name) (cond b (s ∷ filter is_named ss) (filter is_named ss))
      go true name rest = ap₂ ◌∷◌ name rest
      go false name rest = rest

module _ (g : GroupDeclaration) (t : GroupContents) (made : AreTablesOfGroup (built_of g) t) where
  abbrev layout : Layout
  layout = built_of g

  -- the masks of preset k
  abbrev masks : ℕ → List ℕ
  masks k = masks_from (length t.defaults) t.preset_masks (k * layout.settings_size)

  -- a boolean is on in the mask of a preset exactly where the preset turns it on
  module _ (k : ℕ) (p : BuiltPreset) (at : slice_get layout.presets k ≡ Some p) (s : PlacedSetting) (b : BoolSetting)
      (placed : HasItsPlace layout.bool_start_byte_offset s b) (within : s.byte_offset < layout.settings_size) where
    abbrev place : ℕ
    place = k * layout.settings_size + s.byte_offset

    abbrev mask : ℕ
    mask = get_or (masks k) s.byte_offset 0

    inside : place < length t.preset_masks
    inside =
        let size : length t.preset_masks ≡ length layout.presets * layout.settings_size = made.masks.size in
        let less : k < length layout.presets = slice_get_within layout.presets k p at in
        below k (length layout.presets) layout.settings_size s.byte_offset (length t.preset_masks) less within size
      where
        below : (k n size byte all : ℕ) → k < n → byte < size → all ≡ n * size → k * size + byte < all
        below k n size byte all l w e = search (arith)

    there : slice_get t.preset_masks place ≡ Some mask
    there =
        let m = get_there t.preset_masks place inside in
        let size = made.defaults.size in
        let here : slice_get (masks k) s.byte_offset ≡ Some m.0 =
        get_take (drop (k * layout.settings_size) t.preset_masks) (length t.defaults) s.byte_offset (omega (arith, within, size))
        ∙ get_drop t.preset_masks (k * layout.settings_size) s.byte_offset ∙ m.1 in
        m.1 ∙ ap Some (sym (get_or_from_slice_get (masks k) s.byte_offset m.0 0 here))

    has_bits : HasBitsOf layout.bool_start_byte_offset p.booleans s.byte_offset mask
    has_bits = made.masks.bits k s.byte_offset mask p at within there

    bit_small : b.bit_offset < 8
    bit_small = let e = placed.bit in omega (arith, e)

    on : bit_at mask b.bit_offset ≡ 1 → stands_in b.predicate_number p.booleans ≡ true
    on e =
        let h = (has_bits.bits b.bit_offset bit_small).0 e in
        let byte = h.byte_is in
        let bit = h.bit_is in
        let own_byte = placed.byte in
        let own_bit = placed.bit in
        let same : h.boolean ≡ b.predicate_number = omega (arith, byte, bit, own_byte, own_bit) in
        stands b.predicate_number p.booleans (subst (Contains p.booleans) same h.is_on)

    off : stands_in b.predicate_number p.booleans ≡ true → bit_at mask b.bit_offset ≡ 1
    off e =
        (has_bits.bits b.bit_offset bit_small).1 (record {
          boolean = b.predicate_number;
          is_on = contained b.predicate_number p.booleans e;
          byte_is = placed.byte;
          bit_is = placed.bit;
        })

    same_on : (bit_at mask b.bit_offset == 1) ≡ stands_in b.predicate_number p.booleans
    same_on = same_truth _ _ (λ e. on (eqb-true (bit_at mask b.bit_offset) 1 e)) (λ e. eq-eqb (bit_at mask b.bit_offset) 1 (off e))

  -- a descriptor of a setting is on where the preset turns the setting on
  module _ (k : ℕ) (p : BuiltPreset) (at : slice_get layout.presets k ≡ Some p) where
    abbrev is_turned : Descriptor → Bool
    is_turned d = is_on (masks k) d.offset d.detail

    abbrev is_enabled : PlacedSetting → Bool
    is_enabled s = is_one_of p.booleans s.specific

    same_enabled : (before : List PlacedSetting) (s : PlacedSetting) (specific : SpecificSetting) (detail : Detail) → s.specific ≡ specific
        → IsDetailOf t.enumerators before specific detail
        → ((b : BoolSetting) → s.specific ≡ ABool b → HasItsPlace layout.bool_start_byte_offset s b) → s.byte_offset < layout.settings_size
        → is_on (masks k) s.byte_offset detail ≡ is_one_of p.booleans specific
    same_enabled before s (ABool b) detail e is placed within = ap (is_on (masks k) s.byte_offset) is
        ∙ same_on k p at s b (placed b e) within
    same_enabled before s (AnEnum values) detail e is placed within = ap (is_on (masks k) s.byte_offset) is.is
    same_enabled before s (ANum default) detail e is placed within = ap (is_on (masks k) s.byte_offset) is

    pub alike : (j : ℕ) (s : PlacedSetting) (d : Descriptor) → slice_get layout.settings j ≡ Some s → slice_get t.descriptors j ≡ Some d
        → AreNamedAlike is_turned is_enabled s d
    alike j s d s_at d_at =
        let says = (made.entries j d d_at).setting s s_at in
        let held = made.defaults.hold j s s_at in
        let byte = slice_get_within t.defaults s.byte_offset held.byte held.there in
        let size = made.defaults.size in
        record {
          name = says.name;
          same = ap (λ offset. is_on (masks k) offset d.detail) says.offset
              ∙ same_enabled (take j layout.settings) s s.specific d.detail refl says.detail (λ b is. in_place g j s b s_at is)
              (omega (arith, byte, size));
        }

    -- after the settings come presets, which aren't booleans
    none_after : (j : ℕ) (d : Descriptor) → length layout.settings ≤ j → slice_get t.descriptors j ≡ Some d → is_turned d ≡ false
    none_after j d past d_at =
        let within = slice_get_within t.descriptors j d d_at in
        let count = made.count in
        let n = j - length layout.settings in
        let after : j ≡ length layout.settings + n = omega (arith, past) in
        let q = get_there layout.presets n (omega (arith, within, count, after)) in
        ap (λ (x : Descriptor). is_on (masks k) x.offset x.detail) ((made.entries j d d_at).preset n q.0 after q.1)

    -- the names of the booleans that are on in the masks of a preset are those that the preset turns on
    pub same_enabled_names : names_on t.descriptors (masks k) ≡ names_enabled layout p
    same_enabled_names = let count = made.count
        in same_names is_turned is_enabled layout.settings t.descriptors alike (omega (arith, count)) none_after
