-- The items that are settings of a group, in the order in which the group is laid out.
use Rattle.std.proofs.Common.{◌≡◌, ℕ, zero, suc, ◌+◌, ◌/◌, Bool, true, false, cond, List, [], ◌∷◌, Option, Some, None}
use Rattle.std.proofs.Common.{length, slice_get, refl, sym, ap, ◌∙◌, ⊎_elim, arith}
use Rattle.std.specs.List.{filter, filter_map, cons_option}
use Rattle.meta_lists.proofs.Places.{get_stays, get_right, get_cases}
use Rattle.meta_file_syntax.specs.declared.name.Name.{Name}
use Rattle.meta_file_syntax.specs.declared.items.Item.{Item}
use Rattle.meta_file_syntax.specs.declared.items.Item.TheVariants as item
use Rattle.meta_settings.specs.GroupDeclaration.{SettingDeclaration, has_own_byte, start_of}
use Rattle.meta_settings.specs.GroupDeclaration as declared
use Rattle.meta_settings.specs.Layout.{PlacedSetting}
use Rattle.meta_settings.specs.LaidOut.{placed_at, in_bytes, in_bits, laid_out}
use Rattle.meta_settings.proofs.Placing.{length-in_bytes}
use Rattle.meta_file_declare.specs.Places.{is_valued, is_bool, places_from, places_of, laid_places}
use Rattle.meta_file_declare.specs.Said.{setting_of, group_with}

-- ---- the items whose settings pass a test

abbrev passes : (SettingDeclaration → Bool) → Option SettingDeclaration → Bool
passes t None = false
passes t (Some d) = t d

valued_passes : (i : Item) → is_valued i ≡ passes has_own_byte (setting_of i)
valued_passes (item.Group n) = refl
valued_passes (item.Type i) = refl
valued_passes (item.Alias i) = refl
valued_passes (item.Kind i) = refl
valued_passes (item.Format i) = refl
valued_passes (item.Inst i) = refl
valued_passes (item.Bool i) = refl
valued_passes (item.Num i) = refl
valued_passes (item.Enum i) = refl
valued_passes (item.Preset i) = refl

bool_passes : (i : Item) → is_bool i ≡ passes declared.is_bool (setting_of i)
bool_passes (item.Group n) = refl
bool_passes (item.Type i) = refl
bool_passes (item.Alias i) = refl
bool_passes (item.Kind i) = refl
bool_passes (item.Format i) = refl
bool_passes (item.Inst i) = refl
bool_passes (item.Bool i) = refl
bool_passes (item.Num i) = refl
bool_passes (item.Enum i) = refl
bool_passes (item.Preset i) = refl

-- the n-th of them, where the first item stands at place s
record IsPassing (is : Item → Bool) (s : ℕ) (items : List Item) (n : ℕ) (d : SettingDeclaration) : Type 0 where
  pub after : ℕ
  pub item : Item
  pub place : slice_get (places_from is s items) n ≡ Some (s + after)
  pub at : slice_get items after ≡ Some item
  pub says : setting_of item ≡ Some d

module _ (is : Item → Bool) (t : SettingDeclaration → Bool) (same : (i : Item) → is i ≡ passes t (setting_of i)) where
  abbrev kept : List Item → List SettingDeclaration
  kept items = filter t (filter_map setting_of items)

  -- the places, by the setting of the first item
  places_by : (s : ℕ) (i : Item) (items : List Item) (o : Option SettingDeclaration) → setting_of i ≡ o
      → places_from is s (i ∷ items) ≡ cond (passes t o) (s ∷ places_from is (s + 1) items) (places_from is (s + 1) items)
  places_by s i items o e =
      ap (λ (b : Bool). cond b (s ∷ places_from is (s + 1) items) (places_from is (s + 1) items)) (same i ∙ ap (passes t) e)

  places_if : (s : ℕ) (i : Item) (items : List Item) (d : SettingDeclaration) (b : Bool) → setting_of i ≡ Some d → t d ≡ b
      → places_from is s (i ∷ items) ≡ cond b (s ∷ places_from is (s + 1) items) (places_from is (s + 1) items)
  places_if s i items d b e p =
      places_by s i items (Some d) e
      ∙ ap (λ (c : Bool). cond c (s ∷ places_from is (s + 1) items) (places_from is (s + 1) items)) p

  later : (s : ℕ) (i : Item) (items : List Item) (n m : ℕ) (d : SettingDeclaration) → IsPassing is (s + 1) items n d
      → slice_get (places_from is s (i ∷ items)) m ≡ slice_get (places_from is (s + 1) items) n → IsPassing is s (i ∷ items) m d
  later s i items n m d h e =
      let next : (s + 1) + h.after ≡ s + suc h.after = omega arith in
      record {
        after = suc h.after;
        item = h.item;
        place = e ∙ h.place ∙ ap (λ (k : ℕ). Some k) next;
        at = h.at;
        says = h.says;
      }

  if_step : (s : ℕ) (i : Item) (items : List Item) (d x : SettingDeclaration) (b : Bool) (n : ℕ) → setting_of i ≡ Some x → t x ≡ b
      → ((m : ℕ) → slice_get (kept items) m ≡ Some d → IsPassing is (s + 1) items m d)
      → slice_get (cond b (x ∷ kept items) (kept items)) n ≡ Some d → IsPassing is s (i ∷ items) n d
  if_step s i items d x false n e p rest h =
      later s i items n n d (rest n h) (ap (λ (ks : List ℕ). slice_get ks n) (places_if s i items x false e p))
  if_step s i items d x true zero e p rest h =
      let here : s ≡ s + 0 = omega arith in
      record {
        after = 0;
        item = i;
        place = ap (λ (ks : List ℕ). slice_get ks 0) (places_if s i items x true e p) ∙ ap (λ (k : ℕ). Some k) here;
        at = refl;
        says = e ∙ h;
      }
  if_step s i items d x true (suc m) e p rest h =
      later s i items m (suc m) d (rest m h) (ap (λ (ks : List ℕ). slice_get ks (suc m)) (places_if s i items x true e p))

  step : (s : ℕ) (i : Item) (items : List Item) (d : SettingDeclaration) (o : Option SettingDeclaration) (n : ℕ) → setting_of i ≡ o
      → ((m : ℕ) → slice_get (kept items) m ≡ Some d → IsPassing is (s + 1) items m d)
      → slice_get (filter t (cons_option o (filter_map setting_of items))) n ≡ Some d → IsPassing is s (i ∷ items) n d
  step s i items d None n e rest h =
      later s i items n n d (rest n h) (ap (λ (ks : List ℕ). slice_get ks n) (places_by s i items None e))
  step s i items d (Some x) n e rest h = if_step s i items d x (t x) n e refl rest h

  passing : (s : ℕ) (items : List Item) (n : ℕ) (d : SettingDeclaration) → slice_get (kept items) n ≡ Some d → IsPassing is s items n d
  passing s [] n d h = absurd (cc)
  passing s (i ∷ items) n d h = step s i items d (setting_of i) n refl (λ m g. passing (s + 1) items m d g) h

  -- there is a place for each
  if_count : (s : ℕ) (i : Item) (items : List Item) (x : SettingDeclaration) (b : Bool) → setting_of i ≡ Some x → t x ≡ b
      → length (places_from is (s + 1) items) ≡ length (kept items)
      → length (places_from is s (i ∷ items)) ≡ length (cond b (x ∷ kept items) (kept items))
  if_count s i items x true e p rest = ap (λ (ks : List ℕ). length ks) (places_if s i items x true e p) ∙ ap (λ (n : ℕ). suc n) rest
  if_count s i items x false e p rest = ap (λ (ks : List ℕ). length ks) (places_if s i items x false e p) ∙ rest

  count_step : (s : ℕ) (i : Item) (items : List Item) (o : Option SettingDeclaration) → setting_of i ≡ o
      → length (places_from is (s + 1) items) ≡ length (kept items)
      → length (places_from is s (i ∷ items)) ≡ length (filter t (cons_option o (filter_map setting_of items)))
  count_step s i items None e rest = ap (λ (ks : List ℕ). length ks) (places_by s i items None e) ∙ rest
  count_step s i items (Some x) e rest = if_count s i items x (t x) e refl rest

  passing_count : (s : ℕ) (items : List Item) → length (places_from is s items) ≡ length (kept items)
  passing_count s [] = refl
  passing_count s (i ∷ items) = count_step s i items (setting_of i) refl (passing_count (s + 1) items)

-- ---- the settings with their places

-- which declared setting stands there
record IsPlaced (settings : List SettingDeclaration) (n : ℕ) (p : PlacedSetting) : Type 0 where
  pub setting : SettingDeclaration
  pub byte : ℕ
  pub boolean : ℕ
  pub at : slice_get settings n ≡ Some setting
  pub is : p ≡ placed_at setting byte boolean

placed_in_bytes : (byte : ℕ) (xs : List SettingDeclaration) (n : ℕ) (p : PlacedSetting) → slice_get (in_bytes byte xs) n ≡ Some p
    → IsPlaced xs n p
placed_in_bytes byte [] n p h = absurd (cc)
placed_in_bytes byte (x ∷ xs) zero p h = record { setting = x; byte = byte; boolean = 0; at = refl; is = cc }
placed_in_bytes byte (x ∷ xs) (suc n) p h =
    let rest = placed_in_bytes (byte + 1) xs n p h in
    record { setting = rest.setting; byte = rest.byte; boolean = rest.boolean; at = rest.at; is = rest.is }

placed_in_bits : (start k : ℕ) (xs : List SettingDeclaration) (n : ℕ) (p : PlacedSetting) → slice_get (in_bits start k xs) n ≡ Some p
    → IsPlaced xs n p
placed_in_bits start k [] n p h = absurd (cc)
placed_in_bits start k (x ∷ xs) zero p h = record { setting = x; byte = start + k / 8; boolean = k; at = refl; is = cc }
placed_in_bits start k (x ∷ xs) (suc n) p h =
    let rest = placed_in_bits start (k + 1) xs n p h in
    record { setting = rest.setting; byte = rest.byte; boolean = rest.boolean; at = rest.at; is = rest.is }

-- ---- the items of a group

-- the setting that stands at place n of the group with these items, as it is built, is declared by one of them
pub record IsLaidItem (items : List Item) (n : ℕ) (p : PlacedSetting) : Type 0 where
  pub place : ℕ
  pub item : Item
  pub setting : SettingDeclaration
  pub byte : ℕ
  pub boolean : ℕ
  pub is_place : slice_get (laid_places items) n ≡ Some place
  pub at : slice_get items place ≡ Some item
  pub says : setting_of item ≡ Some setting
  pub is : p ≡ placed_at setting byte boolean

valued_item : (items : List Item) (n : ℕ) (p : PlacedSetting)
    → slice_get (in_bytes 0 (filter has_own_byte (filter_map setting_of items))) n ≡ Some p → IsLaidItem items n p
valued_item items n p h =
    let placed = placed_in_bytes 0 (filter has_own_byte (filter_map setting_of items)) n p h in
    let from = passing is_valued has_own_byte valued_passes 0 items n placed.setting placed.at in
    let same : 0 + from.after ≡ from.after = omega arith in
    record {
      place = from.after;
      item = from.item;
      setting = placed.setting;
      byte = placed.byte;
      boolean = placed.boolean;
      is_place = get_stays (places_of is_valued items) (places_of is_bool items) n from.after (from.place ∙ ap (λ (k : ℕ). Some k) same);
      at = from.at;
      says = from.says;
      is = placed.is;
    }

bool_item : (items : List Item) (start j n : ℕ) (p : PlacedSetting) → n ≡ length (places_of is_valued items) + j
    → slice_get (in_bits start 0 (filter declared.is_bool (filter_map setting_of items))) j ≡ Some p → IsLaidItem items n p
bool_item items start j n p e h =
    let placed = placed_in_bits start 0 (filter declared.is_bool (filter_map setting_of items)) j p h in
    let from = passing is_bool declared.is_bool bool_passes 0 items j placed.setting placed.at in
    let same : 0 + from.after ≡ from.after = omega arith in
    record {
      place = from.after;
      item = from.item;
      setting = placed.setting;
      byte = placed.byte;
      boolean = placed.boolean;
      is_place = ap (slice_get (laid_places items)) e ∙ get_right (places_of is_valued items) (places_of is_bool items) j
          ∙ from.place ∙ ap (λ (k : ℕ). Some k) same;
      at = from.at;
      says = from.says;
      is = placed.is;
    }

pub laid_item : (name : Name) (items : List Item) (n : ℕ) (p : PlacedSetting) → slice_get (laid_out (group_with name items)) n ≡ Some p
    → IsLaidItem items n p
laid_item name items n p h =
    let others = filter has_own_byte (filter_map setting_of items) in
    let booleans = filter declared.is_bool (filter_map setting_of items) in
    let count : length (in_bytes 0 others) ≡ length (places_of is_valued items) =
    length-in_bytes 0 others ∙ sym (passing_count is_valued has_own_byte valued_passes 0 items) in
    ⊎_elim (λ at. valued_item items n p at)
    (λ j. bool_item items (start_of (group_with name items)) j.0 n p (j.1 ∙ ap (λ (m : ℕ). m + j.0) count) j.2)
    (get_cases (in_bytes 0 others) (in_bits (start_of (group_with name items)) 0 booleans) n p h)
