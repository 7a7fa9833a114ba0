-- Each value is one that its setting can have.
use Rattle.std.proofs.Common.{◌≡◌, ℕ, zero, suc, ◌+◌, ◌<◌, ◌≤◌, Bool, true, false, ◌⊎◌, inl, inr, ⊎_elim, List, [], ◌∷◌, ◌++◌, length}
use Rattle.std.proofs.Common.{map, take, drop, slice_get, slice_set, All, Some, refl, sym, ap, ◌∙◌, subst, arith}
use Rattle.std.specs.Prelude.{slice_index_or}
use Rattle.std.proofs.lemmas.Bool.{false≢true, cases_eq, cases_lt}
use Rattle.std.proofs.lemmas.List.{get_or_past, length-drop, length-set, length-take}
use Rattle.std.proofs.lemmas.List.Elements.{Contains-get_or}
use Rattle.std.proofs.lemmas.Option.{same_Some, slice_get_within}
use Rattle.meta_lists.proofs.Everywhere.{at_place}
use Rattle.meta_lists.proofs.Mapped.{get_mapped}
use Rattle.meta_lists.proofs.Places.{get_set_other, get_taken}
use Rattle.meta_setting_tables.specs.declared.descriptor.Detail.{Detail}
use Rattle.meta_setting_tables.specs.declared.descriptor.Detail.TheVariants.{Bool as BoolDetail, Enum as EnumDetail, Num as NumDetail}
use Rattle.meta_setting_tables.specs.declared.descriptor.Detail.TheVariants.{Preset as PresetDetail}
use Rattle.meta_setting_tables.specs.declared.descriptor.Descriptor.{Descriptor}
use Rattle.meta_setting_tables.specs.EntryValues.{is_on, values_in}
use Rattle.meta_setting_tables.specs.GroupTables.{GroupContents}
use Rattle.meta_setting_tables.specs.WellFormed.{HasItsValues, IsWellFormedGroup}
use Rattle.meta_flags.specs.Served.{SettingValue, BoolValue, EntryKind, BoolKind, NumKind, EnumKind, PresetKind, State}
use Rattle.meta_flags.specs.Served.{default_of, kind_in}
use Rattle.meta_flags.specs.Changes.{IsText, CanHave, with_marked_true}
use Rattle.meta_flags.specs.Held.{AreSettings, AreOfKinds, AreHeld}
use Rattle.meta_flags.proofs.TurningOn.{length-turned_on}
use Rattle.meta_flags.proofs.Places.{defaults, setting_count, settings_first, counted, one_default, one_less}

-- ---- a value that is set

-- what a text writes can be had
pub text_kind : (kind : EntryKind) (text : List ℕ) (v : SettingValue) → IsText kind text v → CanHave kind v
text_kind (BoolKind default) text v (inl (written, is)) = (true, is)
text_kind (BoolKind default) text v (inr (written, is)) = (false, is)
text_kind (NumKind default) text v (n, few, written, is) = (n, few, is)
text_kind (EnumKind values) text v (has, is) = (text, has, is)
text_kind (PresetKind marks) text v is = absurd is

-- where an element was set stands that one
got_set : {X : Type 0} (xs : List X) (i : ℕ) (y z : X) → slice_get (slice_set xs i y) i ≡ Some z → y ≡ z
got_set [] i y z e = absurd (cc)
got_set (x ∷ xs) zero y z e = same_Some y z e
got_set (x ∷ xs) (suc i) y z e = got_set xs i y z e

set_kinds : (t : GroupContents) (state : State) (place : ℕ) (d : Descriptor) (v : SettingValue) → AreOfKinds t state
    → slice_get t.descriptors place ≡ Some d → CanHave (kind_in t d.offset d.detail) v → AreOfKinds t (slice_set state place v)
set_kinds t state place d v old own can e x w at there = ⊎_elim
    (λ same.
    let one : d ≡ x = same_Some d x (sym own ∙ ap (slice_get t.descriptors) (sym same) ∙ at) in
    let is : v ≡ w = got_set state place v w (ap (slice_get (slice_set state place v)) (sym same) ∙ there) in
    subst (λ (x : Descriptor). CanHave (kind_in t x.offset x.detail) w) one (subst (CanHave (kind_in t d.offset d.detail)) is can))
    (λ other. old e x w at (sym (get_set_other state place e v other) ∙ there))
    (cases_eq e place)

-- new values, as many as the settings, and each of its kind, are values of the settings
same_held : (t : GroupContents) (state new : State) → AreHeld (record { group = t; state = state }) → length new ≡ length state
    → AreOfKinds t new → AreHeld (record { group = t; state = new })
same_held t state new old count kinds =
    let within = old.within in
    record {
      within = omega (arith, within, count);
      settings = subst (AreSettings t.descriptors) (sym count) old.settings;
      kinds = kinds;
    }

pub held_set : (t : GroupContents) (state : State) (place : ℕ) (d : Descriptor) (v : SettingValue)
    → AreHeld (record { group = t; state = state }) → slice_get t.descriptors place ≡ Some d → CanHave (kind_in t d.offset d.detail) v
    → AreHeld (record { group = t; state = slice_set state place v })
held_set t state place d v old own can =
    same_held t state (slice_set state place v) old (length-set state place v) (set_kinds t state place d v old.kinds own can)

-- ---- values that are turned on

-- a value is as it was, or is marked and true
turned : (marks : List Bool) (state : State) (k : ℕ) (w : SettingValue) → slice_get (with_marked_true marks state) k ≡ Some w
    → (slice_get state k ≡ Some w) ⊎ ((slice_get marks k ≡ Some true) × (BoolValue true ≡ w))
turned [] state k w at = inl at
turned (mark ∷ marks) [] k w at = absurd (cc)
turned (true ∷ marks) (v ∷ vs) zero w at = inr (refl, same_Some (BoolValue true) w at)
turned (false ∷ marks) (v ∷ vs) zero w at = inl at
turned (mark ∷ marks) (v ∷ vs) (suc k) w at = turned marks vs k w at

-- what is on is a boolean
on_kind : (t : GroupContents) (bytes : List ℕ) (offset : ℕ) (detail : Detail) → is_on bytes offset detail ≡ true
    → CanHave (kind_in t offset detail) (BoolValue true)
on_kind t bytes offset (BoolDetail bit) on = (true, refl)
on_kind t bytes offset (EnumDetail last place) on = absurd (false≢true on)
on_kind t bytes offset NumDetail on = absurd (false≢true on)
on_kind t bytes offset PresetDetail on = absurd (false≢true on)

turned_kinds : (t : GroupContents) (state : State) (bytes : List ℕ) (count : ℕ) → AreOfKinds t state
    → AreOfKinds t (with_marked_true (map (λ (d : Descriptor). is_on bytes d.offset d.detail) (take count t.descriptors)) state)
turned_kinds t state bytes count old e d w at there =
    ⊎_elim (old e d w at) of_mark (turned marks state e w there)
  where
    marks : List Bool
    marks = map (λ (d : Descriptor). is_on bytes d.offset d.detail) (take count t.descriptors)

    of_mark : (slice_get marks e ≡ Some true) × (BoolValue true ≡ w) → CanHave (kind_in t d.offset d.detail) w
    of_mark (on, is) =
        let (x, x_at, x_on) = get_mapped (λ (d : Descriptor). is_on bytes d.offset d.detail) (take count t.descriptors) e true on in
        let same : x ≡ d = same_Some x d (sym (get_taken t.descriptors count e x x_at) ∙ at) in
        subst (CanHave (kind_in t d.offset d.detail)) is
        (subst (λ (x : Descriptor). CanHave (kind_in t x.offset x.detail) (BoolValue true)) same
        (on_kind t bytes x.offset x.detail x_on))

pub held_turned : (t : GroupContents) (state new : State) (bytes : List ℕ) (some : List Descriptor)
    → AreHeld (record { group = t; state = state }) → some ≡ take (length state) t.descriptors
    → new ≡ with_marked_true (map (λ (d : Descriptor). is_on bytes d.offset d.detail) some) state
    → AreHeld (record { group = t; state = new })
held_turned t state new bytes some old taken is =
    same_held t state new old (ap length is ∙ length-turned_on (map (λ (d : Descriptor). is_on bytes d.offset d.detail) some) state)
    (subst (AreOfKinds t) (sym (is
    ∙ ap (λ (ds : List Descriptor). with_marked_true (map (λ (d : Descriptor). is_on bytes d.offset d.detail) ds) state) taken))
    (turned_kinds t state bytes (length state) old.kinds))

-- ---- the defaults

-- a byte or nothing is below 256
byte_small : (bytes : List ℕ) (k : ℕ) → All (λ b. b < 256) bytes → slice_index_or bytes k 0 < 256
byte_small bytes k all = ⊎_elim
    (λ l. all k 0 l)
    (λ g. subst (λ n. n < 256) (sym (get_or_past bytes k 0 g)) (omega arith))
    (cases_lt k (length bytes))

-- the default of an entry, if it has one, can be had
default_kind : (t : GroupContents) (offset : ℕ) (detail : Detail) (v : SettingValue) → All (λ b. b < 256) t.defaults
    → HasItsValues t.enumerators detail → default_of (kind_in t offset detail) ≡ v ∷ [] → CanHave (kind_in t offset detail) v
default_kind t offset (BoolDetail bit) v bytes has is = (is_on t.defaults offset (BoolDetail bit), cc)
default_kind t offset (EnumDetail last place) v bytes has is =
    let values : List (List ℕ) = values_in t.enumerators (EnumDetail last place) in
    let taken = length-take (last + 1) (drop place t.enumerators) in
    let left = length-drop place t.enumerators in
    let inside = has.inside in
    (slice_index_or values 0 [], Contains-get_or values 0 [] (omega (arith, taken, left, inside)), cc)
default_kind t offset NumDetail v bytes has is =
    (slice_index_or t.defaults offset 0, byte_small t.defaults offset bytes, cc)
default_kind t offset PresetDetail v bytes has is = absurd (cc)

only_one : (xs : State) → length xs ≡ 1 → (x : SettingValue) × (xs ≡ x ∷ [])
only_one [] count = absurd (omega (arith, count))
only_one (x ∷ []) count = (x, refl)
only_one (x ∷ y ∷ xs) count = absurd (omega (arith, count))

abbrev own_default : GroupContents → Descriptor → State
own_default t d = default_of (kind_in t d.offset d.detail)

-- where settings stand first, a default and its entry have the same place
defaults_at : (t : GroupContents) (ds : List Descriptor) (n k : ℕ) (d : Descriptor) (v : SettingValue) → n ≤ length ds → AreSettings ds n
    → slice_get ds k ≡ Some d → slice_get (defaults t ds) k ≡ Some v → own_default t d ≡ v ∷ []
defaults_at t [] n k d v few first at there = absurd (cc)
defaults_at t (x ∷ ds) zero k d v few first at there =
    let none = counted t (x ∷ ds) 0 few first in
    let within = slice_get_within (defaults t (x ∷ ds)) k v there in
    absurd (omega (arith, none, within))
defaults_at t (x ∷ ds) (suc n) zero d v few first at there =
    let (y, is) = only_one (own_default t x) (one_default t x.offset x.detail ((first 0 x refl).1 (omega arith))) in
    let same : x ≡ d = same_Some x d at in
    let own : y ≡ v = same_Some y v (sym (ap (λ (vs : State). slice_get (vs ++ defaults t ds) 0) is) ∙ there) in
    ap (own_default t) (sym same) ∙ is ∙ ap (λ (v : SettingValue). v ∷ []) own
defaults_at t (x ∷ ds) (suc n) (suc k) d v few first at there =
    let (y, is) = only_one (own_default t x) (one_default t x.offset x.detail ((first 0 x refl).1 (omega arith))) in
    defaults_at t ds n k d v (omega (arith, few)) (one_less x ds n first) at
    (sym (ap (λ (vs : State). slice_get (vs ++ defaults t ds) (suc k)) is) ∙ there)

pub default_kinds : (t : GroupContents) (state : State) → IsWellFormedGroup t → setting_count t.descriptors ≤ length t.descriptors
    → state ≡ defaults t t.descriptors → AreOfKinds t state
default_kinds t state well few is e d v at there =
    default_kind t d.offset d.detail v well.defaults.bytes
    (at_place (λ (x : Descriptor). HasItsValues t.enumerators x.detail) t.descriptors e d well.values at)
    (defaults_at t t.descriptors (setting_count t.descriptors) e d v few (settings_first t well) at
    (sym (ap (λ (s : State). slice_get s e) is) ∙ there))
