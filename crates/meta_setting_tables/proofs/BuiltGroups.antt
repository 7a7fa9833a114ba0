-- A group that is built of a valid declaration is as its tables ask for.
use Rattle.std.proofs.Common.{◌≡◌, ◌⊎◌, inl, inr, ⊎_elim, ◌↔◌, ℕ, ◌+◌, ◌-◌, ◌/◌, ◌%◌, ◌<◌, ◌≤◌, zero, suc, Bool, true, false, not, cond}
use Rattle.std.proofs.Common.{List, [], ◌∷◌, ◌++◌, length, length-append, map, slice_get, get_or, Some, unwrap_or, refl, sym, ap, ◌∙◌}
use Rattle.std.proofs.Common.{subst, arith}
use Rattle.std.specs.Prelude.{Contains, IfSome, All}
use Rattle.std.specs.Option.{option_map}
use Rattle.std.proofs.lemmas.Bool.{cases_lt}
use Rattle.std.proofs.lemmas.List.{length-map, length-drop}
use Rattle.std.proofs.lemmas.Option.{slice_get-map, slice_get_within, slice_get-get_or, same_Some}
use Rattle.meta_lists.proofs.Places.{get_left, get_right, get_drop, get_cases, get_there}
use Rattle.meta_lists.proofs.Pushed.{get_pushed}
use Rattle.meta_types.specs.Name.{IsName}
use Rattle.meta_types.specs.SharedNames.{AreDistinct}
use Rattle.meta_types.proofs.NamesDecided.{name_so, names_so}
use Rattle.meta_settings.specs.declared.index.PresetType.TheVariants.{BoolSetting as NamedBool}
use Rattle.meta_settings.specs.declared.proto.ProtoSpecificSetting.{ProtoSpecificSetting}
use Rattle.meta_settings.specs.declared.proto.ProtoSpecificSetting.TheVariants.{Bool as DeclaredBool, Enum as DeclaredEnum}
use Rattle.meta_settings.specs.declared.proto.ProtoSpecificSetting.TheVariants.{Num as DeclaredNum}
use Rattle.meta_settings.specs.declared.setting.BoolSetting.{BoolSetting}
use Rattle.meta_settings.specs.declared.setting.SpecificSetting.TheVariants.{Bool as ABool, Enum as AnEnum}
use Rattle.meta_settings.specs.GroupDeclaration.{SettingDeclaration, PresetDeclaration, GroupDeclaration, Entry, is_bool_specific, is_bool}
use Rattle.meta_settings.specs.GroupDeclaration.{has_own_byte, values_of, booleans_among, others_among, boolean_count, start_of}
use Rattle.meta_settings.specs.GroupDeclaration.{setting_entry, preset_entry, entries_of}
use Rattle.meta_settings.specs.GroupFaults.{IsPlainByte, IsWellNamed, IsGoodEnum, IsMet, EntryNameRule, EnumRule, PresetRule, OfGroupName}
use Rattle.meta_settings.specs.GroupFaults.{OfEntry, OfCounts, IsValidGroup}
use Rattle.meta_settings.specs.Laws.{TurnsOn, IsNamedIn}
use Rattle.meta_settings.specs.Layout.{PlacedSetting, BuiltPreset, booleans_in}
use Rattle.meta_settings.specs.LaidOut.{placed_specific, placed_at, in_bytes, in_bits, laid_out, built_of}
use Rattle.meta_settings.specs.TurnedOn.{built_preset, presets_after, built_presets, booleans_at}
use Rattle.meta_settings.proofs.Placing.{length-in_bits}
use Rattle.meta_settings.proofs.Valid.{preset_at, start_length}
use Rattle.meta_setting_tables.specs.BuiltLayout.{AreValues, IsBuiltLayout}
use Rattle.meta_setting_tables.specs.FoundSetting.{entry_names}
use Rattle.meta_setting_tables.proofs.Joining.{filter_from}
use Rattle.meta_setting_tables.proofs.Telling.{plain_so}

-- ---- counts

two_kinds : (settings : List SettingDeclaration) → length (others_among settings) + length (booleans_among settings) ≡ length settings
two_kinds [] = refl
two_kinds (s ∷ settings) = let rest = two_kinds settings in
    elim (is_bool s) as (λ b. length (cond (not b) (s ∷ others_among settings) (others_among settings))
    + length (cond b (s ∷ booleans_among settings) (booleans_among settings)) ≡ suc (length settings)) [
      | true ↦ omega arith
      | false ↦
          omega arith
    ]

count_after : (earlier : List BuiltPreset) (presets : List PresetDeclaration)
    → length (presets_after earlier presets) ≡ length earlier + length presets
count_after earlier [] = omega arith
count_after earlier (p ∷ presets) = let rest = count_after (earlier ++ built_preset earlier p ∷ []) presets in let more =
    length-append earlier (built_preset earlier p ∷ []) in omega (arith, rest, more)

-- ---- places

byte_of : (byte : ℕ) (settings : List SettingDeclaration) (k : ℕ) (s : PlacedSetting) → slice_get (in_bytes byte settings) k ≡ Some s
    → (x : SettingDeclaration) × (slice_get settings k ≡ Some x) × (s ≡ placed_at x (byte + k) 0)
byte_of byte [] k s e = absurd (cc)
byte_of byte (x ∷ settings) zero s e = (x, refl, sym (same_Some (placed_at x byte 0) s e) ∙ ap (λ n. placed_at x n 0) (omega arith))
byte_of byte (x ∷ settings) (suc k) s e = let r = byte_of (byte + 1) settings k s e
    in (r.0, r.1, r.2 ∙ ap (λ n. placed_at r.0 n 0) (omega arith))

bit_of : (start first : ℕ) (settings : List SettingDeclaration) (k : ℕ) (s : PlacedSetting)
    → slice_get (in_bits start first settings) k ≡ Some s → (x : SettingDeclaration) × (slice_get settings k ≡ Some x)
    × (s ≡ placed_at x (start + (first + k) / 8) (first + k))
bit_of start first [] k s e = absurd (cc)
bit_of start first (x ∷ settings) zero s e = (
  x,
  refl,
  sym (same_Some (placed_at x (start + first / 8) first) s e)
      ∙ ap (λ n. placed_at x (start + n / 8) n) (omega arith),
)
bit_of start first (x ∷ settings) (suc k) s e = let r = bit_of start (first + 1) settings k s e
    in (r.0, r.1, r.2 ∙ ap (λ n. placed_at r.0 (start + n / 8) n) (omega arith))

no_boolean : (k : ℕ) (x : ProtoSpecificSetting) (b : BoolSetting) → is_bool_specific x ≡ false → placed_specific k x ≡ ABool b → ⊥
no_boolean k (DeclaredBool default) b no_bool e = (cc)
no_boolean k (DeclaredEnum values) b no_bool e = (cc)
no_boolean k (DeclaredNum default) b no_bool e = (cc)

boolean_is : (k : ℕ) (x : ProtoSpecificSetting) → is_bool_specific x ≡ true
    → (b : BoolSetting) × (placed_specific k x ≡ ABool b) × (b.bit_offset ≡ k % 8)
boolean_is k (DeclaredBool default) e = (record { default = default; bit_offset = k % 8; predicate_number = k }, refl, refl)
boolean_is k (DeclaredEnum values) e = absurd (cc)
boolean_is k (DeclaredNum default) e = absurd (cc)

enum_is : (k : ℕ) (x : ProtoSpecificSetting) (values : List (List ℕ)) → placed_specific k x ≡ AnEnum values → x ≡ DeclaredEnum values
enum_is k (DeclaredBool default) values e = absurd (cc)
enum_is k (DeclaredEnum own) values e = let same : own ≡ values = cc in ap DeclaredEnum same
enum_is k (DeclaredNum default) values e = absurd (cc)

not_true : (b : Bool) → not b ≡ true → b ≡ false
not_true true e = (cc)
not_true false e = refl

-- a built setting is a declared one, with a place
pub record IsFrom (d : GroupDeclaration) (s : PlacedSetting) : Type 0 where
  pub place : ℕ
  pub declared : SettingDeclaration
  pub byte : ℕ
  pub number : ℕ
  pub there : slice_get d.settings place ≡ Some declared
  pub is : s ≡ placed_at declared byte number

pub setting_from_declared : (d : GroupDeclaration) (k : ℕ) (s : PlacedSetting) → slice_get (laid_out d) k ≡ Some s → IsFrom d s
setting_from_declared d k s at =
    go (get_cases (in_bytes 0 (others_among d.settings)) (in_bits (start_of d) 0 (booleans_among d.settings)) k s at)
  where
    go : (slice_get (in_bytes 0 (others_among d.settings)) k ≡ Some s)
        ⊎ ((j : ℕ) × (k ≡ length (in_bytes 0 (others_among d.settings)) + j)
        × (slice_get (in_bits (start_of d) 0 (booleans_among d.settings)) j ≡ Some s)) → IsFrom d s
    go (inl own) =
        let r = byte_of 0 (others_among d.settings) k s own in
        let f = filter_from has_own_byte d.settings k r.0 r.1 in
        record { place = f.0; declared = r.0; byte = 0 + k; number = 0; there = f.1; is = r.2 }
    go (inr other) =
        let r = bit_of (start_of d) 0 (booleans_among d.settings) other.0 s other.2 in
        let f = filter_from is_bool d.settings other.0 r.0 r.1 in
        record { place = f.0; declared = r.0; byte = start_of d + (0 + other.0) / 8; number = 0 + other.0; there = f.1; is = r.2 }

-- a built preset is a declared one, by its texts
pub record IsPresetFrom (presets : List PresetDeclaration) (p : BuiltPreset) : Type 0 where
  pub place : ℕ
  pub declared : PresetDeclaration
  pub there : slice_get presets place ≡ Some declared
  pub name : p.name ≡ declared.name
  pub description : p.description ≡ declared.description

preset_after : (earlier : List BuiltPreset) (presets : List PresetDeclaration) (k : ℕ) (p : BuiltPreset)
    → slice_get (presets_after earlier presets) k ≡ Some p → (slice_get earlier k ≡ Some p) ⊎ IsPresetFrom presets p
preset_after earlier [] k p at = inl at
preset_after earlier (q ∷ presets) k p at = go (preset_after (earlier ++ built_preset earlier q ∷ []) presets k p at)
  where
    first : (slice_get earlier k ≡ Some p) ⊎ ((k ≡ length earlier) × (built_preset earlier q ≡ p))
        → (slice_get earlier k ≡ Some p) ⊎ IsPresetFrom (q ∷ presets) p
    first (inl was) = inl was
    first (inr end) = inr (record {
      place = 0;
      declared = q;
      there = refl;
      name = ap (λ (p : BuiltPreset). p.name) (sym end.1);
      description = ap (λ (p : BuiltPreset). p.description) (sym end.1);
    })

    go : (slice_get (earlier ++ built_preset earlier q ∷ []) k ≡ Some p) ⊎ IsPresetFrom presets p
        → (slice_get earlier k ≡ Some p) ⊎ IsPresetFrom (q ∷ presets) p
    go (inl own) = first (get_pushed earlier (built_preset earlier q) k p own)
    go (inr f) = inr (record { place = suc f.place; declared = f.declared; there = f.there; name = f.name; description = f.description })

pub preset_from_declared : (presets : List PresetDeclaration) (k : ℕ) (p : BuiltPreset) → slice_get (built_presets presets) k ≡ Some p
    → IsPresetFrom presets p
preset_from_declared presets k p at = ⊎_elim (λ none. absurd (nothing k none)) (λ f. f) (preset_after [] presets k p at)
  where
    nothing : (k : ℕ) → slice_get [] k ≡ Some p → ⊥
    nothing k e = (cc)

module _ (d : GroupDeclaration) (valid : IsValidGroup d) where
  pub entry_setting : (i : ℕ) (x : SettingDeclaration) → slice_get d.settings i ≡ Some x
      → slice_get (entries_of d) i ≡ Some (setting_entry x)
  entry_setting i x at =
      let l = slice_get_within d.settings i x at in let long = length-map d.settings setting_entry in
      get_left (map setting_entry d.settings) (map preset_entry d.presets) i (omega (arith, l, long))
      ∙ slice_get-map setting_entry d.settings i ∙ ap (option_map setting_entry) at

  few_entries : length d.settings + length d.presets ≤ 65535
  few_entries = elim (cases_lt 65535 (length d.settings + length d.presets)) [
    | inl more ↦
        absurd (valid 0 OfCounts _ (refl, inr (inr more)))
    | inr few ↦ few
  ]

  -- an entry has names, and its description needs no escape
  well_named : (i : ℕ) (x : Entry) → slice_get (entries_of d) i ≡ Some x → IsWellNamed x
  well_named i x at = record {
    name = name_so x.name (λ bad. broken (λ (w : IsWellNamed x). bad w.name));
    description = plain_so x.description (λ bad. broken (λ (w : IsWellNamed x). bad w.description));
    enumerators = names_so (unwrap_or x.values []) (λ bad. broken (λ (w : IsWellNamed x). bad w.enumerators));
  }
    where
      broken : (IsWellNamed x → ⊥) → ⊥
      broken bad = valid 0 (OfEntry i EntryNameRule) _ (x, at, (refl, bad))

  group_named : IsName d.name
  group_named = name_so d.name (λ bad. valid 0 OfGroupName _ (refl, bad))

  good_values : (i : ℕ) (x : SettingDeclaration) (values : List (List ℕ)) → slice_get d.settings i ≡ Some x
      → x.specific ≡ DeclaredEnum values → AreValues values
  good_values i x values at is = record {
    good = record {
      some = elim (cases_lt 0 (length values)) [
        | inl some ↦ some
        | inr none ↦
            absurd (broken (λ good. let s = good.some in omega (arith, s, none)))
      ];
      few = elim (cases_lt 256 (length values)) [
        | inl more ↦
            absurd (broken (λ good. let f = good.few in omega (arith, f, more)))
        | inr few ↦ few
      ];
      distinct = λ k j shared. broken (λ good. good.distinct k j shared);
    };
    names = subst (λ (y : ProtoSpecificSetting). All IsName (unwrap_or (values_of y) [])) is
        (well_named i (setting_entry x) (entry_setting i x at)).enumerators;
  }
    where
      broken : (IsGoodEnum values → ⊥) → ⊥
      broken bad = valid 0 (OfEntry i EnumRule) _ (
        setting_entry x,
        entry_setting i x at,
        (refl, λ good. bad (subst (λ (y : ProtoSpecificSetting). IfSome (values_of y) IsGoodEnum) is good)),
      )

  named_boolean : (k b : ℕ) (p : PresetDeclaration) → slice_get d.presets k ≡ Some p → Contains p.args (NamedBool b) → b < boolean_count d
  named_boolean k b p at c = elim (cases_lt b (boolean_count d)) [
    | inl below ↦ below
    | inr past ↦ absurd (valid 0 (OfEntry (length d.settings + k) PresetRule) _ (
      preset_entry p,
      preset_at d valid k p at,
      (
        refl,
        λ met.
            let one : IsMet (boolean_count d) (length d.settings + k - length d.settings) (NamedBool b) =
            subst (IsMet (boolean_count d) (length d.settings + k - length d.settings)) c.2 (met c.0 (NamedBool b) c.1)
            in omega (arith, one, past),
      ),
    ))
  ]

  booleans_counted : length (booleans_in (built_of d)) ≡ boolean_count d
  booleans_counted =
      let a = length-append (in_bytes 0 (others_among d.settings)) (in_bits (start_of d) 0 (booleans_among d.settings)) in
      let x = start_length d valid in let y = length-in_bits (start_of d) 0 (booleans_among d.settings) in
      let cut = length-drop (start_of d) (laid_out d) in omega (arith, a, x, y, cut)

  module _ (named : (k b : ℕ) (p : PresetDeclaration) → slice_get d.presets k ≡ Some p
      → TurnsOn d.presets k b ↔ IsNamedIn d.presets k p b) where
    below_all : (n k b : ℕ) → k < n → k < length d.presets → TurnsOn d.presets k b → b < boolean_count d
    below_all zero k b l inside on = absurd (omega arith)
    below_all (suc n) k b l inside on =
        let p = get_there d.presets k inside in
        ⊎_elim (λ own. named_boolean k b p.0 p.1 own) (λ other. below_all n other.0 b (let q = other.2 in omega (arith, q, l)) (let q =
        other.2 in omega (arith, q, inside)) other.3) ((named k b p.0 p.1).0 on)

    boolean_at : (k : ℕ) → slice_get (booleans_in (built_of d)) k ≡ slice_get (in_bits (start_of d) 0 (booleans_among d.settings)) k
    boolean_at k = get_drop (laid_out d) (start_of d) k ∙ ap (λ n. slice_get (laid_out d) (n + k)) (sym (start_length d valid))
        ∙ get_right (in_bytes 0 (others_among d.settings)) (in_bits (start_of d) 0 (booleans_among d.settings)) k

    pub built_layout : AreDistinct (entry_names (built_of d)) → IsBuiltLayout (built_of d)
    built_layout distinct = record {
      name = group_named;
      few = let own = few_entries in let kinds = two_kinds d.settings in let a =
          length-append (in_bytes 0 (others_among d.settings)) (in_bits (start_of d) 0 (booleans_among d.settings)) in
          let x = start_length d valid in let y = length-in_bits (start_of d) 0 (booleans_among d.settings) in let z =
          count_after [] d.presets in omega (arith, own, kinds, a, x, y, z);
      bytes = λ k s l at.
          let own = sym (get_left (in_bytes 0 (others_among d.settings)) (in_bits (start_of d) 0 (booleans_among d.settings)) k (let x =
          start_length d valid in omega (arith, l, x))) ∙ at in
          let r = byte_of 0 (others_among d.settings) k s own in
          let f = filter_from has_own_byte d.settings k r.0 r.1 in
          record {
            byte_is = ap (λ (s : PlacedSetting). s.byte_offset) r.2 ∙ omega arith;
            no_boolean = λ b e. no_boolean 0 r.0.specific b (not_true (is_bool r.0) f.2) (sym (ap (λ (s : PlacedSetting). s.specific) r.2)
                ∙ e);
          };
      bits = λ k s at.
          let r = bit_of (start_of d) 0 (booleans_among d.settings) k s (sym (boolean_at k) ∙ at) in
          let f = filter_from is_bool d.settings k r.0 r.1 in
          let zero_is : 0 + k ≡ k = omega arith in
          let b = boolean_is k r.0.specific f.2 in
          let is : s ≡ placed_at r.0 (start_of d + k / 8) k = r.2 ∙ ap (λ n. placed_at r.0 (start_of d + n / 8) n) zero_is in
          record {
            boolean = b.0;
            is_boolean = ap (λ (s : PlacedSetting). s.specific) is ∙ b.1;
            byte_is = ap (λ (s : PlacedSetting). s.byte_offset) is;
            bit_is = b.2;
          };
      settings = λ k s at.
          let f = setting_from_declared d k s at in
          let w = well_named f.place (setting_entry f.declared) (entry_setting f.place f.declared f.there) in
          record {
            is_name = subst IsName (sym (ap (λ (s : PlacedSetting). s.name) f.is)) w.name;
            is_plain = subst (All IsPlainByte) (sym (ap (λ (s : PlacedSetting). s.description) f.is)) w.description;
          };
      described_presets = λ k p at.
          let f = preset_from_declared d.presets k p at in
          let w = well_named (length d.settings + f.place) (preset_entry f.declared) (preset_at d valid f.place f.declared f.there) in
          record { is_name = subst IsName (sym f.name) w.name; is_plain = subst (All IsPlainByte) (sym f.description) w.description };
      distinct = distinct;
      enums = λ k s values at is.
          let f = setting_from_declared d k s at in
          good_values f.place f.declared values f.there (enum_is f.number f.declared.specific values
          (sym (ap (λ (s : PlacedSetting). s.specific) f.is) ∙ is));
      presets = λ k p at i default l.
          let inside = slice_get_within (built_presets d.presets) k p at in
          let long = count_after [] d.presets in
          let b = get_or p.booleans i default in
          let own : booleans_at (built_presets d.presets) k ≡ p.booleans =
          ap (λ o. unwrap_or (option_map (λ (p : BuiltPreset). p.booleans) o) []) at in
          let on : TurnsOn d.presets k b = subst (λ w. Contains w b) (sym own) (i, l, get_again p.booleans i default l) in
          let below = below_all (suc k) k b (omega arith) (omega (arith, inside, long)) on in
          let count = booleans_counted in omega (arith, below, count);
    }
      where
        get_again : (xs : List ℕ) (i default : ℕ) → i < length xs → get_or xs i (get_or xs i default) ≡ get_or xs i default
        get_again xs i default l = same_Some (get_or xs i (get_or xs i default)) (get_or xs i default)
            (sym (slice_get-get_or xs i (get_or xs i default) l) ∙ slice_get-get_or xs i default l)
