-- A line has at most one change and one answer.
use Rattle.std.proofs.Common.{◌≡◌, inl, inr, ℕ, ◌<◌, List, length, slice_get, slice_set, Result, Ok, Err, refl, sym, ap, ◌∙◌, subst, arith}
use Rattle.std.proofs.lemmas.Bool.{cases_lt}
use Rattle.std.proofs.lemmas.Fmt.{decimal_injective}
use Rattle.std.proofs.lemmas.Option.{same_Some}
use Rattle.meta_flags.specs.Served.{SettingValue, NumValue, EntryKind, BoolKind, NumKind, EnumKind, PresetKind, ServedEntry, Served, State}
use Rattle.meta_flags.specs.Changes.{HasNone, IsNamedEntry, IsPresetKind, IsText, IsSet, IsOfPreset, IsNoValue, Sets, IsEnabled, IsNoSwitch}
use Rattle.meta_flags.specs.Changes.{Enabled, IsOfNoSwitch, Enables, HasValue, Gets}
use Rattle.meta_flags.specs.declared.flag_error.FlagError.{FlagError}
use Rattle.meta_flags.specs.declared.flag_error.FlagError.TheVariants.{Unknown, Kind, Value}

module _ (g : Served) (name : List ℕ) where
  not_before : (p q : ℕ) (k l : EntryKind) → IsNamedEntry g name p k → IsNamedEntry g name q l → p < q → ⊥
  not_before p q k l one other less = other.first p (record { name = name; kind = k }) less one.at refl

  -- a name has at most one entry
  one_place : (p q : ℕ) (k l : EntryKind) → IsNamedEntry g name p k → IsNamedEntry g name q l → p ≡ q
  one_place p q k l one other = elim (cases_lt p q) [
    | inl less ↦ absurd (not_before p q k l one other less)
    | inr few ↦ elim (cases_lt q p) [
      | inl less ↦ absurd (not_before q p l k other one less)
      | inr many ↦ omega (arith, few, many)
    ]
  ]

  one_kind : (p q : ℕ) (k l : EntryKind) → IsNamedEntry g name p k → IsNamedEntry g name q l → k ≡ l
  one_kind p q k l one other =
      ap (λ (e : ServedEntry). e.kind) (same_Some _ _ (sym one.at ∙ ap (slice_get g.entries) (one_place p q k l one other) ∙ other.at))

  -- if an entry has a name, it isn't so that no entry has it
  not_none : (p : ℕ) (k : EntryKind) → IsNamedEntry g name p k → HasNone g name → ⊥
  not_none p k entry none = none p (record { name = name; kind = k }) entry.at refl

  -- a text writes at most one value
  one_text : (kind : EntryKind) (text : List ℕ) (v w : SettingValue) → IsText kind text v → IsText kind text w → v ≡ w
  one_text (BoolKind default) text v w (inl (t, a)) (inl (s, b)) = a ∙ sym b
  one_text (BoolKind default) text v w (inl (t, a)) (inr (s, b)) = let e = ap length (sym t ∙ s) in absurd (omega (arith, e))
  one_text (BoolKind default) text v w (inr (t, a)) (inl (s, b)) = let e = ap length (sym t ∙ s) in absurd (omega (arith, e))
  one_text (BoolKind default) text v w (inr (t, a)) (inr (s, b)) = a ∙ sym b
  one_text (NumKind default) text v w (m, few, t, a) (n, less, s, b) = a
      ∙ ap NumValue (decimal_injective m n (omega (arith, few)) (omega (arith, less)) (sym t ∙ s)) ∙ sym b
  one_text (EnumKind values) text v w (has, a) (had, b) = a ∙ sym b
  one_text (PresetKind marks) text v w h k = absurd h

  -- no value is written for a preset
  no_text : (kind : EntryKind) (text : List ℕ) (v : SettingValue) → IsText kind text v → IsPresetKind kind → ⊥
  no_text kind text v is (marks, e) = subst (λ (k : EntryKind). IsText k text v) e is

  -- ---- `set`

  module _ (text : List ℕ) (old : State) where
    set_once : (new next : State) → IsSet g name text old new → IsSet g name text old next → new ≡ next
    set_once new next a b =
        let place = one_place a.place b.place a.kind b.kind a.entry b.entry in
        let kind = one_kind a.place b.place a.kind b.kind a.entry b.entry in
        let value = one_text b.kind text a.value b.value (subst (λ (k : EntryKind). IsText k text a.value) kind a.is_text) b.is_text in
        a.changed ∙ (λ i. slice_set old (place i) (value i)) ∙ sym b.changed

    set_no_preset : (new : State) → IsSet g name text old new → IsOfPreset g name → ⊥
    set_no_preset new a b = no_text b.kind text a.value
        (subst (λ (k : EntryKind). IsText k text a.value) (one_kind a.place b.place a.kind b.kind a.entry b.entry) a.is_text) b.is_preset

    set_value : (new : State) → IsSet g name text old new → IsNoValue g name text → ⊥
    set_value new a b = b.none a.value (subst (λ (k : EntryKind). IsText k text a.value)
        (one_kind a.place b.place a.kind b.kind a.entry b.entry) a.is_text)

    preset_setting : IsOfPreset g name → IsNoValue g name text → ⊥
    preset_setting a b = b.setting (subst IsPresetKind (one_kind a.place b.place a.kind b.kind a.entry b.entry) a.is_preset)

    pub one_set : (r s : Result (Unit {0}) FlagError) (new next : State) → Sets g name text old r new
        → Sets g name text old s next → (r ≡ s) × (new ≡ next)
    one_set (Ok done) (Ok set) new next a b = (refl, set_once new next a b)
    one_set (Ok done) (Err Unknown) new next a b = absurd (not_none a.place a.kind a.entry b.0)
    one_set (Ok done) (Err Kind) new next a b = absurd (set_no_preset new a b.0)
    one_set (Ok done) (Err Value) new next a b = absurd (set_value new a b.0)
    one_set (Err Unknown) (Ok set) new next a b = absurd (not_none b.place b.kind b.entry a.0)
    one_set (Err Unknown) (Err Unknown) new next a b = (refl, a.1 ∙ sym b.1)
    one_set (Err Unknown) (Err Kind) new next a b = absurd (not_none b.0.place b.0.kind b.0.entry a.0)
    one_set (Err Unknown) (Err Value) new next a b = absurd (not_none b.0.place b.0.kind b.0.entry a.0)
    one_set (Err Kind) (Ok set) new next a b = absurd (set_no_preset next b a.0)
    one_set (Err Kind) (Err Unknown) new next a b = absurd (not_none a.0.place a.0.kind a.0.entry b.0)
    one_set (Err Kind) (Err Kind) new next a b = (refl, a.1 ∙ sym b.1)
    one_set (Err Kind) (Err Value) new next a b = absurd (preset_setting a.0 b.0)
    one_set (Err Value) (Ok set) new next a b = absurd (set_value next b a.0)
    one_set (Err Value) (Err Unknown) new next a b = absurd (not_none a.0.place a.0.kind a.0.entry b.0)
    one_set (Err Value) (Err Kind) new next a b = absurd (preset_setting b.0 a.0)
    one_set (Err Value) (Err Value) new next a b = (refl, a.1 ∙ sym b.1)

  -- ---- `enable`

  module _ (old : State) where
    enabled_once : (kind : EntryKind) (place : ℕ) (new next : State) → IsEnabled kind place old new
        → IsEnabled kind place old next → new ≡ next
    enabled_once (BoolKind default) place new next a b = a ∙ sym b
    enabled_once (NumKind default) place new next a b = absurd a
    enabled_once (EnumKind values) place new next a b = absurd a
    enabled_once (PresetKind marks) place new next a b = a ∙ sym b

    no_switch : (kind : EntryKind) (place : ℕ) (new : State) → IsEnabled kind place old new → IsNoSwitch kind → ⊥
    no_switch kind place new is (inl (default, e)) = subst (λ (k : EntryKind). IsEnabled k place old new) e is
    no_switch kind place new is (inr (values, e)) = subst (λ (k : EntryKind). IsEnabled k place old new) e is

    enabled_switch : (new : State) → Enabled g name old new → IsOfNoSwitch g name → ⊥
    enabled_switch new a b = no_switch a.kind a.place new a.changed
        (subst IsNoSwitch (sym (one_kind a.place b.place a.kind b.kind a.entry b.entry)) b.no_switch)

    enable_once : (new next : State) → Enabled g name old new → Enabled g name old next → new ≡ next
    enable_once new next a b =
        let place = one_place a.place b.place a.kind b.kind a.entry b.entry in
        let kind = one_kind a.place b.place a.kind b.kind a.entry b.entry in
        enabled_once b.kind b.place new next (subst (λ (p : ℕ). IsEnabled b.kind p old new) place
        (subst (λ (k : EntryKind). IsEnabled k a.place old new) kind a.changed)) b.changed

    pub one_enable : (r s : Result (Unit {0}) FlagError) (new next : State) → Enables g name old r new
        → Enables g name old s next → (r ≡ s) × (new ≡ next)
    one_enable (Ok done) (Ok set) new next a b = (refl, enable_once new next a b)
    one_enable (Ok done) (Err Unknown) new next a b = absurd (not_none a.place a.kind a.entry b.0)
    one_enable (Ok done) (Err Kind) new next a b = absurd (enabled_switch new a b.0)
    one_enable (Ok done) (Err Value) new next a b = absurd b
    one_enable (Err Unknown) (Ok set) new next a b = absurd (not_none b.place b.kind b.entry a.0)
    one_enable (Err Unknown) (Err Unknown) new next a b = (refl, a.1 ∙ sym b.1)
    one_enable (Err Unknown) (Err Kind) new next a b = absurd (not_none b.0.place b.0.kind b.0.entry a.0)
    one_enable (Err Unknown) (Err Value) new next a b = absurd b
    one_enable (Err Kind) (Ok set) new next a b = absurd (enabled_switch next b a.0)
    one_enable (Err Kind) (Err Unknown) new next a b = absurd (not_none a.0.place a.0.kind a.0.entry b.0)
    one_enable (Err Kind) (Err Kind) new next a b = (refl, a.1 ∙ sym b.1)
    one_enable (Err Kind) (Err Value) new next a b = absurd b
    one_enable (Err Value) s new next a b = absurd a

  -- ---- `get`

  module _ (state : State) where
    get_once : (v w : SettingValue) → HasValue g name state v → HasValue g name state w → v ≡ w
    get_once v w a b = same_Some v w
        (sym a.there ∙ ap (slice_get state) (one_place a.place b.place a.kind b.kind a.entry b.entry) ∙ b.there)

    get_setting : (v : SettingValue) → HasValue g name state v → IsOfPreset g name → ⊥
    get_setting v a b = a.setting (subst IsPresetKind (sym (one_kind a.place b.place a.kind b.kind a.entry b.entry)) b.is_preset)

    pub one_get : (r s : Result SettingValue FlagError) → Gets g name state r → Gets g name state s → r ≡ s
    one_get (Ok v) (Ok w) a b = ap Ok (get_once v w a b)
    one_get (Ok v) (Err Unknown) a b = absurd (not_none a.place a.kind a.entry b)
    one_get (Ok v) (Err Kind) a b = absurd (get_setting v a b)
    one_get (Ok v) (Err Value) a b = absurd b
    one_get (Err Unknown) (Ok w) a b = absurd (not_none b.place b.kind b.entry a)
    one_get (Err Unknown) (Err Unknown) a b = refl
    one_get (Err Unknown) (Err Kind) a b = absurd (not_none b.place b.kind b.entry a)
    one_get (Err Unknown) (Err Value) a b = absurd b
    one_get (Err Kind) (Ok w) a b = absurd (get_setting w b a)
    one_get (Err Kind) (Err Unknown) a b = absurd (not_none a.place a.kind a.entry b)
    one_get (Err Kind) (Err Kind) a b = refl
    one_get (Err Kind) (Err Value) a b = absurd b
    one_get (Err Value) s a b = absurd a
