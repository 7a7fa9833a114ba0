-- Items can be made of the layouts of valid groups, and what they declare is laid out in the same way.
use Rattle.std.proofs.Common.{◌≡◌, ℕ, ◌+◌, ◌/◌, Bool, true, false, not, cond, List, [], ◌∷◌, All, map, length, take, drop, slice_get, zero}
use Rattle.std.proofs.Common.{suc, Some}
use Rattle.std.proofs.Common.{refl, sym, ap, ◌∙◌, subst}
use Rattle.std.specs.Str.{IsUtf8}
use Rattle.std.specs.List.{filter}
use Rattle.std.proofs.Math.Seq.{take-append_seam, drop-append_seam}
use Rattle.std.proofs.lemmas.List.Elements.{All-nil, All-cons, All-head, All-tail}
use Rattle.meta_lists.proofs.Everywhere.{everywhere, at_place}
use Rattle.meta_lists.proofs.Mapped.{get_mapped}
use Rattle.meta_settings.specs.declared.proto.ProtoSpecificSetting.{ProtoSpecificSetting}
use Rattle.meta_settings.specs.declared.proto.ProtoSpecificSetting.TheVariants as proto
use Rattle.meta_settings.specs.GroupDeclaration.{SettingDeclaration, GroupDeclaration, is_bool_specific, is_bool, has_own_byte}
use Rattle.meta_settings.specs.GroupDeclaration.{booleans_among, others_among, start_of}
use Rattle.meta_settings.specs.GroupFaults.{IsValidGroup}
use Rattle.meta_settings.specs.Layout.{PlacedSetting, Layout, booleans_in}
use Rattle.meta_settings.specs.LaidOut.{placed_specific, placed_at, in_bytes, in_bits, laid_out, built_of}
use Rattle.meta_settings.proofs.Valid.{start_length}
use Rattle.meta_build.specs.AllDeclared.{AreValidGroups}
use Rattle.meta_file_describe.proofs.DeclaredAgain.{group_again, anew}
use Rattle.meta_file_describe.proofs.LaidAgain.{IsNamedSetting, IsNamedPreset, built_again, comments_again, names_again, booleans_named}
use Rattle.meta_file_describe.proofs.LaidAgain.{booleans_there}
use Rattle.meta_file_describe.proofs.ValidAgain.{valid_again}
use Rattle.meta_file_describe.proofs.Sayable.{is_boolean, IsSayableSetting, IsSayablePreset, IsSayable}

-- ---- booleans come after the other settings

module _ {X : Type 0} (p : X → Bool) where
  -- what passes a test
  all_pass : (xs : List X) → All (λ x. p x ≡ true) (filter p xs)
  all_pass [] = All-nil (λ x. p x ≡ true)
  all_pass (x ∷ xs) =
      elim (p x) as (λ b. p x ≡ b → All (λ x. p x ≡ true) (cond b (x ∷ filter p xs) (filter p xs))) [
        | true ↦ λ t. All-cons (λ x. p x ≡ true) x (filter p xs) t (all_pass xs)
        | false ↦ λ f. all_pass xs
      ] refl

booleans_alone : (k : ℕ) (x : ProtoSpecificSetting) → is_bool_specific x ≡ true → is_boolean (placed_specific k x) ≡ true
booleans_alone k (proto.Bool default) h = refl
booleans_alone k (proto.Enum values) h = cc
booleans_alone k (proto.Num default) h = cc

no_boolean : (k : ℕ) (x : ProtoSpecificSetting) → not (is_bool_specific x) ≡ true → is_boolean (placed_specific k x) ≡ false
no_boolean k (proto.Bool default) h = cc
no_boolean k (proto.Enum values) h = refl
no_boolean k (proto.Num default) h = refl

-- what is in a byte of its own is no boolean, and what is in a bit is one
abbrev IsOther : PlacedSetting → Type 0
IsOther s = is_boolean s.specific ≡ false

abbrev IsBoolean : PlacedSetting → Type 0
IsBoolean s = is_boolean s.specific ≡ true

others_in_bytes : (byte : ℕ) (xs : List SettingDeclaration) → All (λ s. has_own_byte s ≡ true) xs → All IsOther (in_bytes byte xs)
others_in_bytes byte [] all = All-nil IsOther
others_in_bytes byte (s ∷ ss) all = All-cons IsOther (placed_at s byte 0) (in_bytes (byte + 1) ss)
    (no_boolean 0 s.specific (All-head (λ s. has_own_byte s ≡ true) s ss all))
    (others_in_bytes (byte + 1) ss (All-tail (λ s. has_own_byte s ≡ true) s ss all))

booleans_in_bits : (start k : ℕ) (xs : List SettingDeclaration) → All (λ s. is_bool s ≡ true) xs → All IsBoolean (in_bits start k xs)
booleans_in_bits start k [] all = All-nil IsBoolean
booleans_in_bits start k (s ∷ ss) all = All-cons IsBoolean (placed_at s (start + k / 8) k) (in_bits start (k + 1) ss)
    (booleans_alone k s.specific (All-head (λ s. is_bool s ≡ true) s ss all))
    (booleans_in_bits start (k + 1) ss (All-tail (λ s. is_bool s ≡ true) s ss all))

-- ---- groups of which items can be made

module _ (d : GroupDeclaration) (valid : IsValidGroup d) where
  front : take (start_of d) (laid_out d) ≡ in_bytes 0 (others_among d.settings)
  front = ap (λ n. take n (laid_out d)) (sym (start_length d valid))
      ∙ take-append_seam (in_bytes 0 (others_among d.settings)) (in_bits (start_of d) 0 (booleans_among d.settings))

  back : drop (start_of d) (laid_out d) ≡ in_bits (start_of d) 0 (booleans_among d.settings)
  back = ap (λ n. drop n (laid_out d)) (sym (start_length d valid))
      ∙ drop-append_seam (in_bytes 0 (others_among d.settings)) (in_bits (start_of d) 0 (booleans_among d.settings))

  -- items can be made of the layout, where the comments are texts
  pub sayable : All (λ (s : SettingDeclaration). IsUtf8 s.comment) d.settings → IsSayable (built_of d)
  sayable texts =
      let named = names_again d valid in
      let comments = comments_again IsUtf8 d texts in
      record {
        name = named.name;
        settings = everywhere {P = IsSayableSetting} (laid_out d) (λ k s at.
            let own = at_place IsNamedSetting (laid_out d) k s named.settings at in
            record {
              name = own.name;
              description = own.description;
              values = own.values;
              comment = at_place (λ (s : PlacedSetting). IsUtf8 s.comment) (laid_out d) k s comments at;
            });
        presets = everywhere {P = IsSayablePreset (length (booleans_in (built_of d)))} (built_of d).presets (λ k p at.
            let own = at_place IsNamedPreset (built_of d).presets k p named.presets at in
            record { name = own.name; description = own.description; there = booleans_there d valid k p at });
        apart = booleans_named d valid;
        others = subst (All IsOther) (sym front)
            (others_in_bytes 0 (others_among d.settings) (all_pass has_own_byte d.settings));
        booleans = subst (All IsBoolean) (sym back)
            (booleans_in_bits (start_of d) 0 (booleans_among d.settings) (all_pass is_bool d.settings));
      }

-- ---- all groups

-- the layouts of groups, and what is declared anew of these
abbrev pub layouts : List GroupDeclaration → List Layout
layouts ds = map built_of ds

abbrev pub all_anew : List GroupDeclaration → List GroupDeclaration
all_anew ds = map group_again (layouts ds)

-- what stands at a place is declared anew of what stood there
anew_at : (ds : List GroupDeclaration) (k : ℕ) (g : GroupDeclaration) → slice_get (all_anew ds) k ≡ Some g
    → (d : GroupDeclaration) × (slice_get ds k ≡ Some d) × (anew d ≡ g)
anew_at ds k g at =
    let (layout, at_layout, is) = get_mapped group_again (layouts ds) k g at in
    let (d, at_d, laid) = get_mapped built_of ds k layout at_layout in
    (d, at_d, ap group_again laid ∙ is)

pub all_sayable : (ds : List GroupDeclaration) → AreValidGroups ds
    → All (λ (g : GroupDeclaration). All (λ (s : SettingDeclaration). IsUtf8 s.comment) g.settings) ds → All IsSayable (layouts ds)
all_sayable ds valid texts = everywhere (layouts ds) (λ k g at.
    let (d, at_d, laid) = get_mapped built_of ds k g at in
    subst IsSayable laid (sayable d (valid k d at_d)
    (at_place (λ (g : GroupDeclaration). All (λ (s : SettingDeclaration). IsUtf8 s.comment) g.settings) ds k d texts at_d)))

pub all_valid_anew : (ds : List GroupDeclaration) → AreValidGroups ds → AreValidGroups (all_anew ds)
all_valid_anew ds valid k g at =
    let (d, at_d, is) = anew_at ds k g at in
    subst IsValidGroup is (valid_again d (valid k d at_d))

later : (d : GroupDeclaration) (ds : List GroupDeclaration) → AreValidGroups (d ∷ ds) → AreValidGroups ds
later d ds valid k g at = valid (suc k) g at

pub all_built_again : (ds : List GroupDeclaration) → AreValidGroups ds → layouts (all_anew ds) ≡ layouts ds
all_built_again [] valid = refl
all_built_again (d ∷ ds) valid = λ i. built_again d (valid zero d refl) i ∷ all_built_again ds (later d ds valid) i
