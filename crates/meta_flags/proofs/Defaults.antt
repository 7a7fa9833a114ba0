-- The defaults of entries, one entry after another.
use Rattle.std.proofs.Common.{◌≡◌, ℕ, ◌+◌, ◌≤◌, List, [], ◌∷◌, ◌++◌, append-nil, length, take, drop, slice_get, Option, None}
use Rattle.std.proofs.Common.{Some, sym, ap, ◌∙◌, subst, arith}
use Rattle.std.specs.Prelude.{slice_index_or}
use Rattle.std.proofs.lemmas.List.{length-drop, length-take}
use Rattle.std.proofs.lemmas.Option.{slice_get_past, same_Some, none-some}
use Rattle.meta_lists.proofs.Everywhere.{at_place}
use Rattle.meta_lists.proofs.Places.{drop_past}
use Rattle.meta_setting_tables.specs.declared.descriptor.Descriptor.{Descriptor}
use Rattle.meta_setting_tables.specs.declared.descriptor.Detail.{Detail}
use Rattle.meta_setting_tables.specs.declared.descriptor.Detail.TheVariants.{Enum as EnumDetail, Num as NumDetail}
use Rattle.meta_setting_tables.specs.EntryValues.{values_in}
use Rattle.meta_setting_tables.specs.GroupTables.{GroupContents, default_in}
use Rattle.meta_setting_tables.specs.WellFormed.{HasValues, HasItsValues, IsWellFormedGroup}
use Rattle.meta_flags.specs.Served.{NumValue, EnumValue, State, default_of, kind_in}
use Rattle.meta_flags.specs.Held.{AreHeld}
use Rattle.meta_flags.proofs.Places.{defaults, counted, settings_first, setting_count}
use Rattle.meta_flags.proofs.OfKinds.{default_kinds}

-- after the last there are no more
pub all_defaults : (t : GroupContents) (ds : List Descriptor) (i : ℕ) (old all : State) → length ds ≤ i
    → old ++ defaults t (drop i ds) ≡ all → old ≡ all
all_defaults t ds i old all past before =
    sym (append-nil old) ∙ ap (λ (xs : List Descriptor). old ++ defaults t xs) (sym (drop_past ds i (slice_get_past ds i past))) ∙ before

-- the defaults are values that the settings can have, one for each setting
pub held : (t : GroupContents) (state : State) → IsWellFormedGroup t → setting_count t.descriptors ≤ length t.descriptors
    → state ≡ defaults t t.descriptors → AreHeld (record { group = t; state = state })
held t state well few is =
    let count : length state ≡ setting_count t.descriptors = ap length is
    ∙ counted t t.descriptors (setting_count t.descriptors) few (settings_first t well) in
    record {
      within = omega (arith, count, few);
      settings = λ e d at. let f = settings_first t well e d at
          in ((λ s. let l = f.0 s in omega (arith, l, count)), (λ l. f.1 (omega (arith, l, count))));
      kinds = default_kinds t state well few is;
    }

-- the list of values of an enum isn't empty
pub some_values : (values enumerators : List (List ℕ)) (last place : ℕ) → values ≡ take (last + 1) (drop place enumerators)
    → place + (last + 1) ≤ length enumerators → length values ≡ 0 → ⊥
some_values values enumerators last place is inside none =
    let count : length (take (last + 1) (drop place enumerators)) ≡ 0 = ap length (sym is) ∙ none in
    let taken = length-take (last + 1) (drop place enumerators) in
    let left = length-drop place enumerators in
    omega (arith, count, taken, left, inside)

-- ---- the default of an entry, by its detail

module _ (t : GroupContents) (index : ℕ) (d : Descriptor) (there : slice_get t.descriptors index ≡ Some d) where
  abbrev own_default : State
  own_default = default_of (kind_in t d.offset d.detail)

  -- a number has one
  pub num_default : (answer : Option ℕ) (default : ℕ) → d.detail ≡ NumDetail
      → answer ≡ default_in (slice_index_or t.defaults d.offset 0) d.detail → answer ≡ Some default → NumValue default ∷ [] ≡ own_default
  num_default answer default is e given =
      let byte : default ≡ slice_index_or t.defaults d.offset 0 =
      same_Some _ _ (sym given ∙ e ∙ ap (default_in (slice_index_or t.defaults d.offset 0)) is) in
      ap (λ n. NumValue n ∷ []) byte ∙ sym (ap (λ (x : Detail). default_of (kind_in t d.offset x)) is)

  pub no_num_default : (answer : Option ℕ) → d.detail ≡ NumDetail → answer ≡ default_in (slice_index_or t.defaults d.offset 0) d.detail
      → answer ≡ None → ⊥
  no_num_default answer is e none = none-some (slice_index_or t.defaults d.offset 0) (sym none ∙ e
      ∙ ap (default_in (slice_index_or t.defaults d.offset 0)) is)

  module _ (last place : ℕ) (is : d.detail ≡ EnumDetail last place) (values : List (List ℕ)) (given : values
      ≡ values_in t.enumerators d.detail) where
    own_values : values ≡ take (last + 1) (drop place t.enumerators)
    own_values = given ∙ ap (values_in t.enumerators) is

    -- an enum has its first value
    pub enum_default : (first : List ℕ) → first ≡ slice_index_or values 0 [] → EnumValue first ∷ [] ≡ own_default
    enum_default first e = ap (λ (v : List ℕ). EnumValue v ∷ []) (e ∙ ap (λ (vs : List (List ℕ)). slice_index_or vs 0 []) own_values)
        ∙ sym (ap (λ (x : Detail). default_of (kind_in t d.offset x)) is)

    -- which it has
    pub has_values : IsWellFormedGroup t → length values ≡ 0 → ⊥
    has_values well none =
        let has : HasValues t.enumerators last place =
        subst (HasItsValues t.enumerators) is
        (at_place (λ (x : Descriptor). HasItsValues t.enumerators x.detail) t.descriptors index d well.values there) in
        some_values values t.enumerators last place own_values has.inside none
