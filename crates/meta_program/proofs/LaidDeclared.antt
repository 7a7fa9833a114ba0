-- The items that declare the settings of groups as these are built.
use Rattle.std.proofs.Common.{◌≡◌, ◌≤◌, ℕ, ◌+◌, List, [], ◌∷◌, ◌++◌, Some, map, take, drop, slice_get, refl, sym, ap, ◌∙◌}
use Rattle.std.proofs.Common.{append_assoc, take-add, arith}
use Rattle.std.specs.Prelude.{option_map, option_and_then}
use Rattle.std.specs.List.{count_by, position_or_len}
use Rattle.std.proofs.lemmas.List.{length-take}
use Rattle.std.proofs.lemmas.Option.{slice_get_within}
use Rattle.meta_lists.proofs.Places.{get_taken, get_drop, take_next}
use Rattle.meta_lists.proofs.Mapped.{get_mapped}
use Rattle.meta_settings.specs.GroupDeclaration.{GroupDeclaration}
use Rattle.meta_settings.specs.Layout.{PlacedSetting, Layout}
use Rattle.meta_settings.specs.LaidOut.{built_of}
use Rattle.meta_file_syntax.specs.declared.items.Item.{Item}
use Rattle.meta_file_syntax.specs.declared.items.Item.TheVariants as item
use Rattle.meta_file_declare.specs.Places.{is_group, before_group}
use Rattle.meta_file_declare.specs.Said.{groups_of, group_with}
use Rattle.meta_file_declare.proofs.NthPlaces.{nth_is}
use Rattle.meta_file_declare.proofs.GroupItems.{IsOpened, opened, none_before, count_after}
use Rattle.meta_program.specs.Places.{setting_after, place_in_group}
use Rattle.meta_program.specs.NamedItems.{DeclaresLaid}
use Rattle.meta_program.proofs.LaidItems.{IsLaidItem, laid_item}

-- up to an item after another one
parts : (items : List Item) (k j : ℕ) (x : Item) → slice_get items k ≡ Some x
    → take (k + 1 + j) items ≡ take k items ++ x ∷ take j (drop (k + 1) items)
parts items k j x at =
    take-add (k + 1) j items ∙ ap (λ (is : List Item). is ++ take j (drop (k + 1) items)) (take_next items k x at)
    ∙ append_assoc (take k items) (x ∷ []) (take j (drop (k + 1) items))

below_taken : (items : List Item) (p j : ℕ) (i : Item) → slice_get (take p items) j ≡ Some i → j ≤ p
below_taken items p j i at = let l = slice_get_within (take p items) j i at in omega (arith, l, length-take p items)

after_opener : (items : List Item) (groups : List Layout) (g n : ℕ) (group : GroupDeclaration) (layout : Layout) (p : PlacedSetting)
    → (o : IsOpened items g group) → slice_get groups g ≡ Some layout → slice_get layout.settings n ≡ Some p
    → IsLaidItem (before_group (drop (o.place + 1) items)) n p
    → (k : ℕ) × (place_in_group items g (Some n) ≡ Some k) × DeclaresLaid items groups k g n
after_opener items groups g n group layout p o built stands h =
    let after = drop (o.place + 1) items in
    let first = position_or_len is_group after in
    let none = none_before after h.place (below_taken after first h.place h.item h.at) in (
      o.place + 1 + h.place,
      ap (option_and_then (setting_after items n)) o.is_place ∙ ap (option_map (λ (k : ℕ). o.place + 1 + k)) h.is_place,
      record {
        item = h.item;
        setting = h.setting;
        layout = layout;
        placed = p;
        byte = h.byte;
        boolean = h.boolean;
        at = sym (get_drop items (o.place + 1) h.place) ∙ get_taken after first h.place h.item h.at;
        groups_above = ap (λ (is : List Item). count_by is_group is) (parts items o.place h.place (item.Group o.name) o.at)
            ∙ count_after (take o.place items) (item.Group o.name) (take h.place after) refl none.1
            ∙ ap (λ (m : ℕ). m + 1) (nth_is is_group items g o.place o.is_place).above;
        says = h.says;
        built = built;
        stands = stands;
        is = h.is;
      },
    )

-- the setting that stands at place n of a group as it is built
pub laid_declared : (items : List Item) (groups : List GroupDeclaration) (layouts : List Layout) (g n : ℕ) (x : Layout) (p : PlacedSetting)
    → groups ≡ groups_of items → layouts ≡ map built_of groups → slice_get layouts g ≡ Some x → slice_get x.settings n ≡ Some p
    → (k : ℕ) × (place_in_group items g (Some n) ≡ Some k) × DeclaresLaid items layouts k g n
laid_declared items groups layouts g n x p said are built stands =
    let declared = get_mapped built_of groups g x (ap (λ (ls : List Layout). slice_get ls g) (sym are) ∙ built) in
    let o = opened items g declared.0 (ap (λ (gs : List GroupDeclaration). slice_get gs g) (sym said) ∙ declared.1) in
    let entries = before_group (drop (o.place + 1) items) in
    let same : built_of (group_with o.name entries) ≡ x = ap built_of (sym o.is) ∙ declared.2 in
    after_opener items layouts g n declared.0 x p o built stands
    (laid_item o.name entries n p (ap (λ (l : Layout). slice_get l.settings n) same ∙ stands))
