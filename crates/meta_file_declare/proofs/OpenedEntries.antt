-- The items that declare groups and entries.
use Rattle.std.proofs.Common.{◌≡◌, ◌≤◌, ◌<◌, ℕ, zero, suc, ◌+◌, List, [], ◌∷◌, ◌++◌, Some, take, drop, slice_get, refl, sym, ap}
use Rattle.std.proofs.Common.{◌∙◌, arith}
use Rattle.std.specs.Prelude.{option_map, option_and_then}
use Rattle.std.specs.List.{count_by, position_or_len}
use Rattle.meta_lists.proofs.Places.{get_taken, get_drop}
use Rattle.meta_settings.specs.GroupDeclaration.{GroupDeclaration, Entry, entries_of}
use Rattle.meta_file_syntax.specs.declared.items.Item.{Item}
use Rattle.meta_file_syntax.specs.declared.items.Item.TheVariants as item
use Rattle.meta_file_declare.specs.Places.{is_group, before_group, place_of_group, entry_after, place_of_entry}
use Rattle.meta_file_declare.specs.Wrong.{last_entries}
use Rattle.meta_file_declare.specs.Said.{groups_of, group_with}
use Rattle.meta_file_declare.specs.Entries.{DeclaresGroup, DeclaresEntry}
use Rattle.meta_file_declare.proofs.NthPlaces.{nth_is}
use Rattle.meta_file_declare.proofs.GroupItems.{IsOpened, opened, none_before, last_after, count_after}
use Rattle.meta_file_declare.proofs.EntryItems.{IsEntryItem, entry_item}

-- a group is declared by the item that opens it
pub group_declared : (items : List Item) (groups : List GroupDeclaration) (g : ℕ) (group : GroupDeclaration) → groups ≡ groups_of items
    → slice_get groups g ≡ Some group → (k : ℕ) × (place_of_group items g ≡ Some k) × DeclaresGroup items groups k g
group_declared items groups g group said at =
    let o = opened items g group (ap (λ (gs : List GroupDeclaration). slice_get gs g) (sym said) ∙ at) in (
      o.place,
      o.is_place,
      record {
        name = o.name;
        at = o.at;
        above = (nth_is is_group items g o.place o.is_place).above;
        stands = at ∙ ap (λ (x : GroupDeclaration). Some x) o.is;
      },
    )

-- the items of a group above one of them
taken : (xs : List Item) (p j : ℕ) → j ≤ p → take j (take p xs) ≡ take j xs
taken xs p zero l = refl
taken [] zero (suc j) l = refl
taken [] (suc p) (suc j) l = refl
taken (x ∷ xs) zero (suc j) l = absurd (omega (arith, l))
taken (x ∷ xs) (suc p) (suc j) l = ap (λ (ys : List Item). x ∷ ys) (taken xs p j (omega (arith, l)))

below_taken : (xs : List Item) (p j : ℕ) (i : Item) → slice_get (take p xs) j ≡ Some i → j < p
below_taken xs zero j i h = absurd (cc)
below_taken [] (suc p) j i h = absurd (cc)
below_taken (x ∷ xs) (suc p) zero i h = omega arith
below_taken (x ∷ xs) (suc p) (suc j) i h = let l = below_taken xs p j i h in omega (arith, l)

-- up to an item after a group
parts : (xs : List Item) (k : ℕ) (x : Item) (j : ℕ) → slice_get xs k ≡ Some x
    → take (k + 1 + j) xs ≡ take k xs ++ x ∷ take j (drop (k + 1) xs)
parts [] k x j h = absurd (cc)
parts (y ∷ xs) zero x j h =
    let here : y ≡ x = cc in
    let e : 0 + 1 + j ≡ suc j = omega arith in
    ap (λ (n : ℕ). take n (y ∷ xs)) e ∙ ap (λ (z : Item). z ∷ take j xs) here
parts (y ∷ xs) (suc k) x j h =
    let e : suc k + 1 + j ≡ suc (k + 1 + j) = omega arith in
    let d : suc k + 1 ≡ suc (k + 1) = omega arith in
    ap (λ (n : ℕ). take n (y ∷ xs)) e ∙ ap (λ (ys : List Item). y ∷ ys) (parts xs k x j h)
    ∙ ap (λ (n : ℕ). y ∷ take k xs ++ x ∷ take j (drop n (y ∷ xs))) (sym d)

-- an entry is declared by the item that it is
in_group : (items : List Item) (groups : List GroupDeclaration) (g e : ℕ) (x : Entry) (group : GroupDeclaration)
    (o : IsOpened items g group)
    → slice_get groups g ≡ Some group → slice_get (entries_of (group_with o.name (before_group (drop (o.place + 1) items)))) e ≡ Some x
    → IsEntryItem o.name (before_group (drop (o.place + 1) items)) e x
    → (k : ℕ) × (place_of_entry items g e ≡ Some k) × DeclaresEntry items groups k g e
in_group items groups g e x group o at has h =
    let after = drop (o.place + 1) items in
    let entries = before_group after in
    let first = position_or_len is_group after in
    let less : h.place < first = below_taken after first h.place h.item h.at in
    let above : take h.place entries ≡ take h.place after = taken after first h.place (omega (arith, less)) in
    let none = none_before after h.place (omega (arith, less)) in
    let split : take (o.place + 1 + h.place) items ≡ take o.place items ++ item.Group o.name ∷ take h.place after =
    parts items o.place (item.Group o.name) h.place o.at in (
      o.place + 1 + h.place,
      ap (option_and_then (entry_after items e)) o.is_place ∙ ap (option_map (λ (k : ℕ). o.place + 1 + k)) h.is_place,
      record {
        item = h.item;
        above = take h.place entries;
        group = group_with o.name entries;
        entry = x;
        at = sym (get_drop items (o.place + 1) h.place) ∙ get_taken after first h.place h.item h.at;
        after = ap last_entries split ∙ last_after (take o.place items) (item.Group o.name) (take h.place after) refl none.0
            ∙ ap (λ (es : List Item). Some es) (sym above);
        groups_above = ap (λ (is : List Item). count_by is_group is) split
            ∙ count_after (take o.place items) (item.Group o.name) (take h.place after) refl none.1
            ∙ ap (λ (n : ℕ). n + 1) (nth_is is_group items g o.place o.is_place).above;
        group_is = at ∙ ap (λ (y : GroupDeclaration). Some y) o.is;
        number = h.number;
        says = h.says;
        stands = has;
      },
    )

pub entry_declared : (items : List Item) (groups : List GroupDeclaration) (g e : ℕ) (group : GroupDeclaration) (x : Entry)
    → groups ≡ groups_of items → slice_get groups g ≡ Some group → slice_get (entries_of group) e ≡ Some x
    → (k : ℕ) × (place_of_entry items g e ≡ Some k) × DeclaresEntry items groups k g e
entry_declared items groups g e group x said at has =
    let o = opened items g group (ap (λ (gs : List GroupDeclaration). slice_get gs g) (sym said) ∙ at) in
    let here : slice_get (entries_of (group_with o.name (before_group (drop (o.place + 1) items)))) e ≡ Some x =
    ap (λ (y : GroupDeclaration). slice_get (entries_of y) e) (sym o.is) ∙ has in
    in_group items groups g e x group o at here (entry_item o.name (before_group (drop (o.place + 1) items)) e x here)
