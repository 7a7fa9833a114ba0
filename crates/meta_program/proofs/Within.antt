-- The places of items are within their list.
use Rattle.std.proofs.Common.{◌≡◌, ◌<◌, ◌≤◌, ℕ, ⊎_elim, Bool, List, Some, length, slice_get, sym, arith}
use Rattle.std.specs.List.{position_or_len}
use Rattle.std.proofs.lemmas.List.{length-take}
use Rattle.std.proofs.lemmas.Option.{slice_get_within}
use Rattle.meta_lists.proofs.Places.{get_cases}
use Rattle.meta_file_syntax.specs.declared.items.Item.{Item}
use Rattle.meta_file_declare.specs.Places.{is_group, is_valued, is_bool, places_of, laid_places, before_group}
use Rattle.meta_file_declare.proofs.NthPlaces.{nth_is}

within : (is : Item → Bool) (items : List Item) (n k : ℕ) → slice_get (places_of is items) n ≡ Some k → k < length items
within is items n k h = let nth = nth_is is items n k h in slice_get_within items k nth.item nth.at

-- that of an item which opens a group
pub group_within : (items : List Item) (n k : ℕ) → Some k ≡ slice_get (places_of is_group items) n → k < length items
group_within items n k h = within is_group items n k (sym h)

laid_within : (items : List Item) (n k : ℕ) → slice_get (laid_places items) n ≡ Some k → k < length items
laid_within items n k h =
    ⊎_elim (λ one. within is_valued items n k one) (λ other. within is_bool items other.0 k other.2)
    (get_cases (places_of is_valued items) (places_of is_bool items) n k h)

no_longer : (items : List Item) → length (before_group items) ≤ length items
no_longer items = omega (arith, length-take (position_or_len is_group items) items)

-- that of a setting of a group whose items are the first ones
pub setting_within : (items : List Item) (n k : ℕ) → Some k ≡ slice_get (laid_places (before_group items)) n → k < length items
setting_within items n k h = omega (arith, laid_within (before_group items) n k (sym h), no_longer items)
