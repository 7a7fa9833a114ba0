-- The items before the first group.
use Rattle.std.proofs.Common.{◌≡◌, ◌≤◌, ℕ, List, Bool, true, false, cond, Some, None, length, take, refl, sym, ap}
use Rattle.std.specs.Prelude.{nat_lt}
use Rattle.std.specs.List.{position, position_or_len}
use Rattle.std.proofs.lemmas.Bool.{ltb-false}
use Rattle.std.proofs.lemmas.List.{take_all}
use Rattle.meta_file_syntax.specs.declared.items.Item.{Item}
use Rattle.meta_file_declare.specs.Places.{is_group, before_group}

found_by : (b : Bool) (n place : ℕ) → Some place ≡ cond b (Some n) None → place ≡ n
found_by true n place h = cc
found_by false n place h = cc

-- those in front of its place
pub before_found : (items : List Item) (place : ℕ) → Some place ≡ position is_group items → take place items ≡ before_group items
before_found items place h = ap (λ (n : ℕ). take n items) (found_by _ (position_or_len is_group items) place h)

none_by : (n m : ℕ) (b : Bool) → nat_lt n m ≡ b → None ≡ cond b (Some n) None → m ≤ n
none_by n m true e h = cc
none_by n m false e h = ltb-false n m e

-- all, where there is no group
pub before_none : (items : List Item) → None ≡ position is_group items → items ≡ before_group items
before_none items h =
    sym (take_all (position_or_len is_group items) items (none_by (position_or_len is_group items) (length items) _ refl h))
