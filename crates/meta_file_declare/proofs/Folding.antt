-- What items declare after one more item, and what is wrong with that.
use Rattle.std.proofs.Common.{◌≡◌, ℕ, zero, suc, ◌+◌, List, [], ◌∷◌, ◌++◌, Option, Some, None, length, take, slice_get, refl, sym, ap}
use Rattle.std.proofs.Common.{◌∙◌, arith}
use Rattle.std.proofs.Common.{add-zero}
use Rattle.std.specs.Prelude.{option_and_then}
use Rattle.std.specs.Option.{option_or}
use Rattle.meta_lists.proofs.Places.{take_next}
use Rattle.meta_file_syntax.specs.declared.items.Item.{Item}
use Rattle.meta_file_syntax.specs.declared.items.Item.TheVariants as item
use Rattle.meta_file_types.specs.Said as types
use Rattle.meta_file_declare.specs.SaidOfInsts as insts
use Rattle.meta_file_declare.specs.SaidOfInsts.{Above, with_types, after, nothing_said, said_from, said}
use Rattle.meta_file_types.specs.declared.refused.Reason.{Reason}
use Rattle.meta_file_declare.specs.Wrong as groups
use Rattle.meta_file_declare.specs.AllItems.{wrong_of_set, wrong_with, wrong_below, wrong_in}

-- ---- one item more

from_more : (a : Above) (place : ℕ) (items : List Item) (i : Item)
    → said_from a place (items ++ i ∷ []) ≡ after (said_from a place items) (place + length items) i
from_more a place [] i = ap (λ (n : ℕ). after a n i) (sym (add-zero place))
from_more a place (x ∷ items) i =
    let next : (place + 1) + length items ≡ place + length (x ∷ items) = omega arith in
    from_more (after a place x) (place + 1) items i
    ∙ ap (λ (n : ℕ). after (said_from (after a place x) (place + 1) items) n i) next

pub length_taken : (items : List Item) (k : ℕ) (i : Item) → slice_get items k ≡ Some i → length (take k items) ≡ k
length_taken [] k i h = absurd (cc)
length_taken (x ∷ items) zero i h = refl
length_taken (x ∷ items) (suc k) i h = ap (λ (n : ℕ). suc n) (length_taken items k i h)

pub said_more : (items : List Item) (k : ℕ) (i : Item) → slice_get items k ≡ Some i
    → said (take (k + 1) items) ≡ after (said (take k items)) k i
said_more items k i at =
    let place : 0 + length (take k items) ≡ k = omega (arith, length_taken items k i at) in
    ap said (take_next items k i at) ∙ from_more nothing_said 0 (take k items) i
    ∙ ap (λ (n : ℕ). after (said (take k items)) n i) place

-- ---- what is wrong with it

pub wrong_here : (items : List Item) (k : ℕ) (i : Item) → slice_get items k ≡ Some i
    → wrong_in items k ≡ wrong_with (said (take k items)) (groups.known_after (take k items)) i
wrong_here items k i at = ap (option_and_then (wrong_below (take k items))) at

-- a format or an instruction isn't about types and kinds
pub insts_wrong : (a : Above) (place : ℕ) (i : Item) → insts.wrong_with (with_types a place i) i ≡ insts.wrong_with a i
insts_wrong a place (item.Group n) = refl
insts_wrong a place (item.Type i) = refl
insts_wrong a place (item.Alias i) = refl
insts_wrong a place (item.Kind i) = refl
insts_wrong a place (item.Format i) = refl
insts_wrong a place (item.Inst i) = refl
insts_wrong a place (item.Bool i) = refl
insts_wrong a place (item.Num i) = refl
insts_wrong a place (item.Enum i) = refl
insts_wrong a place (item.Preset i) = refl

-- nothing is wrong with either
pub or_none : {X : Type 0} (a b : Option X) → option_or a b ≡ None → (a ≡ None) × (b ≡ None)
or_none None b h = (refl, h)
or_none (Some x) b h = absurd (cc)

-- nothing is wrong with a format or an instruction
pub insts_right : (items : List Item) (k : ℕ) (i : Item) → slice_get items k ≡ Some i → wrong_in items k ≡ None
    → insts.wrong_with (said (take k items)) i ≡ None
insts_right items k i at h =
    let a = said (take k items) in
    let all = or_none (wrong_of_set a i) _ (sym (wrong_here items k i at) ∙ h) in
    (or_none (types.wrong_with a.types i) (insts.wrong_with a i) all.0).1

-- nor with a group or an entry
pub groups_right : (items : List Item) (k : ℕ) (i : Item) → slice_get items k ≡ Some i → wrong_in items k ≡ None
    → groups.wrong_with (groups.known_after (take k items)) i ≡ None
groups_right items k i at h =
    (or_none (wrong_of_set (said (take k items)) i) _ (sym (wrong_here items k i at) ∙ h)).1

-- ---- parts of what is wrong

-- with a type or a kind
pub type_wrong : (a : Above) (i : Item) (reason : _) → types.wrong_with a.types i ≡ Some reason → wrong_of_set a i ≡ Some reason
type_wrong a i reason h = ap (λ (o : _). option_or o (insts.wrong_with a i)) h

-- with a format or an instruction, where nothing is wrong with a type or a kind
pub inst_wrong : (a : Above) (place : ℕ) (i : Item) (reason : _) → types.wrong_with a.types i ≡ None
    → insts.wrong_with (with_types a place i) i ≡ Some reason → wrong_of_set a i ≡ Some reason
inst_wrong a place i reason none h =
    ap (λ (o : _). option_or o (insts.wrong_with a i)) none
    ∙ sym (insts_wrong a place i) ∙ h

-- with none
pub set_right : (a : Above) (place : ℕ) (i : Item) → types.wrong_with a.types i ≡ None → insts.wrong_with (with_types a place i) i ≡ None
    → wrong_of_set a i ≡ None
set_right a place i none h =
    ap (λ (o : _). option_or o (insts.wrong_with a i)) none
    ∙ sym (insts_wrong a place i) ∙ h

-- with a group or an entry, where nothing else is wrong
pub group_wrong : (items : List Item) (k : ℕ) (i : Item) → slice_get items k ≡ Some i → wrong_of_set (said (take k items)) i ≡ None
    → wrong_in items k ≡ groups.wrong_with (groups.known_after (take k items)) i
group_wrong items k i at h =
    wrong_here items k i at ∙ ap (λ (o : Option Reason). option_or o (groups.wrong_with (groups.known_after (take k items)) i)) h

pub set_wrong : (items : List Item) (k : ℕ) (i : Item) (reason : Reason) → slice_get items k ≡ Some i
    → wrong_of_set (said (take k items)) i ≡ Some reason → wrong_in items k ≡ Some reason
set_wrong items k i reason at h =
    wrong_here items k i at ∙ ap (λ (o : Option Reason). option_or o (groups.wrong_with (groups.known_after (take k items)) i)) h
