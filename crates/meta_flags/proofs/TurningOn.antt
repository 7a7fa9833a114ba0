-- Values that are turned on, one after another.
use Rattle.std.proofs.Common.{◌≡◌, ℕ, zero, suc, ◌+◌, Bool, true, false, List, [], ◌∷◌, length, map, take, slice_get, slice_set, Some, refl}
use Rattle.std.proofs.Common.{sym, ap, ◌∙◌, arith}
use Rattle.std.specs.Prelude.{if◌then◌else◌}
use Rattle.std.proofs.lemmas.Option.{same_Some}
use Rattle.meta_setting_tables.specs.declared.descriptor.Descriptor.{Descriptor}
use Rattle.meta_setting_tables.specs.EntryValues.{is_on, masks_from}
use Rattle.meta_setting_tables.specs.GroupTables.{GroupContents}
use Rattle.meta_flags.specs.Served.{BoolValue, State, marks_in}
use Rattle.meta_flags.specs.Changes.{with_marked_true}
use Rattle.meta_flags.specs.Held.{AreSettings}
use Rattle.meta_flags.proofs.Places.{settings_taken}

-- what becomes of the values by as many marks as there are, is of as many values
pub length-turned_on : (marks : List Bool) (state : State) → length (with_marked_true marks state) ≡ length state
length-turned_on [] state = refl
length-turned_on (mark ∷ marks) [] = refl
length-turned_on (mark ∷ marks) (v ∷ vs) = ap suc (length-turned_on marks vs)

-- one more is turned on
on_at : (marks : List Bool) (k : ℕ) (state : State) → slice_get marks k ≡ Some true
    → with_marked_true (take (suc k) marks) state ≡ slice_set (with_marked_true (take k marks) state) k (BoolValue true)
on_at [] k state at = absurd (cc)
on_at (mark ∷ marks) zero [] at = refl
on_at (mark ∷ marks) zero (v ∷ vs) at = ap (λ b. (if b then BoolValue true else v) ∷ vs) (same_Some mark true at)
on_at (mark ∷ marks) (suc k) [] at = refl
on_at (mark ∷ marks) (suc k) (v ∷ vs) at = ap (λ (xs : State). (if mark then BoolValue true else v) ∷ xs) (on_at marks k vs at)

-- one more isn't
off_at : (marks : List Bool) (k : ℕ) (state : State) → slice_get marks k ≡ Some false
    → with_marked_true (take (suc k) marks) state ≡ with_marked_true (take k marks) state
off_at [] k state at = absurd (cc)
off_at (mark ∷ marks) zero [] at = refl
off_at (mark ∷ marks) zero (v ∷ vs) at = ap (λ b. (if b then BoolValue true else v) ∷ vs) (same_Some mark false at)
off_at (mark ∷ marks) (suc k) [] at = refl
off_at (mark ∷ marks) (suc k) (v ∷ vs) at = ap (λ (xs : State). (if mark then BoolValue true else v) ∷ xs) (off_at marks k vs at)

pub one_on : (marks : List Bool) (k : ℕ) (state now : State) → slice_get marks k ≡ Some true → now ≡ with_marked_true (take k marks) state
    → slice_set now k (BoolValue true) ≡ with_marked_true (take (k + 1) marks) state
one_on marks k state now at so_far =
    let next : suc k ≡ k + 1 = omega arith in
    ap (λ (xs : State). slice_set xs k (BoolValue true)) so_far ∙ sym (on_at marks k state at)
    ∙ ap (λ n. with_marked_true (take n marks) state) next

pub one_off : (marks : List Bool) (k : ℕ) (state now : State) → slice_get marks k ≡ Some false
    → now ≡ with_marked_true (take k marks) state → now ≡ with_marked_true (take (k + 1) marks) state
one_off marks k state now at so_far =
    let next : suc k ≡ k + 1 = omega arith in
    so_far ∙ sym (off_at marks k state at) ∙ ap (λ n. with_marked_true (take n marks) state) next

-- what is turned on by the masks of a preset, among the settings, is what it marks
pub turned_by : (t : GroupContents) (state new : State) (offset : ℕ) (bytes : List ℕ) (some : List Descriptor)
    → AreSettings t.descriptors (length state) → bytes ≡ masks_from (length t.defaults) t.preset_masks offset
    → some ≡ take (length state) t.descriptors
    → new ≡ with_marked_true (map (λ (d : Descriptor). is_on bytes d.offset d.detail) some) state
    → new ≡ with_marked_true (marks_in t offset) state
turned_by t state new offset bytes some settings masks taken is =
    let all = taken ∙ sym (settings_taken t.descriptors (length state) settings) in
    is ∙ (λ i. with_marked_true (map (λ (d : Descriptor). is_on (masks i) d.offset d.detail) (all i)) state)
