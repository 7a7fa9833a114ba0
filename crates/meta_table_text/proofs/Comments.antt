-- The comments on controls.
use Rattle.std.proofs.Common.{◌≡◌, ◌≢◌, ◌⊎◌, inl, inr, ℕ, ◌<◌, ◌≤◌, ◌==◌, Bool, List, [], length, slice_get, Option, None, Some}
use Rattle.std.proofs.Common.{MatchOption, Bor, if◌then◌else◌, refl, sym, ap, ◌∙◌}
use Rattle.std.specs.List.{HoldsAt}
use Rattle.std.specs.Option.{option_map}
use Rattle.std.proofs.lemmas.Bool.{ne_eqb}
use Rattle.std.proofs.lemmas.Option.{slice_get_past, slice_get_read}
use Rattle.meta_inst.specs.Tables.{TableContents, OpcodeNumbers, no_type_set}
use Rattle.meta_table_text.specs.declared.version.Version.{Version}
use Rattle.meta_table_text.specs.declared.version.Version.TheVariants.{One, Two, Three}
use Rattle.meta_table_text.specs.TypeSetText.{set_or_nothing, set_comment}
use Rattle.meta_table_text.specs.OpcodeText.{control_comment, second_comment}

-- what is found in a list is what stands there
pub found_there : {X : Type 0} (xs : List X) (i : ℕ) (o : Option (Bor X))
    → MatchOption o (length xs ≤ i) (λ x. (i < length xs) × HoldsAt (λ y. x.now ≡ y) xs i)
    → option_map (λ (x : Bor X). x.now) o ≡ slice_get xs i
found_there xs i None past = sym (slice_get_past xs i past)
found_there xs i (Some x) at = sym (slice_get_read xs (length xs) i x.now refl at.0 (at.1 x.now))

-- there is no comment without a control
pub no_comment : (t : TableContents) (about : List ℕ) (offset : ℕ) → offset ≡ no_type_set → control_comment t about offset ≡ []
unfolding control_comment
no_comment t about offset none =
    ap (λ (o : ℕ). if o == no_type_set then [] else set_comment about (set_or_nothing (slice_get t.type_sets o))) none

-- and there is one with it
pub comment : (t : TableContents) (about : List ℕ) (offset : ℕ) → offset ≢ no_type_set
    → control_comment t about offset ≡ set_comment about (set_or_nothing (slice_get t.type_sets offset))
unfolding control_comment
comment t about offset some = ap (λ (b : Bool). if b then [] else set_comment about (set_or_nothing (slice_get t.type_sets offset)))
    (ne_eqb offset no_type_set some)

-- version 1 shows nothing of the second control
pub second_hidden : (v : Version) (t : TableContents) (e : OpcodeNumbers) → v ≡ One → second_comment v t e ≡ []
unfolding second_comment
second_hidden v t e is = ap (λ (w : Version). second_comment w t e) is

-- and the others do
pub second_shown : (v : Version) (t : TableContents) (e : OpcodeNumbers) (text : List ℕ) → second_comment Two t e ≡ text
    → second_comment Three t e ≡ text → (v ≡ Two) ⊎ (v ≡ Three) → second_comment v t e ≡ text
second_shown v t e text two three (inl is) = ap (λ (w : Version). second_comment w t e) is ∙ two
second_shown v t e text two three (inr is) = ap (λ (w : Version). second_comment w t e) is ∙ three
