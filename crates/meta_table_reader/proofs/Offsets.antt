-- The places of type sets, as versions show them.
use Rattle.std.proofs.Common.{◌≡◌, ℕ, ◌<◌, ◌^◌, ◌==◌, cond, false, inl, inr, refl, sym, ap, ◌∙◌, arith}
use Rattle.std.proofs.lemmas.Bool.Decides.{nat_tests}
use Rattle.meta_inst.specs.Tables.{no_type_set}
use Rattle.meta_table_text.specs.declared.version.Version.{Version}
use Rattle.meta_table_text.specs.declared.version.Version.TheVariants.{One, Two, Three}
use Rattle.meta_table_text.specs.Version.{none_of, offset_shown}
use Rattle.meta_table_reader.specs.Shown.{IsShownOffset}

-- what is shown for none, and what else
shown_none : (v : Version) → offset_shown v 65535 ≡ none_of v
shown_none One = refl
shown_none Two = refl
shown_none Three = refl

most_shown : (v : Version) → none_of v < 65536
most_shown One = omega arith
most_shown Two = omega arith
most_shown Three = omega arith

other : (offset : ℕ) → offset < 65535 → (offset == no_type_set) ≡ false
other offset small = grind (arith, nat_tests)

shown_other : (v : Version) (offset : ℕ) → offset < none_of v → offset_shown v offset ≡ offset
shown_other v offset small = let most = most_shown v in ap (λ b. cond b (none_of v) offset) (other offset (omega arith))

-- a place that is shown fits 16 bits
pub shown_small : (v : Version) (offset : ℕ) → IsShownOffset v offset → offset_shown v offset < 2 ^ 16
shown_small v offset (inl below) = let most = most_shown v in let same = shown_other v offset below in omega arith
shown_small v offset (inr none) = let most = most_shown v in let same = ap (offset_shown v) none ∙ shown_none v in omega (arith, most, same)

-- if the number in the text is the one for no type set, there is no type set, and else it is the place
pub none_back : (v : Version) (offset shown : ℕ) → IsShownOffset v offset → shown ≡ offset_shown v offset
    → shown ≡ none_of v → 65535 ≡ offset
none_back v offset shown (inl below) is none = let same = shown_other v offset below in absurd (omega (arith, same, below, is, none))
none_back v offset shown (inr no_set) is none = sym no_set

pub place_back : (v : Version) (offset shown : ℕ) → IsShownOffset v offset → shown ≡ offset_shown v offset
    → (shown ≡ none_of v → ⊥) → shown ≡ offset
place_back v offset shown (inl below) is some = is ∙ shown_other v offset below
place_back v offset shown (inr no_set) is some = absurd (some (is ∙ ap (offset_shown v) no_set ∙ shown_none v))

-- what is shown tells the place
pub offset_told : (v : Version) (m n : ℕ) → IsShownOffset v m → IsShownOffset v n → offset_shown v m ≡ offset_shown v n → m ≡ n
offset_told v m n (inl one) (inl other) e = sym (shown_other v m one) ∙ e ∙ shown_other v n other
offset_told v m n (inl one) (inr other) e =
    let here = shown_other v m one in let there = ap (offset_shown v) other ∙ shown_none v in absurd (omega (arith, one, here, there, e))
offset_told v m n (inr one) (inl other) e =
    let here = ap (offset_shown v) one ∙ shown_none v in let there = shown_other v n other in absurd (omega (arith, other, here, there, e))
offset_told v m n (inr one) (inr other) e = one ∙ sym other
