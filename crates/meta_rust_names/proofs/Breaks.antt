-- What breaks a comment, from a place on.
use Rattle.std.proofs.Common.{◌≡◌, ◌||◌, ℕ, ◌+◌, ◌<◌, false, List, length, drop, sym, ap, ◌∙◌}
use Rattle.std.proofs.lemmas.List.{drop_more}
use Rattle.meta_rust_names.specs.Comments.{begins_break, breaks_comment}

-- at the place, or after it
at_or_after : (bytes : List ℕ) (k : ℕ) → k < length bytes
    → breaks_comment (drop k bytes) ≡ (begins_break (drop k bytes) || breaks_comment (drop (k + 1) bytes))
at_or_after bytes k within =
    let begins = drop_more bytes k 0 within in
    ap breaks_comment begins ∙ ap (λ (l : List ℕ). begins_break l || breaks_comment (drop (k + 1) bytes)) (sym begins)

pub breaks_after : (bytes rest : List ℕ) (k : ℕ) → k < length bytes → rest ≡ drop k bytes → begins_break rest ≡ false
    → breaks_comment (drop k bytes) ≡ breaks_comment bytes → breaks_comment (drop (k + 1) bytes) ≡ breaks_comment bytes
breaks_after bytes rest k within is goes so =
    sym (ap (λ b. b || breaks_comment (drop (k + 1) bytes)) (ap begins_break (sym is) ∙ goes))
    ∙ (sym (at_or_after bytes k within) ∙ so)
