-- Steps of the filling of a template.
use Rattle.std.proofs.Common.{◌≡◌, ℕ, List, [], ◌∷◌, ◌++◌, append_assoc, ap, sym, ◌∙◌, Result, Ok, Err, is_ok}
use Rattle.std.proofs.Common.{OnOk, if◌then◌else◌, Option, Some, None, MatchOption, arith, false, ◌≢◌}
use Rattle.std.proofs.lemmas.Str.Pattern.{IsSplitOnceResult, split_once_first, split_parts}
use Rattle.std.proofs.lemmas.List.Splits.{slice_split_none, slice_split_first}
use Rattle.std.proofs.lemmas.List.Elements.{All-from_get_or}
use Rattle.std.proofs.lemmas.Bool.Decides.{nat_tests}
use Rattle.std.specs.List.{slice_split, after_first}
use denote.Ref.{Bor}
use Rattle.meta_text.specs.Filled.{is_mark, text_named, by_turns, filled}

is_no_mark : (byte : ℕ) → byte ≢ 36 → is_mark byte ≡ false
is_no_mark byte other = grind (arith, nat_tests)

-- the parts of a text that is cut at its first mark are what stands before the mark, and the parts of what stands after it
pub cut_parts : (text : List ℕ) (r : Option (Bor (List ℕ) × Bor (List ℕ))) → IsSplitOnceResult 36 text r
    → MatchOption r (slice_split is_mark text ≡ text ∷ []) (λ x. slice_split is_mark text ≡ x.0.now ∷ slice_split is_mark x.1.now)
cut_parts text None h =
    let lacks = split_parts 36 text None h (omega arith) in
    slice_split_none is_mark text (All-from_get_or (λ x. is_mark x ≡ false) text 0 (λ i below. is_no_mark _ (lacks i below)))
cut_parts text (Some x) h =
    let at = split_once_first 36 text (Some x) h (omega arith) in
    slice_split_first is_mark text 0 at.0 ∙ ap (λ b. b ∷ slice_split is_mark (after_first is_mark text)) (sym at.1)
    ∙ ap (λ a. x.0.now ∷ slice_split is_mark a) (sym at.2)

-- one more hole is filled
pub moved : (out left : List ℕ) (holes texts : List (List ℕ)) (whole : List ℕ) (name rest before after : List ℕ) {o p t : List ℕ}
    → slice_split is_mark left ≡ before ∷ slice_split is_mark after
    → by_turns holes texts (before ∷ slice_split is_mark after) ≡ before ++ (text_named holes texts name ++ filled rest holes texts)
    → t ≡ text_named holes texts name → o ≡ out ++ before → p ≡ o ++ t
    → out ++ filled left holes texts ≡ whole
    → p ++ filled rest holes texts ≡ whole
unfolding filled
moved out left holes texts whole name rest before after {o} {p} {t} parts turn named first second so_far =
    let n = text_named holes texts name in
    let r = filled rest holes texts in
    let written : p ++ r ≡ ((out ++ before) ++ n) ++ r = cc in
    let joined : ((out ++ before) ++ n) ++ r ≡ out ++ (before ++ (n ++ r)) = simp append_assoc in
    written ∙ joined ∙ ap (λ x. out ++ x) (sym (ap (by_turns holes texts) parts ∙ turn)) ∙ so_far

-- where there is no hole, the rest stands as it is
pub ended : {T E : Type 0} (r : Result T E) (out left : List ℕ) (holes texts : List (List ℕ)) (whole : List ℕ) {new : List ℕ}
    → slice_split is_mark left ≡ left ∷ [] → new ≡ (if is_ok r then (out ++ left) else out)
    → out ++ filled left holes texts ≡ whole → OnOk r (new ≡ whole)
unfolding filled
ended (Ok v) out left holes texts whole parts added so_far =
    added ∙ ap (λ x. out ++ x) (sym (ap (by_turns holes texts) parts)) ∙ so_far
ended (Err f) out left holes texts whole parts added so_far = tt

-- a filled template is this text, if it is so with texts that are the same
pub filled_is : (out template : List ℕ) (holes texts others : List (List ℕ)) (text : List ℕ) {new : List ℕ}
    → new ≡ out ++ filled template holes texts → texts ≡ others → filled template holes others ≡ text → new ≡ out ++ text
filled_is out template holes texts others text added same is =
    added ∙ ap (λ t. out ++ t) (ap (filled template holes) same ∙ is)
