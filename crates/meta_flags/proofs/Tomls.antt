-- The lines of the settings, one setting after another.
use Rattle.std.proofs.Common.{◌≡◌, ℕ, ◌+◌, ◌≤◌, List, [], ◌∷◌, ◌++◌, length, append_assoc, append-nil, drop, slice_get, Some, refl, sym, ap}
use Rattle.std.proofs.Common.{ap₂, ◌∙◌}
use Rattle.std.proofs.lemmas.Option.{slice_get_past}
use Rattle.meta_lists.proofs.Places.{drop_next, drop_past}
use Rattle.meta_flags.specs.Served.{SettingValue, ServedEntry, State}
use Rattle.meta_flags.specs.Toml.{toml_line, toml_lines}

-- the line of one more setting is added
pub line_added : (es : List ServedEntry) (state : State) (k : ℕ) (e : ServedEntry) (v : SettingValue)
    (now new all : List ℕ) → slice_get es k ≡ Some e → slice_get state k ≡ Some v → new ≡ now ++ toml_line e.name v
    → now ++ toml_lines (drop k es) (drop k state) ≡ all → new ++ toml_lines (drop (k + 1) es) (drop (k + 1) state) ≡ all
line_added es state k e v now new all e_at v_at more before =
    let rest = toml_lines (drop (k + 1) es) (drop (k + 1) state) in
    ap (λ t. t ++ rest) more ∙ append_assoc now (toml_line e.name v) rest
    ∙ ap (λ t. now ++ t) (sym (ap₂ toml_lines (drop_next es k e e_at) (drop_next state k v v_at))) ∙ before

-- after the last value there are no more
no_lines : (es : List ServedEntry) → toml_lines es [] ≡ []
no_lines [] = refl
no_lines (e ∷ es) = refl

pub all_lines : (es : List ServedEntry) (state : State) (k : ℕ) (now all : List ℕ) → length state ≤ k
    → now ++ toml_lines (drop k es) (drop k state) ≡ all → now ≡ all
all_lines es state k now all past before =
    sym (append-nil now) ∙ ap (λ t. now ++ t)
    (sym (ap (toml_lines (drop k es)) (drop_past state k (slice_get_past state k past)) ∙ no_lines (drop k es))) ∙ before

-- the head is written, and then the lines
pub head_written : (old name lines new : List ℕ) → new ≡ old ++ (91 ∷ (name ++ (93 ∷ 10 ∷ [])))
    → new ++ lines ≡ old ++ (91 ∷ (name ++ (93 ∷ 10 ∷ lines)))
head_written old name lines new e = ap (λ t. t ++ lines) e ∙ append_assoc old (91 ∷ (name ++ (93 ∷ 10 ∷ []))) lines
    ∙ ap (λ t. old ++ (91 ∷ t)) (append_assoc name (93 ∷ 10 ∷ []) lines)
