-- What a map has at a word, where a key with a text was put in.
use Rattle.std.proofs.Common.{◌≡◌, ◌∙◌, ℕ, Bool, true, false, cond, List, [], ◌∷◌, sym, ap, refl}
use Rattle.std.specs.Prelude.{Some}
use Rattle.std.specs.declared.cmp.Ordering.{Ordering}
use Rattle.std.specs.declared.cmp.Ordering.TheVariants.{Less, Equal, Greater}
use Rattle.std.specs.Ordering.{nat_cmp, is_eq, match_ordering}
use Rattle.std.specs.Cmp.Lexicographic.{slice_cmp, bytes_decides}
use Rattle.std.specs.Map.{lookup}
use Rattle.std.specs.BTreeMap.{insert_entry}
use Rattle.std.specs.Global.{Vec}
use Rattle.std.proofs.lemmas.Bool.{false≢true}
use Rattle.std.proofs.lemmas.Map.Text.{is_eq-slice_cmp}
use Rattle.meta_file_types.specs.declared.words.Word.{Word}
use Rattle.meta_file_types.specs.declared.words.Words.{Words}
use Rattle.meta_file_types.specs.Plain.{same_word}
use Rattle.meta_file_types.specs.Held.{word_at}

-- whether the key of this text is the word
abbrev pub test : {K : Type 0} → (K → List ℕ) → List ℕ → K → Bool
test text w x = is_eq (slice_cmp nat_cmp w (text x))

-- the order of keys by their texts
abbrev pub order : {K : Type 0} → (K → List ℕ) → K → K → Ordering
order text x y = slice_cmp nat_cmp (text x) (text y)

same_text : {K : Type 0} (text : K → List ℕ) (x y : K) → is_eq (order text x y) ≡ true → text x ≡ text y
same_text text x y e = (bytes_decides (text x) (text y)).0 (sym (is_eq-slice_cmp (text x) (text y)) ∙ e)

same_test : {K : Type 0} (text : K → List ℕ) (w : List ℕ) (x y : K) → test text w x ≡ true → test text w y ≡ true
    → is_eq (order text x y) ≡ true
same_test text w x y t u =
    let a : w ≡ text x = (bytes_decides w (text x)).0 (sym (is_eq-slice_cmp w (text x)) ∙ t) in
    let b : w ≡ text y = (bytes_decides w (text y)).0 (sym (is_eq-slice_cmp w (text y)) ∙ u) in
    is_eq-slice_cmp (text x) (text y) ∙ (bytes_decides (text x) (text y)).1 (sym a ∙ b)

over : {X : Type 0} (b : Bool) (x y : X) (z : X) → cond b x (cond b y z) ≡ cond b x z
over true x y z = refl
over false x y z = refl

swapped : {X : Type 0} (t u : Bool) (x y z : X) → (t ≡ true → u ≡ true → ⊥) → cond u y (cond t x z) ≡ cond t x (cond u y z)
swapped true true x y z apart = absurd (apart refl refl)
swapped true false x y z apart = refl
swapped false true x y z apart = refl
swapped false false x y z apart = refl

-- at an entry, by how the new key compares with its key
inserted_by : {K X : Type 0} (text : K → List ℕ) (w : List ℕ) (e : K × X) (es : List (K × X)) (k : K) (v : X)
    → lookup (test text w) (insert_entry (order text) es k v) ≡ cond (test text w k) (Some v) (lookup (test text w) es)
    → (o : Ordering) → order text k e.0 ≡ o
    → lookup (test text w) (match_ordering o ((k, v) ∷ e ∷ es) ((e.0, v) ∷ es) (e ∷ insert_entry (order text) es k v))
    ≡ cond (test text w k) (Some v) (cond (test text w e.0) (Some e.1) (lookup (test text w) es))
inserted_by text w e es k v rest Less is = refl
inserted_by text w e es k v rest Equal is =
    let same : test text w k ≡ test text w e.0 = ap (λ (x : List ℕ). is_eq (slice_cmp nat_cmp w x)) (same_text text k e.0 (ap is_eq is)) in
    sym (over (test text w e.0) (Some v) (Some e.1) (lookup (test text w) es))
    ∙ ap (λ (b : Bool). cond b (Some v) (cond (test text w e.0) (Some e.1) (lookup (test text w) es))) (sym same)
inserted_by text w e es k v rest Greater is =
    ap (cond (test text w e.0) (Some e.1)) rest
    ∙ swapped (test text w k) (test text w e.0) (Some v) (Some e.1) (lookup (test text w) es)
    (λ t u. false≢true (sym (ap is_eq is) ∙ same_test text w k e.0 t u))

-- what a map has at a word, where a key was put in
pub lookup_inserted : {K X : Type 0} (text : K → List ℕ) (w : List ℕ) (es : List (K × X)) (k : K) (v : X)
    → lookup (test text w) (insert_entry (order text) es k v) ≡ cond (test text w k) (Some v) (lookup (test text w) es)
lookup_inserted text w [] k v = refl
lookup_inserted text w (e ∷ es) k v = inserted_by text w e es k v (lookup_inserted text w es k v) (order text k e.0) refl

pub word_inserted : (old new : Words) (key : Vec ℕ) (word : List ℕ) (kept : Word) → key.items ≡ word
    → new.map.entries ≡ insert_entry (λ x y. slice_cmp nat_cmp x.items y.items) old.map.entries key kept
    → (w : List ℕ) → word_at new w ≡ cond (same_word w word) (Some kept) (word_at old w)
word_inserted old new key word kept e is w =
    ap (lookup (λ (k : Vec ℕ). is_eq (slice_cmp nat_cmp w k.items))) is
    ∙ (lookup_inserted (λ (k : Vec ℕ). k.items) w old.map.entries key kept
    ∙ ap (λ (b : Bool). cond b (Some kept) (word_at old w))
    (is_eq-slice_cmp w key.items ∙ ap (same_word w) e))
