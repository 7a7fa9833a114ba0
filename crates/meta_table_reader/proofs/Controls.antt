-- The constraints of a control, by their words.
use Rattle.std.proofs.Common.{◌≡◌, ℕ, ◌==◌, ◌≢◌, true, false, List, [], ◌∷◌, ◌++◌, slice_index, codes, refl, sym, ap, ap₂, ◌∙◌, arith}
use Rattle.std.specs.Cmp.Lexicographic.{pointwise, bytes_decides}
use Rattle.std.proofs.lemmas.Bool.{false≢true}
use Rattle.std.proofs.lemmas.List.{append-nil, same_from_push}
use Rattle.meta_types.specs.Function.{Function, LaneOf}
use Rattle.meta_types.specs.DerivedFunc.{camel_function_name}
use Rattle.meta_types.proofs.Functions.{camel_names_differ}
use Rattle.meta_inst.specs.Which.{Which, First, Second}
use Rattle.meta_inst.specs.Tables.{NumberConstraint, ConcreteNumber, FreeOf, SameNumber, ByNumber}
use Rattle.meta_table_text.specs.ConstraintText.{control_mark, constraint_text, constraint_line}
use Rattle.meta_table_reader.specs.Spans.{lacks}
use Rattle.meta_table_reader.specs.Words.{IsOfControl, ends_marked}

-- ---- the two parts of a word

-- a word that ends in the mark is told by it
ends_at : (xs : List ℕ) → ends_marked (xs ++ 50 ∷ []) ≡ true
ends_at [] = refl
ends_at (c ∷ []) = refl
ends_at (c ∷ d ∷ cs) = ends_at (d ∷ cs)

pub marked : (a : Which) (name word rest : List ℕ) → ends_marked name ≡ false → word ≡ rest ++ 50 ∷ []
    → word ≡ name ++ control_mark a → (rest ≡ name) × (Second ≡ a)
marked First name word rest free is e = absurd (false≢true (sym free ∙ ap ends_marked (sym (append-nil name) ∙ sym e ∙ is) ∙ ends_at rest))
marked Second name word rest free is e = ((same_from_push rest name 50 50 (sym is ∙ e)).0, refl)

pub unmarked : (a : Which) (name word : List ℕ) → word ≡ name ++ control_mark a
    → ((rest : List ℕ) → word ≡ rest ++ 50 ∷ [] → ⊥) → (word ≡ name) × (First ≡ a)
unmarked First name word e none = (e ∙ append-nil name, refl)
unmarked Second name word e none = absurd (none name e)

-- the name of a function doesn't end in the mark
name_unmarked : (f : Function) → ends_marked (camel_function_name f) ≡ false
name_unmarked LaneOf = refl
name_unmarked f = refl

-- nor is it the word of a control itself
not_same : (f : Function) → pointwise ◌==◌ (camel_function_name f) (codes "Same") ≡ false
not_same LaneOf = refl
not_same f = refl

no_same : (f : Function) → camel_function_name f ≡ codes "Same" → ⊥
no_same f e = false≢true (sym (not_same f) ∙ (bytes_decides (camel_function_name f) (codes "Same")).1 e)

-- what the parts of a word are, however it has parts
abbrev pub HasWordParts : List ℕ → List ℕ → Which → Type 0
HasWordParts word name a = (b : Which) (x : List ℕ) → ends_marked x ≡ false → word ≡ x ++ control_mark b → (name ≡ x) × (a ≡ b)

-- the constraint that has the word, where its name is that of a function
pub named_by : (n : NumberConstraint) (word name : List ℕ) (a : Which) (f : Function) → IsOfControl n
    → word ≡ constraint_text n → HasWordParts word name a → camel_function_name f ≡ name → ByNumber a f ≡ n
named_by (ConcreteNumber m) word name a f is e parts named = absurd is
named_by (FreeOf j) word name a f is e parts named = absurd is
named_by (SameNumber b) word name a f is e parts named =
    let (same, control) = parts b (codes "Same") refl e in absurd (no_same f (named ∙ same))
named_by (ByNumber b g) word name a f is e parts named =
    let (same, control) = parts b (camel_function_name g) (name_unmarked g) e in
    ap₂ ByNumber control (camel_names_differ f g (named ∙ same))

-- and where it is that of none
pub named_same : (n : NumberConstraint) (word name : List ℕ) (a : Which) → IsOfControl n → word ≡ constraint_text n
    → HasWordParts word name a → ((f : Function) → camel_function_name f ≢ name) → SameNumber a ≡ n
named_same (ConcreteNumber m) word name a is e parts none = absurd is
named_same (FreeOf j) word name a is e parts none = absurd is
named_same (SameNumber b) word name a is e parts none = let (same, control) = parts b (codes "Same") refl e in ap SameNumber control
named_same (ByNumber b g) word name a is e parts none =
    let (same, control) = parts b (camel_function_name g) (name_unmarked g) e in absurd (none g (sym same))

-- ---- one constraint has a word

one_split : (a b : Which) (x y : List ℕ) → ends_marked x ≡ false → ends_marked y ≡ false
    → x ++ control_mark a ≡ y ++ control_mark b → (x ≡ y) × (a ≡ b)
one_split First First x y p q e = (sym (append-nil x) ∙ e ∙ append-nil y, refl)
one_split First Second x y p q e = absurd (false≢true (sym p ∙ ap ends_marked (sym (append-nil x) ∙ e) ∙ ends_at y))
one_split Second First x y p q e = absurd (false≢true (sym q ∙ ap ends_marked (sym (append-nil y) ∙ sym e) ∙ ends_at x))
one_split Second Second x y p q e = ((same_from_push x y 50 50 e).0, refl)

pub one_word : (m n : NumberConstraint) → IsOfControl m → IsOfControl n → constraint_text m ≡ constraint_text n → m ≡ n
one_word (ConcreteNumber m) n is other e = absurd is
one_word (FreeOf j) n is other e = absurd is
one_word (SameNumber a) (ConcreteNumber m) is other e = absurd other
one_word (SameNumber a) (FreeOf j) is other e = absurd other
one_word (SameNumber a) (SameNumber b) is other e = ap SameNumber (one_split a b (codes "Same") (codes "Same") refl refl e).1
one_word (SameNumber a) (ByNumber b g) is other e =
    absurd (no_same g (sym (one_split a b (codes "Same") (camel_function_name g) refl (name_unmarked g) e).0))
one_word (ByNumber a f) (ConcreteNumber m) is other e = absurd other
one_word (ByNumber a f) (FreeOf j) is other e = absurd other
one_word (ByNumber a f) (SameNumber b) is other e =
    absurd (no_same f (one_split a b (camel_function_name f) (codes "Same") (name_unmarked f) refl e).0)
one_word (ByNumber a f) (ByNumber b g) is other e =
    let (same, control) = one_split a b (camel_function_name f) (camel_function_name g) (name_unmarked f) (name_unmarked g) e in
    ap₂ ByNumber control (camel_names_differ f g same)

-- ---- what a word lacks

-- a word has no comma
pub word_lacks : (n : NumberConstraint) → IsOfControl n → lacks 44 (constraint_text n) ≡ true
word_lacks (ConcreteNumber n) is = absurd is
word_lacks (FreeOf j) is = absurd is
word_lacks (SameNumber First) is = refl
word_lacks (SameNumber Second) is = refl
word_lacks (ByNumber First LaneOf) is = refl
word_lacks (ByNumber First f) is = refl
word_lacks (ByNumber Second LaneOf) is = refl
word_lacks (ByNumber Second f) is = refl

-- and no end of a line
pub word_no_end : (n : NumberConstraint) → IsOfControl n → lacks 10 (constraint_text n) ≡ true
word_no_end (ConcreteNumber n) is = absurd is
word_no_end (FreeOf j) is = absurd is
word_no_end (SameNumber First) is = refl
word_no_end (SameNumber Second) is = refl
word_no_end (ByNumber First LaneOf) is = refl
word_no_end (ByNumber First f) is = refl
word_no_end (ByNumber Second LaneOf) is = refl
word_no_end (ByNumber Second f) is = refl

-- the letter that the form of a constraint begins with
pub form_letter : (n : NumberConstraint) (rest : List ℕ) → IsOfControl n
    → (slice_index (constraint_line n ++ rest) 23 ≢ 67) × (slice_index (constraint_line n ++ rest) 23 ≢ 70)
unfolding constraint_line
form_letter (ConcreteNumber n) rest is = absurd is
form_letter (FreeOf j) rest is = absurd is
form_letter (SameNumber First) rest is = (λ e. omega (arith, e), λ e. omega (arith, e))
form_letter (SameNumber Second) rest is = (λ e. omega (arith, e), λ e. omega (arith, e))
form_letter (ByNumber First LaneOf) rest is = (λ e. omega (arith, e), λ e. omega (arith, e))
form_letter (ByNumber First f) rest is = (λ e. omega (arith, e), λ e. omega (arith, e))
form_letter (ByNumber Second LaneOf) rest is = (λ e. omega (arith, e), λ e. omega (arith, e))
form_letter (ByNumber Second f) rest is = (λ e. omega (arith, e), λ e. omega (arith, e))

pub concrete_letter : (n : ℕ) (rest : List ℕ) → slice_index (constraint_line (ConcreteNumber n) ++ rest) 23 ≡ 67
unfolding constraint_line
concrete_letter n rest = refl

pub free_letter : (j : ℕ) (rest : List ℕ) → slice_index (constraint_line (FreeOf j) ++ rest) 23 ≡ 70
unfolding constraint_line
free_letter j rest = refl

-- the form of a constraint, by the letter
pub is_concrete : (n : NumberConstraint) (rest : List ℕ) → slice_index (constraint_line n ++ rest) 23 ≡ 67
    → (m : ℕ) × (n ≡ ConcreteNumber m)
is_concrete (ConcreteNumber m) rest e = (m, refl)
is_concrete (FreeOf j) rest e = absurd (omega (arith, e, free_letter j rest))
is_concrete (SameNumber which) rest e = absurd ((form_letter (SameNumber which) rest tt).0 e)
is_concrete (ByNumber which f) rest e = absurd ((form_letter (ByNumber which f) rest tt).0 e)

pub is_free : (n : NumberConstraint) (rest : List ℕ) → slice_index (constraint_line n ++ rest) 23 ≡ 70 → (j : ℕ) × (n ≡ FreeOf j)
is_free (ConcreteNumber m) rest e = absurd (omega (arith, e, concrete_letter m rest))
is_free (FreeOf j) rest e = (j, refl)
is_free (SameNumber which) rest e = absurd ((form_letter (SameNumber which) rest tt).1 e)
is_free (ByNumber which f) rest e = absurd ((form_letter (ByNumber which f) rest tt).1 e)

pub is_of_control : (n : NumberConstraint) (rest : List ℕ) → slice_index (constraint_line n ++ rest) 23 ≢ 67
    → slice_index (constraint_line n ++ rest) 23 ≢ 70 → IsOfControl n
is_of_control (ConcreteNumber m) rest f g = absurd (f (concrete_letter m rest))
is_of_control (FreeOf j) rest f g = absurd (g (free_letter j rest))
is_of_control (SameNumber which) rest f g = tt
is_of_control (ByNumber which f) rest g h = tt
