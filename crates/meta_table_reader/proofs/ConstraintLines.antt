-- The lines of constraints, form by form.
use Rattle.std.proofs.Common.{◌≡◌, ℕ, ◌<◌, ◌^◌, List, [], ◌∷◌, ◌++◌, map, slice_index, codes, append_assoc, refl, sym, ap, ◌∙◌, subst}
use Rattle.std.proofs.Common.{arith}
use Rattle.std.specs.Fmt.{decimal}
use Rattle.meta_types.specs.TypeParts.{number_of}
use Rattle.meta_types.specs.TypeNumber.{type_with, IsTypeNumber}
use Rattle.meta_types.specs.TypeText.{rust_name_of}
use Rattle.meta_types.proofs.Names.{one_name}
use Rattle.meta_inst.specs.Tables.{NumberConstraint, ConcreteNumber, FreeOf, SameNumber, ByNumber}
use Rattle.meta_text.specs.Lines.{at, text_of}
use Rattle.meta_table_text.specs.ConstraintText.{type_text, constraint_text, constraint_line}
use Rattle.meta_table_reader.proofs.Cancel.{cancel_front, cancel_item, cancel_number}
use Rattle.meta_table_reader.specs.Shown.{IsShownConstraint}
use Rattle.meta_table_reader.specs.Words.{small_letter, IsOfControl}
use Rattle.meta_table_reader.proofs.TypesRead.{capitals, come_back, capitals_lack_parenthesis, type_text_is}
use Rattle.meta_table_reader.proofs.Controls.{one_word, word_lacks, form_letter, concrete_letter, free_letter, is_concrete, is_free}
use Rattle.meta_table_reader.proofs.Controls.{is_of_control}

abbrev pub before_form : List ℕ
before_form = codes "    OperandConstraint::"

abbrev pub before_type : List ℕ
before_type = codes "    OperandConstraint::Concrete(ir::types::"

abbrev pub before_set : List ℕ
before_set = codes "    OperandConstraint::Free("

regroup : (a b c d : List ℕ) → ((a ++ b) ++ c) ++ d ≡ a ++ (b ++ (c ++ d))
regroup a b c d = simp append_assoc

-- the line of a type's constraint, and then the rest
pub concrete_opened : (n : ℕ) (rest : List ℕ) (shown : IsTypeNumber n)
    → constraint_line (ConcreteNumber n) ++ rest ≡ before_type ++ (capitals (type_with n) ++ (codes "),\n" ++ rest))
unfolding constraint_line
concrete_opened n rest shown =
    let t = type_with n in
    let written : type_text n ≡ rust_name_of t = ap type_text (sym shown.numbered) ∙ type_text_is t shown.is_type in
    ap (λ (w : List ℕ). text_of
    (at 1 (codes "OperandConstraint::" ∷ (codes "Concrete(" ++ (w ++ codes ")")) ∷ codes "," ∷ []) ∷ []) ++ rest) written
    ∙ ap (λ (w : List ℕ). before_type ++ w) (regroup (capitals t) (codes ")") (codes ",\n") rest)

-- that of a type set's
pub free_opened : (j : ℕ) (rest : List ℕ) → constraint_line (FreeOf j) ++ rest ≡ before_set ++ (decimal j ++ (codes "),\n" ++ rest))
unfolding constraint_line
free_opened j rest = ap (λ (w : List ℕ). before_set ++ w) (regroup (decimal j) (codes ")") (codes ",\n") rest)

-- that of any
pub form_opened : (n : NumberConstraint) (rest : List ℕ)
    → constraint_line n ++ rest ≡ before_form ++ (constraint_text n ++ (codes ",\n" ++ rest))
unfolding constraint_line
form_opened n rest = ap (λ (w : List ℕ). before_form ++ w) (append_assoc (constraint_text n) (codes ",\n") rest)

-- ---- the line tells the constraint

concrete_told : (m n : ℕ) (r s : List ℕ) → IsTypeNumber m → IsTypeNumber n
    → constraint_line (ConcreteNumber m) ++ r ≡ constraint_line (ConcreteNumber n) ++ s → (m ≡ n) × (r ≡ s)
concrete_told m n r s one other e =
    let t = type_with m in
    let u = type_with n in
    let (names, left) = cancel_item 41 (capitals t) (capitals u) (codes "),\n" ++ r) (codes "),\n" ++ s)
    (capitals_lack_parenthesis t one.is_type) (capitals_lack_parenthesis u other.is_type) refl refl
    (cancel_front before_type _ _ (sym (concrete_opened m r one) ∙ e ∙ concrete_opened n s other)) in
    let same = one_name t u one.is_type other.is_type (sym (come_back t one.is_type) ∙ ap (map small_letter) names
    ∙ come_back u other.is_type) in
    (sym one.numbered ∙ ap number_of same ∙ other.numbered, cancel_front (codes "),\n") r s left)

free_told : (i j : ℕ) (r s : List ℕ) → i < 2 ^ 16 → j < 2 ^ 16
    → constraint_line (FreeOf i) ++ r ≡ constraint_line (FreeOf j) ++ s → (i ≡ j) × (r ≡ s)
free_told i j r s one other e =
    let (places, left) = cancel_number 41 i j (codes "),\n" ++ r) (codes "),\n" ++ s) refl (omega (arith, one))
    (omega (arith, other)) refl refl (cancel_front before_set _ _ (sym (free_opened i r) ∙ e ∙ free_opened j s)) in
    (places, cancel_front (codes "),\n") r s left)

control_told : (m n : NumberConstraint) (r s : List ℕ) → IsOfControl m → IsOfControl n
    → constraint_line m ++ r ≡ constraint_line n ++ s → (m ≡ n) × (r ≡ s)
control_told m n r s one other e =
    let (words, left) = cancel_item 44 (constraint_text m) (constraint_text n) (codes ",\n" ++ r) (codes ",\n" ++ s)
    (word_lacks m one) (word_lacks n other) refl refl (cancel_front before_form _ _ (sym (form_opened m r) ∙ e ∙ form_opened n s)) in
    (one_word m n one other words, cancel_front (codes ",\n") r s left)

of_control_told : (m n : NumberConstraint) (r s : List ℕ) → IsOfControl m
    → constraint_line m ++ r ≡ constraint_line n ++ s → (m ≡ n) × (r ≡ s)
of_control_told m n r s one e =
    let letter = ap (λ t. slice_index t 23) e in
    control_told m n r s one (is_of_control n s (λ f. (form_letter m r one).0 (letter ∙ f)) (λ f. (form_letter m r one).1 (letter ∙ f))) e

pub constraint_told : (m n : NumberConstraint) (r s : List ℕ) → IsShownConstraint m → IsShownConstraint n
    → constraint_line m ++ r ≡ constraint_line n ++ s → (m ≡ n) × (r ≡ s)
constraint_told (ConcreteNumber m) n r s one other e =
    let (k, is) = is_concrete n s (sym (ap (λ t. slice_index t 23) e) ∙ concrete_letter m r) in
    let (same, left) = concrete_told m k r s one (subst IsShownConstraint is other) (e ∙ ap (λ n. constraint_line n ++ s) is) in
    (ap ConcreteNumber same ∙ sym is, left)
constraint_told (FreeOf i) n r s one other e =
    let (j, is) = is_free n s (sym (ap (λ t. slice_index t 23) e) ∙ free_letter i r) in
    let (same, left) = free_told i j r s one (subst IsShownConstraint is other) (e ∙ ap (λ n. constraint_line n ++ s) is) in
    (ap FreeOf same ∙ sym is, left)
constraint_told (SameNumber which) n r s one other e = of_control_told (SameNumber which) n r s tt e
constraint_told (ByNumber which f) n r s one other e = of_control_told (ByNumber which f) n r s tt e
