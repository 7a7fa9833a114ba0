-- Words have at most one case of `Wrong`.
use Rattle.std.proofs.Common.{◌≡◌, ◌∙◌, ◌≤◌, ◌<◌, ◌⊎◌, ℕ, inl, inr, ⊎_elim, List, [], ◌∷◌, length, refl, sym, ap, arith}
use Rattle.std.specs.Prelude.{codes, Option, Some, None}
use Rattle.meta_program.specs.declared.plan.Over.{Over}
use Rattle.meta_program.specs.declared.plan.Over.TheVariants.{Shared, File}
use Rattle.meta_program.specs.Wrong.{IsFileMissing, CheckMore, CheckRustMore, CheckEndMore, CheckRustEndMore, VersionMore}
use Rattle.meta_program.specs.Wrong.{IsTooManyOfShared, IsTooMany, WhyMore, IsWordTooMany, NameNoVersion, BeginWithAsm, IsWrong, IsWrongIfAny}
use Rattle.meta_program.specs.Names.{rust_word}
use Rattle.meta_program.specs.Over.{asked_of, end_word}
use Rattle.meta_program.specs.declared.wrong.Wrong.{Wrong}
use Rattle.meta_program.specs.declared.wrong.Wrong.TheVariants.{FileMissing, WordTooMany, NoVersion, NoForm}
use Rattle.meta_program.proofs.OneOver.{dash, not_rust}
use Rattle.meta_program.proofs.Words.{second, third, letter}

-- if a word is too many, there are at least three
many : (over : Over) (place : ℕ) → IsTooMany over place → 3 ≤ length (asked_of over)
many (Shared words) place (inl h) = omega (arith, ap length h.1.are)
many (Shared words) place (inr (inl (is, inl h))) = omega (arith, ap length h.are)
many (Shared words) place (inr (inl (is, inr (inl h)))) = omega (arith, ap length h.are)
many (Shared words) place (inr (inl (is, inr (inr h)))) = omega (arith, ap length h.are)
many (Shared words) place (inr (inr h)) = omega (arith, ap length h.1.are)
many (File path words) place (inl h) = omega (arith, ap length h.1.are)
many (File path words) place (inr h) = omega (arith, ap length h.1.are)

-- after `check --rust --` no word is too many
not_after : (words : List (List ℕ)) (place : ℕ) → words ≡ codes "check" ∷ (rust_word ∷ (end_word ∷ []))
    → IsTooManyOfShared words place → ⊥
not_after words place e (inl h) = h.1.not_rust (ap second (sym h.1.are ∙ e))
not_after words place e (inr (inl (is, inl h))) = omega (arith, ap length (sym e ∙ h.are))
not_after words place e (inr (inl (is, inr (inl h)))) = omega (arith, ap length (sym e ∙ h.are))
not_after words place e (inr (inl (is, inr (inr h)))) = omega (arith, ap length (sym e ∙ h.are))
not_after words place e (inr (inr h)) = omega (arith, ap length (sym e ∙ h.1.are))

-- if a file is missing, no word is too many
missing_few : (over : Over) (place : ℕ) → IsFileMissing over → IsTooMany over place → ⊥
missing_few (Shared words) place (inl h) g =
    let count : length words.now ≡ 1 = ap length h.2 in omega (arith, count, many (Shared words) place g)
missing_few (Shared words) place (inr (inl h)) g =
    let count : length words.now ≡ 2 = ap length h in omega (arith, count, many (Shared words) place g)
missing_few (Shared words) place (inr (inr (inl h))) g =
    let count : length words.now ≡ 2 = ap length h in omega (arith, count, many (Shared words) place g)
missing_few (Shared words) place (inr (inr (inr h))) g = not_after words.now place h g
missing_few (File path words) place h g = absurd h

-- the word that is too many is one of them
pub too_many_within : (over : Over) (place : ℕ) → IsTooMany over place → place < length (asked_of over)
too_many_within (Shared words) place (inl h) = omega (arith, h.0, ap length h.1.are)
too_many_within (Shared words) place (inr (inl (is, inl h))) = omega (arith, is, ap length h.are)
too_many_within (Shared words) place (inr (inl (is, inr (inl h)))) = omega (arith, is, ap length h.are)
too_many_within (Shared words) place (inr (inl (is, inr (inr h)))) = omega (arith, is, ap length h.are)
too_many_within (Shared words) place (inr (inr h)) = omega (arith, h.0, ap length h.1.are)
too_many_within (File path words) place (inl h) = omega (arith, h.0, ap length h.1.are)
too_many_within (File path words) place (inr h) = omega (arith, h.0, ap length h.1.are)

-- words for which a file is missing begin with a dash or with `check`
missing_begin : (over : Over) → IsFileMissing over → (letter (asked_of over) ≡ 45) ⊎ (letter (asked_of over) ≡ 99)
missing_begin (Shared words) (inl (option, is, e)) = inl (ap letter e ∙ dash option is)
missing_begin (Shared words) (inr (inl e)) = inr (ap letter e)
missing_begin (Shared words) (inr (inr (inl e))) = inr (ap letter e)
missing_begin (Shared words) (inr (inr (inr e))) = inr (ap letter e)
missing_begin (File path words) h = absurd h

missing_never : (over : Over) (other : ℕ) → IsFileMissing over → letter (asked_of over) ≡ other → (45 ≡ other → ⊥) → (99 ≡ other → ⊥) → ⊥
missing_never over other h is no_dash no_check =
    ⊎_elim (λ dash. no_dash (sym dash ∙ is)) (λ check. no_check (sym check ∙ is)) (missing_begin over h)

-- a missing file isn't that of `asm`, nor of `tables`
not_asm : (over : Over) → IsFileMissing over → BeginWithAsm (asked_of over) → ⊥
not_asm over h g = missing_never over 97 h (ap letter g.are) (λ e. omega (arith, e)) (λ e. omega (arith, e))

not_version : (over : Over) → IsFileMissing over → NameNoVersion (asked_of over) → ⊥
not_version over h g = missing_never over 116 h (ap letter g.begin.are) (λ e. omega (arith, e)) (λ e. omega (arith, e))

-- words with one too many begin with `check` or `tables`
begin : (over : Over) (place : ℕ) → IsTooMany over place → (letter (asked_of over) ≡ 99) ⊎ (letter (asked_of over) ≡ 116)
begin (Shared words) place (inl h) = inl (ap letter h.1.are)
begin (Shared words) place (inr (inl (is, inl h))) = inl (ap letter h.are)
begin (Shared words) place (inr (inl (is, inr (inl h)))) = inl (ap letter h.are)
begin (Shared words) place (inr (inl (is, inr (inr h)))) = inr (ap letter h.are)
begin (Shared words) place (inr (inr h)) = inl (ap letter h.1.are)
begin (File path words) place (inl h) = inl (ap letter h.1.are)
begin (File path words) place (inr h) = inr (ap letter h.1.are)

-- words with one too many don't begin with `asm`
many_not_asm : (over : Over) (place : ℕ) → IsTooMany over place → BeginWithAsm (asked_of over) → ⊥
many_not_asm over place h g =
    let asm : letter (asked_of over) ≡ 97 = ap letter g.are in
    ⊎_elim (λ c. omega (arith, asm, c)) (λ t. omega (arith, asm, t)) (begin over place h)

-- words after an option of `check`, or after a version
abbrev MoreAfterOption : List (List ℕ) → Type 0
MoreAfterOption words = CheckRustMore words ⊎ (CheckEndMore words ⊎ VersionMore words)

-- after a file that is no option no other word may stand before the one that is too many
not_two : {j : ℕ} (words : List (List ℕ)) → CheckMore words → ((j ≡ 3) × MoreAfterOption words) ⊎ ((j ≡ 4) × CheckRustEndMore words) → ⊥
not_two words h (inl (is, inl g)) = h.not_rust (ap second (sym h.are ∙ g.are))
not_two words h (inl (is, inr (inl g))) = h.not_end (ap second (sym h.are ∙ g.are))
not_two words h (inl (is, inr (inr g))) = let clash : 99 ≡ 116 = ap letter (sym h.are ∙ g.are) in omega (arith, clash)
not_two words h (inr (is, g)) = h.not_rust (ap second (sym h.are ∙ g.are))

-- nor may two options stand where one does
not_three : (words : List (List ℕ)) → MoreAfterOption words → CheckRustEndMore words → ⊥
not_three words (inl h) g = h.not_end (ap third (sym h.are ∙ g.are))
not_three words (inr (inl h)) g = not_rust (ap second (sym h.are ∙ g.are))
not_three words (inr (inr h)) g = let clash : 116 ≡ 99 = ap letter (sym h.are ∙ g.are) in omega (arith, clash)

-- the first that is too many stands at one place
one_place : (over : Over) (j k : ℕ) → IsTooMany over j → IsTooMany over k → j ≡ k
one_place (Shared words) j k (inl h) (inl g) = h.0 ∙ sym g.0
one_place (Shared words) j k (inl h) (inr g) = absurd (not_two words.now h.1 g)
one_place (Shared words) j k (inr h) (inl g) = absurd (not_two words.now g.1 h)
one_place (Shared words) j k (inr (inl h)) (inr (inl g)) = h.0 ∙ sym g.0
one_place (Shared words) j k (inr (inl h)) (inr (inr g)) = absurd (not_three words.now h.1 g.1)
one_place (Shared words) j k (inr (inr h)) (inr (inl g)) = absurd (not_three words.now g.1 h.1)
one_place (Shared words) j k (inr (inr h)) (inr (inr g)) = h.0 ∙ sym g.0
one_place (File path words) j k (inl h) (inl g) = h.0 ∙ sym g.0
one_place (File path words) j k (inl h) (inr g) = let clash : 99 ≡ 116 = ap letter (sym h.1.are ∙ g.1.are) in absurd (omega (arith, clash))
one_place (File path words) j k (inr h) (inl g) = let clash : 99 ≡ 116 = ap letter (sym g.1.are ∙ h.1.are) in absurd (omega (arith, clash))
one_place (File path words) j k (inr h) (inr g) = h.0 ∙ sym g.0

-- after a version a word may be too many, and after another word there isn't one
no_version : (over : Over) (place : ℕ) → IsTooMany over place → NameNoVersion (asked_of over) → ⊥
no_version (Shared words) place (inl h) g = let clash : 99 ≡ 116 = ap letter (sym h.1.are ∙ g.begin.are) in absurd (omega (arith, clash))
no_version (Shared words) place (inr (inl (is, inl h))) g =
    let clash : 99 ≡ 116 = ap letter (sym h.are ∙ g.begin.are) in absurd (omega (arith, clash))
no_version (Shared words) place (inr (inl (is, inr (inl h)))) g =
    let clash : 99 ≡ 116 = ap letter (sym h.are ∙ g.begin.are) in absurd (omega (arith, clash))
no_version (Shared words) place (inr (inl (is, inr (inr h)))) g = g.none h.version (ap third (sym g.begin.are ∙ h.are))
no_version (Shared words) place (inr (inr h)) g =
    let clash : 99 ≡ 116 = ap letter (sym h.1.are ∙ g.begin.are) in absurd (omega (arith, clash))
no_version (File path words) place (inl h) g = let clash : 99 ≡ 116 = ap letter (sym h.1.are ∙ g.begin.are) in absurd (omega (arith, clash))
no_version (File path words) place (inr h) g = g.none h.1.version (ap third (sym g.begin.are ∙ h.1.are))

version_not_asm : (words : List (List ℕ)) → NameNoVersion words → BeginWithAsm words → ⊥
version_not_asm words h g = let clash : 116 ≡ 97 = ap letter (sym h.begin.are ∙ g.are) in absurd (omega (arith, clash))

-- ---- a word after `verify --why`

verify : (words : List (List ℕ)) → WhyMore words → letter words ≡ 118
verify words h = ap letter h.are

-- it is one of the words
pub word_within : (over : Over) (place : ℕ) → IsWordTooMany over place → place < length (asked_of over)
word_within over place (inl h) = too_many_within over place h
word_within over place (inr (is, h)) = omega (arith, is, ap length h.are)

why_not_many : (over : Over) (place : ℕ) → IsTooMany over place → WhyMore (asked_of over) → ⊥
why_not_many over place h g =
    let v = verify (asked_of over) g in
    ⊎_elim (λ c. omega (arith, v, c)) (λ t. omega (arith, v, t)) (begin over place h)

missing_not_many : (over : Over) (place : ℕ) → IsFileMissing over → IsWordTooMany over place → ⊥
missing_not_many over place h (inl g) = missing_few over place h g
missing_not_many over place h (inr (is, g)) =
    missing_never over 118 h (verify (asked_of over) g) (λ e. omega (arith, e)) (λ e. omega (arith, e))

one_word : (over : Over) (j k : ℕ) → IsWordTooMany over j → IsWordTooMany over k → j ≡ k
one_word over j k (inl h) (inl g) = one_place over j k h g
one_word over j k (inl h) (inr g) = absurd (why_not_many over j h g.1)
one_word over j k (inr h) (inl g) = absurd (why_not_many over k g h.1)
one_word over j k (inr h) (inr g) = h.0 ∙ sym g.0

word_no_version : (over : Over) (place : ℕ) → IsWordTooMany over place → NameNoVersion (asked_of over) → ⊥
word_no_version over place (inl h) g = no_version over place h g
word_no_version over place (inr h) g =
    let clash : 118 ≡ 116 = sym (verify (asked_of over) h.1) ∙ ap letter g.begin.are in absurd (omega (arith, clash))

word_not_asm : (over : Over) (place : ℕ) → IsWordTooMany over place → BeginWithAsm (asked_of over) → ⊥
word_not_asm over place (inl h) g = many_not_asm over place h g
word_not_asm over place (inr h) g =
    let clash : 118 ≡ 97 = sym (verify (asked_of over) h.1) ∙ ap letter g.are in absurd (omega (arith, clash))

pub same_wrong : (over : Over) (a b : Wrong) → IsWrong over a → IsWrong over b → a ≡ b
same_wrong over FileMissing FileMissing h g = refl
same_wrong over FileMissing (WordTooMany k) h g = absurd (missing_not_many over k h g)
same_wrong over FileMissing NoVersion h g = absurd (not_version over h g)
same_wrong over FileMissing NoForm h g = absurd (not_asm over h g)
same_wrong over (WordTooMany j) FileMissing h g = absurd (missing_not_many over j g h)
same_wrong over (WordTooMany j) (WordTooMany k) h g = ap WordTooMany (one_word over j k h g)
same_wrong over (WordTooMany j) NoVersion h g = absurd (word_no_version over j h g)
same_wrong over (WordTooMany j) NoForm h g = absurd (word_not_asm over j h g)
same_wrong over NoVersion FileMissing h g = absurd (not_version over g h)
same_wrong over NoVersion (WordTooMany k) h g = absurd (word_no_version over k g h)
same_wrong over NoVersion NoVersion h g = refl
same_wrong over NoVersion NoForm h g = absurd (version_not_asm (asked_of over) h g)
same_wrong over NoForm FileMissing h g = absurd (not_asm over g h)
same_wrong over NoForm (WordTooMany k) h g = absurd (word_not_asm over k g h)
same_wrong over NoForm NoVersion h g = absurd (version_not_asm (asked_of over) g h)
same_wrong over NoForm NoForm h g = refl

-- the case of words, if they have one, is determined too
pub same_if_any : (over : Over) (a b : Option Wrong) → IsWrongIfAny over a → IsWrongIfAny over b → a ≡ b
same_if_any over None None h g = refl
same_if_any over None (Some b) h g = absurd (h b g)
same_if_any over (Some a) None h g = absurd (g a h)
same_if_any over (Some a) (Some b) h g = ap Some (same_wrong over a b h g)
