-- Words that ask nothing aren't taken by the list of commands.
use Rattle.std.proofs.Common.{◌≡◌, ◌∙◌, ◌≤◌, ◌==◌, ◌/◌, ◌%◌, ◌+◌, ℕ, zero, suc, Bool, true, false, cond, ◌⊎◌, inl, inr, ⊎_elim}
use Rattle.std.proofs.Common.{List, [], ◌∷◌, length, refl, sym, ap, subst, arith}
use Rattle.std.proofs.lemmas.Option.{same_Some}
use Rattle.std.specs.Prelude.{codes, slice_get, nat_lt, Some}
use Rattle.std.specs.Fmt.{decimal, digits, digits_onto, digit_glyph}
use Rattle.meta_command_line.specs.Misuse.{AreTaken, AreCommandWords, AreNumbersIn, IsNumberIn}
use Rattle.meta_command_line.specs.declared.manual.Range.{Range}
use Rattle.meta_command_line.specs.declared.manual.CommandForm.{CommandForm}
use Rattle.meta_query.specs.declared.command.Command.TheVariants.{Query, Recheck, Tables, Types, Settings, Instructions, Builder, Synth}
use Rattle.meta_program.specs.Tool.{AreToolWords, AskSomething, why_word}
use Rattle.meta_program.specs.declared.plan.Over.{Over}
use Rattle.meta_program.specs.declared.plan.Over.TheVariants.{Shared, File}
use Rattle.meta_program.specs.declared.tool.Tool.{Tool}
use Rattle.meta_program.specs.declared.tool.Why.TheVariants.{Untold, Told}
use Rattle.meta_program.specs.declared.tool.Tool.TheVariants.{Run, TablesIn, Explain, Verify, Asm, Flags, Audit, Check, Describe}
use Rattle.meta_program.specs.Wrong.{AskWhatIsListed, BeginWithAsm, IsTooMany, WhyMore, IsWordTooMany}
use Rattle.meta_program.specs.Over.{asked_of}
use Rattle.meta_program.proofs.Words.{first_letter, letter, second, after_one}

-- words that ask nothing and don't begin with `asm` aren't taken
pub none_taken : (commands : List CommandForm) (words : List (List ℕ)) → AskWhatIsListed commands
    → (AskSomething words → ⊥) → (BeginWithAsm words → ⊥) → AreTaken commands words → ⊥
none_taken commands words listed nothing no_asm t =
    ⊎_elim nothing (λ e. no_asm (record { after = []; are = e })) (listed words t.are)

-- ---- a word that is no number

-- a number begins with a digit
glyph : (b : Bool) (d : ℕ) → 48 ≤ cond b (48 + d) (87 + d)
glyph true d = omega arith
glyph false d = omega arith

either : (b : Bool) (x : ℕ) (xs ys : List ℕ) → 48 ≤ x → 48 ≤ first_letter ys → 48 ≤ first_letter (cond b (x ∷ xs) ys)
either true x xs ys h g = h
either false x xs ys h g = g

first_digit : (k n x : ℕ) (acc : List ℕ) → 48 ≤ x → 48 ≤ first_letter (digits_onto k 10 false n (x ∷ acc))
first_digit zero n x acc h = h
first_digit (suc k) n x acc h =
    let d = digit_glyph false (n % 10) in
    let high : 48 ≤ d = glyph (nat_lt (n % 10) 10) (n % 10) in
    either (n / 10 == 0) d (x ∷ acc) _ high (first_digit k (n / 10) d (x ∷ acc) high)

first_of_decimal : (n : ℕ) → 48 ≤ first_letter (decimal n)
unfolding digits
first_of_decimal n =
    let d = digit_glyph false (n % 10) in
    let high : 48 ≤ d = glyph (nat_lt (n % 10) 10) (n % 10) in
    either (n / 10 == 0) d [] _ high (first_digit 63 (n / 10) d [] high)

no_number : (range : Range) → IsNumberIn range why_word → ⊥
no_number range h =
    let clash : 45 ≡ first_letter (decimal h.number) = ap first_letter h.written in
    let high : 48 ≤ first_letter (decimal h.number) = first_of_decimal h.number in
    absurd (omega (arith, clash, high))

one_number : (ranges : List Range) → AreNumbersIn ranges (why_word ∷ []) → ⊥
one_number [] h = let clash : 1 ≡ 0 = h.count in absurd (omega (arith, clash))
one_number (range ∷ ranges) h = no_number range (h.numbers 0 range why_word (omega arith) refl refl)

-- a command has no such word after its name
not_why : (commands : List CommandForm) (name : List ℕ) → AreCommandWords commands (name ∷ (why_word ∷ [])) → ⊥
not_why commands name h =
    one_number h.command.numbers.now (subst (AreNumbersIn h.command.numbers.now) (sym (ap after_one h.are)) h.numbers)

-- ---- two words

-- two words that ask something are `synth` and a number, `asm` and a form, or `verify` and `--why`
two_words : (tool : Tool) (name word : List ℕ) → AreToolWords tool (name ∷ (word ∷ []))
    → ((first_letter name ≡ 115) ⊎ (first_letter name ≡ 97)) ⊎ (word ≡ why_word)
two_words (Run Query) name word h = let clash : 2 ≡ 1 = ap length h.are in absurd (omega (arith, clash))
two_words (Run Recheck) name word h = let clash : 2 ≡ 1 = ap length h.are in absurd (omega (arith, clash))
two_words (Run Tables) name word h = let clash : 2 ≡ 1 = ap length h.are in absurd (omega (arith, clash))
two_words (Run Types) name word h = let clash : 2 ≡ 1 = ap length h.are in absurd (omega (arith, clash))
two_words (Run Settings) name word h = let clash : 2 ≡ 1 = ap length h.are in absurd (omega (arith, clash))
two_words (Run Instructions) name word h = let clash : 2 ≡ 1 = ap length h.are in absurd (omega (arith, clash))
two_words (Run Builder) name word h = let clash : 2 ≡ 1 = ap length h.are in absurd (omega (arith, clash))
two_words (Run (Synth n)) name word h = inl (inl (ap letter h.are))
two_words (TablesIn version) name word h = let clash : 2 ≡ 3 = ap length h in absurd (omega (arith, clash))
two_words Explain name word h = let clash : 2 ≡ 1 = ap length h in absurd (omega (arith, clash))
two_words (Verify Untold) name word h = let clash : 2 ≡ 1 = ap length h in absurd (omega (arith, clash))
two_words (Verify Told) name word h = inr (ap second h)
two_words (Asm form why) name word h = inl (inr (ap letter h))
two_words Flags name word h = let clash : 2 ≡ 1 = ap length h in absurd (omega (arith, clash))
two_words Audit name word h = let clash : 2 ≡ 1 = ap length h in absurd (omega (arith, clash))
two_words Check name word h = let clash : 2 ≡ 1 = ap length h in absurd (omega (arith, clash))
two_words Describe name word h = let clash : 2 ≡ 1 = ap length h in absurd (omega (arith, clash))

two_listed : (commands : List CommandForm) (name word : List ℕ) → AskWhatIsListed commands
    → AreTaken commands (name ∷ (word ∷ [])) → (first_letter name ≡ 115) ⊎ (first_letter name ≡ 97)
two_listed commands name word listed t = ⊎_elim
    (λ asks. ⊎_elim
    (λ first. first)
    (λ why. absurd (not_why commands name (subst (λ (w : List ℕ). AreCommandWords commands (name ∷ (w ∷ []))) why t.are)))
    (two_words asks.0 name word asks.1))
    (λ e. let clash : 2 ≡ 1 = ap length e in absurd (omega (arith, clash)))
    (listed (name ∷ (word ∷ [])) t.are)

begins : (words : List (List ℕ)) (first : List ℕ) (after : List (List ℕ)) (name : List ℕ) → words ≡ first ∷ after
    → slice_get words 0 ≡ Some name → name ≡ first
begins words first after name e at = same_Some name first (sym at ∙ ap (λ (ws : List (List ℕ)). slice_get ws 0) e)

-- the first of words with one word too many
first_word : (over : Over) (place : ℕ) (name : List ℕ) → IsTooMany over place → slice_get (asked_of over) 0 ≡ Some name
    → (name ≡ codes "check") ⊎ (name ≡ codes "tables")
first_word (Shared words) place name (inl h) at = inl (begins words.now (codes "check") _ name h.1.are at)
first_word (Shared words) place name (inr (inl (is, inl h))) at = inl (begins words.now (codes "check") _ name h.are at)
first_word (Shared words) place name (inr (inl (is, inr (inl h)))) at = inl (begins words.now (codes "check") _ name h.are at)
first_word (Shared words) place name (inr (inl (is, inr (inr h)))) at = inr (begins words.now (codes "tables") _ name h.are at)
first_word (Shared words) place name (inr (inr h)) at = inl (begins words.now (codes "check") _ name h.1.are at)
first_word (File path words) place name (inl h) at = inl (begins words.now (codes "check") _ name h.1.are at)
first_word (File path words) place name (inr h) at = inr (begins words.now (codes "tables") _ name h.1.are at)

-- the same with a word after it that is no command
none_after_many : (commands : List CommandForm) (over : Over) (place : ℕ) (name word : List ℕ) → AskWhatIsListed commands
    → IsTooMany over place → slice_get (asked_of over) 0 ≡ Some name → AreTaken commands (name ∷ (word ∷ [])) → ⊥
none_after_many commands over place name word listed many at t = ⊎_elim (λ is. by (ap first_letter is)) (λ is. by_tables (ap first_letter is))
    (first_word over place name many at)
  where
    by : first_letter name ≡ 99 → ⊥
    by e = ⊎_elim
        (λ s. let clash : 99 ≡ 115 = sym e ∙ s in absurd (omega (arith, clash)))
        (λ a. let clash : 99 ≡ 97 = sym e ∙ a in absurd (omega (arith, clash)))
        (two_listed commands name word listed t)

    by_tables : first_letter name ≡ 116 → ⊥
    by_tables e = ⊎_elim
        (λ s. let clash : 116 ≡ 115 = sym e ∙ s in absurd (omega (arith, clash)))
        (λ a. let clash : 116 ≡ 97 = sym e ∙ a in absurd (omega (arith, clash)))
        (two_listed commands name word listed t)

none_after_why : (commands : List CommandForm) (words : List (List ℕ)) (name word : List ℕ) → AskWhatIsListed commands
    → WhyMore words → slice_get words 0 ≡ Some name → AreTaken commands (name ∷ (word ∷ [])) → ⊥
none_after_why commands words name word listed more at t =
    let e : first_letter name ≡ 118 = ap first_letter (begins words (codes "verify") _ name more.are at) in
    ⊎_elim
    (λ s. let clash : 118 ≡ 115 = sym e ∙ s in absurd (omega (arith, clash)))
    (λ a. let clash : 118 ≡ 97 = sym e ∙ a in absurd (omega (arith, clash)))
    (two_listed commands name word listed t)

pub none_after : (commands : List CommandForm) (over : Over) (place : ℕ) (name word : List ℕ) → AskWhatIsListed commands
    → IsWordTooMany over place → slice_get (asked_of over) 0 ≡ Some name → AreTaken commands (name ∷ (word ∷ [])) → ⊥
none_after commands over place name word listed (inl many) at t = none_after_many commands over place name word listed many at t
none_after commands over place name word listed (inr why) at t = none_after_why commands (asked_of over) name word listed why.1 at t
