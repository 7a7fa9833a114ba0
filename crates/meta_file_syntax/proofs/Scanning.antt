-- One byte more of a text that is scanned.
use Rattle.std.proofs.Common.{◌≡◌, ◌∙◌, ℕ, ◌+◌, ◌-◌, ◌<◌, ◌≤◌, List, ◌∷◌, ◌++◌, length, replicate, drop, get_or, ap, sym}
use Rattle.std.proofs.Common.{append_assoc, length-append, subst, arith}
use Rattle.std.proofs.lemmas.List.{at_drop_more, length-replicate}
use Rattle.std.proofs.lemmas.Bool.Decides.{nat_tests}
use Rattle.meta_file_syntax.specs.declared.token.Token.{Token}
use Rattle.meta_file_syntax.specs.declared.scanner.Mode.{Mode}
use Rattle.meta_file_syntax.specs.Scan.{State, in_mode, after, given, scanned}
use Rattle.meta_file_syntax.specs.TokenLines.{each, line_past, token_lines, last_line_from}

-- the byte at a place, in front of those after it
at_byte : {X : Type 0} (f : List ℕ → X) (text : List ℕ) (i c : ℕ) → i < length text → c ≡ get_or text i 0
    → f (drop i text) ≡ f (c ∷ drop (i + 1) text)
at_byte f text i c within is = at_drop_more f text i 0 within ∙ ap (λ b. f (b ∷ drop (i + 1) text)) (sym is)

pub tokens_more : (text : List ℕ) (i c : ℕ) (mode next : Mode) (bytes left : List ℕ) (tokens more all : List Token)
    → i < length text → c ≡ get_or text i 0 → in_mode next left ≡ after mode bytes c → more ≡ tokens ++ given mode bytes c
    → tokens ++ scanned mode bytes (drop i text) ≡ all → more ++ scanned next left (drop (i + 1) text) ≡ all
tokens_more text i c mode next bytes left tokens more all within is state added so_far =
    let rest = drop (i + 1) text in
    ap (λ (ts : List Token). ts ++ scanned next left rest) added
    ∙ append_assoc tokens (given mode bytes c) (scanned next left rest)
    ∙ ap (λ (s : State). tokens ++ (given mode bytes c ++ scanned s.mode s.bytes rest)) state
    ∙ ap (λ (ts : List Token). tokens ++ ts) (sym (at_byte (scanned mode bytes) text i c within is)) ∙ so_far

pub lines_more : (text : List ℕ) (i c line below : ℕ) (mode next : Mode) (bytes left lines more all : List ℕ)
    → i < length text → c ≡ get_or text i 0 → in_mode next left ≡ after mode bytes c → below ≡ line_past line c
    → more ≡ lines ++ each line (given mode bytes c)
    → lines ++ token_lines mode bytes line (drop i text) ≡ all → more ++ token_lines next left below (drop (i + 1) text) ≡ all
lines_more text i c line below mode next bytes left lines more all within is state next_line added so_far =
    let rest = drop (i + 1) text in
    let these = each line (given mode bytes c) in
    ap (λ (ns : List ℕ). ns ++ token_lines next left below rest) added
    ∙ append_assoc lines these (token_lines next left below rest)
    ∙ ap (λ (n : ℕ). lines ++ (these ++ token_lines next left n rest)) next_line
    ∙ ap (λ (s : State). lines ++ (these ++ token_lines s.mode s.bytes (line_past line c) rest)) state
    ∙ ap (λ (ns : List ℕ). lines ++ ns) (sym (at_byte (token_lines mode bytes line) text i c within is)) ∙ so_far

pub last_more : (text : List ℕ) (i c last line below all : ℕ) → i < length text → c ≡ get_or text i 0 → below ≡ line_past line c
    → last_line_from last line (drop i text) ≡ all → last_line_from line below (drop (i + 1) text) ≡ all
last_more text i c last line below all within is next_line so_far =
    ap (λ (n : ℕ). last_line_from line n (drop (i + 1) text)) next_line
    ∙ sym (at_byte (last_line_from last line) text i c within is) ∙ so_far

-- the line after a byte is the same or the next
at_most_one_more : (line c : ℕ) → line_past line c ≤ line + 1
at_most_one_more line c = grind (arith, nat_tests)

pub line_below : (line c below n : ℕ) → below ≡ line_past line c → line ≤ n → below ≤ n + 1
line_below line c below n next_line few =
    let one_more = at_most_one_more line c in
    subst (λ (m : ℕ). m ≤ n + 1) (sym next_line) (omega arith)

-- tokens that are added, with a line for each
pub numbered : (tokens more all added : List Token) (lines longer : List ℕ) (line : ℕ) → all ≡ more → length lines ≡ length tokens
    → more ≡ tokens ++ added → longer ≡ lines ++ replicate (length all - length lines) line → longer ≡ lines ++ each line added
numbered tokens more all added lines longer line is same adds numbers =
    let count : length all - length lines ≡ length added = omega (arith, ap length is, ap length adds, length-append {A = Token}) in
    numbers ∙ ap (λ (n : ℕ). lines ++ replicate n line) count

pub as_many_lines : (tokens more added : List Token) (lines longer : List ℕ) (line : ℕ) → length lines ≡ length tokens
    → more ≡ tokens ++ added → longer ≡ lines ++ each line added → length longer ≡ length more
as_many_lines tokens more added lines longer line same adds numbers =
    let count : length (each line added) ≡ length added = length-replicate (length added) line in
    omega (arith, ap length adds, ap length numbers, length-append {A = Token}, length-append {A = ℕ})
