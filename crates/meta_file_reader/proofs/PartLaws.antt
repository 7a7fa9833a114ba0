-- Parts of items: what is read is spelled so, what is spelled so is read, and a fault lies within what is left.
use Rattle.std.proofs.Common.{◌≡◌, ◌∙◌, ℕ, zero, suc, ◌+◌, ◌≤◌, ◌<◌, ◌^◌, Bool, true, false, cond, List, [], ◌∷◌, ◌++◌, length, Option}
use Rattle.std.proofs.Common.{Some, None, Result, Ok, Err, refl, sym, ap, subst, codes, arith, inl, inr, drop}
use Rattle.std.specs.Prelude.{◌==◌, ◌≢◌}
use Rattle.std.specs.Fmt.{decimal}
use Rattle.std.specs.Cmp.Lexicographic.{pointwise, same_text, bytes_decides}
use Rattle.std.proofs.lemmas.Bool.{eqb-true, cases_lt}
use Rattle.std.proofs.lemmas.Fmt.{decimal_injective}
use Rattle.meta_file_syntax.specs.declared.token.Token.{Token}
use Rattle.meta_file_syntax.specs.declared.token.Token.TheVariants.{Key, Word, Quoted, Sign, Doc, Stray}
use Rattle.meta_file_syntax.specs.declared.keyword.Keyword.{Keyword}
use Rattle.meta_file_syntax.specs.declared.name.Name.{Name}
use Rattle.meta_file_syntax.specs.declared.name.Name.TheVariants as names
use Rattle.meta_file_syntax.specs.WordTables.{with_word}
use Rattle.meta_file_syntax.specs.Words.{written_so}
use Rattle.meta_file_syntax.specs.Spelling.{docs, name, comment, truth, number}
use Rattle.meta_file_reader.specs.declared.fault.Fault.{Fault}
use Rattle.meta_file_reader.specs.declared.fault.Wanted.{Wanted}
use Rattle.meta_file_reader.specs.declared.fault.Wanted.TheVariants as wanted
use Rattle.meta_file_reader.specs.Parts.{◌>>=◌, name_at, word_at, text_at, sign_or_at, chosen_by, chosen_at, truth_of, truth_at}
use Rattle.meta_file_reader.specs.Parts.{number_below}
use Rattle.meta_file_reader.specs.Parts.{number_of, byte_at, comment_at, docs_at, word_first, sign_first, quoted_first}

-- ---- results

pub bind_ok : {A B : Type 0} (r : Result A Fault) (f : A → Result B Fault) (y : B) → (r >>= f) ≡ Ok y → (x : A) × (r ≡ Ok x) × (f x ≡ Ok y)
bind_ok (Ok x) f y e = (x, refl, e)
bind_ok (Err d) f y e = absurd cc

abbrev done : {A : Type 0} → A → Result A Fault
done x = Ok x

pub ok_is : {A : Type 0} (x y : A) → done x ≡ done y → x ≡ y
ok_is x y e = cc

pub guard_ok : {A : Type 0} (b : Bool) (d : Fault) (x y : A) → cond b (Ok x) (Err d) ≡ Ok y → (b ≡ true) × (x ≡ y)
guard_ok true d x y e = (refl, cc)
guard_ok false d x y e = absurd cc

abbrev one : {A : Type 0} → A → Option A
one x = Some x

pub some_is : {A : Type 0} (x y : A) → one x ≡ one y → x ≡ y
some_is x y e = cc

-- what is left after a reader, or at its fault, is no more than what it got
abbrev pub Shorter : {A : Type 0} → List Token → Result (A × List Token) Fault → Type 0
Shorter ts (Ok x) = length x.1 ≤ length ts
Shorter ts (Err f) = f.left ≤ length ts

abbrev pub SignShorter : List Token → Result (List Token) Fault → Type 0
SignShorter ts (Ok rest) = length rest ≤ length ts
SignShorter ts (Err f) = f.left ≤ length ts

pub longer : {A : Type 0} (short long : List Token) (read : Result (A × List Token) Fault) → length short ≤ length long
    → Shorter short read → Shorter long read
longer short long (Ok x) le h = omega arith
longer short long (Err f) le h = omega arith

pub shorter_bind : {A B : Type 0} (ts : List Token) (r : Result (A × List Token) Fault) (f : A × List Token
    → Result (B × List Token) Fault) → Shorter ts r → ((x : A × List Token) → Shorter x.1 (f x)) → Shorter ts (r >>= f)
shorter_bind ts (Ok x) f h g = longer x.1 ts (f x) h (g x)
shorter_bind ts (Err e) f h g = h

pub shorter_sign : {B : Type 0} (ts : List Token) (r : Result (List Token) Fault) (f : List Token → Result (B × List Token) Fault)
    → SignShorter ts r → ((rest : List Token) → Shorter rest (f rest)) → Shorter ts (r >>= f)
shorter_sign ts (Ok rest) f h g = longer rest ts (f rest) h (g rest)
shorter_sign ts (Err e) f h g = h

pub left_of : {A : Type 0} (ts : List Token) (read : Result (A × List Token) Fault) (f : Fault) → Shorter ts read
    → read ≡ Err f → f.left ≤ length ts
left_of ts (Ok x) f h e = absurd cc
left_of ts (Err g) f h e = let same : g ≡ f = cc in subst (λ (d : Fault). d.left ≤ length ts) same h

pub drop_less : (ts : List Token) → length (drop 1 ts) ≤ length ts
drop_less [] = omega arith
drop_less (t ∷ ts) = omega arith

-- ---- a name

pub name_again : (w : Wanted) (n : Name) (rest : List Token) → name_at w (name n ∷ rest) ≡ Ok (n, rest)
name_again w (names.Plain v) rest = refl
name_again w (names.Quoted t) rest = refl

abbrev NameTaken : List Token → Name × List Token → Type 0
NameTaken ts x = ts ≡ name x.0 ∷ x.1

pub name_takes : (w : Wanted) (ts : List Token) (x : Name × List Token) → name_at w ts ≡ Ok x → NameTaken ts x
name_takes w [] x e = absurd cc
name_takes w (Key k ∷ ts) x e = absurd cc
name_takes w (Word v ∷ ts) x e = subst (NameTaken (Word v ∷ ts)) (ok_is (names.Plain v, ts) x e) refl
name_takes w (Quoted t ∷ ts) x e = subst (NameTaken (Quoted t ∷ ts)) (ok_is (names.Quoted t, ts) x e) refl
name_takes w (Sign c ∷ ts) x e = absurd cc
name_takes w (Doc d ∷ ts) x e = absurd cc
name_takes w (Stray f ∷ ts) x e = absurd cc

pub name_within : (w : Wanted) (ts : List Token) → Shorter ts (name_at w ts)
name_within w [] = omega arith
name_within w (Key k ∷ ts) = omega arith
name_within w (Word v ∷ ts) = omega arith
name_within w (Quoted t ∷ ts) = omega arith
name_within w (Sign c ∷ ts) = omega arith
name_within w (Doc d ∷ ts) = omega arith
name_within w (Stray f ∷ ts) = omega arith

-- ---- a word, and a text

pub word_takes : (w : Wanted) (ts : List Token) (x : List ℕ × List Token) → word_at w ts ≡ Ok x → ts ≡ Word x.0 ∷ x.1
word_takes w [] x e = absurd cc
word_takes w (Key k ∷ ts) x e = absurd cc
word_takes w (Word v ∷ ts) x e = subst (λ (y : List ℕ × List Token). Word v ∷ ts ≡ Word y.0 ∷ y.1) (ok_is (v, ts) x e) refl
word_takes w (Quoted t ∷ ts) x e = absurd cc
word_takes w (Sign c ∷ ts) x e = absurd cc
word_takes w (Doc d ∷ ts) x e = absurd cc
word_takes w (Stray f ∷ ts) x e = absurd cc

pub word_within : (w : Wanted) (ts : List Token) → Shorter ts (word_at w ts)
word_within w [] = omega arith
word_within w (Key k ∷ ts) = omega arith
word_within w (Word v ∷ ts) = omega arith
word_within w (Quoted t ∷ ts) = omega arith
word_within w (Sign c ∷ ts) = omega arith
word_within w (Doc d ∷ ts) = omega arith
word_within w (Stray f ∷ ts) = omega arith

pub text_takes : (ts : List Token) (x : List ℕ × List Token) → text_at ts ≡ Ok x → ts ≡ Quoted x.0 ∷ x.1
text_takes [] x e = absurd cc
text_takes (Key k ∷ ts) x e = absurd cc
text_takes (Word v ∷ ts) x e = absurd cc
text_takes (Quoted t ∷ ts) x e = subst (λ (y : List ℕ × List Token). Quoted t ∷ ts ≡ Quoted y.0 ∷ y.1) (ok_is (t, ts) x e) refl
text_takes (Sign c ∷ ts) x e = absurd cc
text_takes (Doc d ∷ ts) x e = absurd cc
text_takes (Stray f ∷ ts) x e = absurd cc

pub text_within : (ts : List Token) → Shorter ts (text_at ts)
text_within [] = omega arith
text_within (Key k ∷ ts) = omega arith
text_within (Word v ∷ ts) = omega arith
text_within (Quoted t ∷ ts) = omega arith
text_within (Sign c ∷ ts) = omega arith
text_within (Doc d ∷ ts) = omega arith
text_within (Stray f ∷ ts) = omega arith

-- ---- a sign

pub sign_takes : (w : Wanted) (s : ℕ) (ts rest : List Token) → sign_or_at w s ts ≡ Ok rest → ts ≡ Sign s ∷ rest
sign_takes w s [] rest e = absurd cc
sign_takes w s (Key k ∷ ts) rest e = absurd cc
sign_takes w s (Word v ∷ ts) rest e = absurd cc
sign_takes w s (Quoted t ∷ ts) rest e = absurd cc
sign_takes w s (Sign c ∷ ts) rest e =
    let g = guard_ok (c == s) _ ts rest e in
    let same : c ≡ s = eqb-true c s g.0 in
    let after : ts ≡ rest = g.1 in
    cc
sign_takes w s (Doc d ∷ ts) rest e = absurd cc
sign_takes w s (Stray f ∷ ts) rest e = absurd cc

sign_by : (b : Bool) (w : Wanted) (c : ℕ) (ts : List Token)
    → SignShorter (Sign c ∷ ts) (cond b (Ok ts) (Err (record { left = length (Sign c ∷ ts); wanted = w })))
sign_by true w c ts = omega arith
sign_by false w c ts = omega arith

pub sign_within : (w : Wanted) (s : ℕ) (ts : List Token) → SignShorter ts (sign_or_at w s ts)
sign_within w s [] = omega arith
sign_within w s (Key k ∷ ts) = omega arith
sign_within w s (Word v ∷ ts) = omega arith
sign_within w s (Quoted t ∷ ts) = omega arith
sign_within w s (Sign c ∷ ts) = sign_by (c == s) w c ts
sign_within w s (Doc d ∷ ts) = omega arith
sign_within w s (Stray f ∷ ts) = omega arith

-- ---- a word that means something

pub chosen_again : {A : Type 0} (w : Wanted) (meaning : List ℕ → Option A) (v : List ℕ) (x : A) (rest : List Token) → meaning v ≡ Some x
    → chosen_at w meaning (Word v ∷ rest) ≡ Ok (x, rest)
chosen_again w meaning v x rest h = rw h refl

chosen_word : {A : Type 0} (w : Wanted) (v : List ℕ) (ts : List Token) (x : A × List Token) (o : Option A) → chosen_by w o v ts ≡ Ok x
    → (o ≡ Some x.0) × (ts ≡ x.1)
chosen_word w v ts x None e = absurd cc
chosen_word w v ts x (Some y) e = let same : (y, ts) ≡ x = ok_is (y, ts) x e in (cc, cc)

-- what was read is a word with that meaning
pub chosen_takes : {A : Type 0} (w : Wanted) (meaning : List ℕ → Option A) (text : A → List ℕ)
    → ((v : List ℕ) (y : A) → meaning v ≡ Some y → v ≡ text y) → (ts : List Token) (x : A × List Token)
    → chosen_at w meaning ts ≡ Ok x → ts ≡ Word (text x.0) ∷ x.1
chosen_takes w meaning text told [] x e = absurd cc
chosen_takes w meaning text told (Key k ∷ ts) x e = absurd cc
chosen_takes w meaning text told (Word v ∷ ts) x e =
    let p = chosen_word w v ts x (meaning v) e in
    let same : v ≡ text x.0 = told v x.0 p.0 in
    let after : ts ≡ x.1 = p.1 in
    cc
chosen_takes w meaning text told (Quoted t ∷ ts) x e = absurd cc
chosen_takes w meaning text told (Sign c ∷ ts) x e = absurd cc
chosen_takes w meaning text told (Doc d ∷ ts) x e = absurd cc
chosen_takes w meaning text told (Stray f ∷ ts) x e = absurd cc

chosen_by_within : {A : Type 0} (w : Wanted) (o : Option A) (v : List ℕ) (ts : List Token) → Shorter (Word v ∷ ts) (chosen_by w o v ts)
chosen_by_within w None v ts = omega arith
chosen_by_within w (Some x) v ts = omega arith

pub chosen_within : {A : Type 0} (w : Wanted) (meaning : List ℕ → Option A) (ts : List Token) → Shorter ts (chosen_at w meaning ts)
chosen_within w meaning [] = omega arith
chosen_within w meaning (Key k ∷ ts) = omega arith
chosen_within w meaning (Word v ∷ ts) = chosen_by_within w (meaning v) v ts
chosen_within w meaning (Quoted t ∷ ts) = omega arith
chosen_within w meaning (Sign c ∷ ts) = omega arith
chosen_within w meaning (Doc d ∷ ts) = omega arith
chosen_within w meaning (Stray f ∷ ts) = omega arith

-- the first of some that is written so
first_so : {A : Type 0} (text : A → List ℕ) (x : A) (xs : List A) (w : List ℕ) (y : A) (b : Bool) → pointwise ◌==◌ w (text x) ≡ b
    → (written_so text xs w ≡ Some y → w ≡ text y) → cond b (Some x) (written_so text xs w) ≡ Some y → w ≡ text y
first_so text x xs w y true is later e =
    let same : x ≡ y = some_is x y e in subst (λ z. w ≡ text z) same (same_text w (text x) (sym is))
first_so text x xs w y false is later e = later e

pub written_so_takes : {A : Type 0} (text : A → List ℕ) (xs : List A) (w : List ℕ) (y : A) → written_so text xs w ≡ Some y → w ≡ text y
written_so_takes text [] w y e = absurd cc
written_so_takes text (x ∷ xs) w y e = first_so text x xs w y (pointwise ◌==◌ w (text x)) refl (written_so_takes text xs w y) e

-- each thing of a table has its own word there
abbrev pub OwnWords : {A : Type 0} → (A → List ℕ) → List (A × List ℕ) → Type 0
OwnWords text [] = Unit {0}
OwnWords text ((x, t) ∷ rows) = (t ≡ text x) × OwnWords text rows

first_row : {A : Type 0} (text : A → List ℕ) (x : A) (t : List ℕ) (rows : List (A × List ℕ)) (w : List ℕ) (y : A) (b : Bool)
    → pointwise ◌==◌ w t ≡ b → t ≡ text x → (with_word rows w ≡ Some y → w ≡ text y) → cond b (Some x) (with_word rows w) ≡ Some y
    → w ≡ text y
first_row text x t rows w y true is own later e =
    let same : x ≡ y = some_is x y e in subst (λ z. w ≡ text z) same (same_text w t (sym is) ∙ own)
first_row text x t rows w y false is own later e = later e

pub with_word_takes : {A : Type 0} (text : A → List ℕ) (rows : List (A × List ℕ)) → OwnWords text rows → (w : List ℕ) (y : A)
    → with_word rows w ≡ Some y → w ≡ text y
with_word_takes text [] own w y e = absurd cc
with_word_takes text ((x, t) ∷ rows) own w y e =
    first_row text x t rows w y (pointwise ◌==◌ w t) refl own.0 (with_word_takes text rows own.1 w y) e

-- ---- a truth value

pub truth_again : (b : Bool) (rest : List Token) → truth_at (truth b ∷ rest) ≡ Ok (b, rest)
truth_again true rest = refl
truth_again false rest = refl

abbrev truth_text : Bool → List ℕ
truth_text true = codes "true"
truth_text false = codes "false"

truth_word : (w : List ℕ) (x p q : Bool) → pointwise ◌==◌ w (codes "true") ≡ p → pointwise ◌==◌ w (codes "false") ≡ q
    → cond p (Some true) (cond q (Some false) None) ≡ Some x → w ≡ truth_text x
truth_word w x true q hp hq e = subst (λ b. w ≡ truth_text b) (some_is true x e) (same_text w (codes "true") (sym hp))
truth_word w x false true hp hq e = subst (λ b. w ≡ truth_text b) (some_is false x e) (same_text w (codes "false") (sym hq))
truth_word w x false false hp hq e = absurd cc

of_text : (b : Bool) → Word (truth_text b) ≡ truth b
of_text true = refl
of_text false = refl

pub truth_takes : (ts : List Token) (x : Bool × List Token) → truth_at ts ≡ Ok x → ts ≡ truth x.0 ∷ x.1
truth_takes ts x e =
    chosen_takes wanted.Truth truth_of truth_text (λ v y h. truth_word v y _ _ refl refl h) ts x e
    ∙ ap (λ (t : Token). t ∷ x.1) (of_text x.0)

pub truth_within : (ts : List Token) → Shorter ts (truth_at ts)
truth_within ts = chosen_within wanted.Truth truth_of ts

-- ---- a number from 0 to 255

found_by : (k : ℕ) (w : List ℕ) (n : ℕ) (b : Bool) → pointwise ◌==◌ w (decimal k) ≡ b → (number_below k w ≡ Some n → w ≡ decimal n)
    → cond b (Some k) (number_below k w) ≡ Some n → w ≡ decimal n
found_by k w n true is later e = let same : k ≡ n = cc in subst (λ (m : ℕ). w ≡ decimal m) same (same_text w (decimal k) (sym is))
found_by k w n false is later e = later e

below_takes : (k : ℕ) (w : List ℕ) (n : ℕ) → number_below k w ≡ Some n → w ≡ decimal n
unfolding number_below
below_takes zero w n e = absurd cc
below_takes (suc k) w n e = found_by k w n (pointwise ◌==◌ w (decimal k)) refl (below_takes k w n) e

missed_by : (k n : ℕ) (w : List ℕ) (b : Bool) → pointwise ◌==◌ w (decimal k) ≡ b → n < suc k → k < 2 ^ 64 → w ≡ decimal n
    → (n < k → number_below k w ≡ Some n) → cond b (Some k) (number_below k w) ≡ Some n
missed_by k n w true is lt small e later =
    let both : decimal n ≡ decimal k = sym e ∙ same_text w (decimal k) (sym is) in
    let same : n ≡ k = decimal_injective n k (omega arith) small both in
    ap (λ (m : ℕ). Some m) (sym same)
missed_by k n w false is lt small e later = elim (cases_lt n k) [
  | inl less ↦ later less
  | inr more ↦
      let same : n ≡ k = omega arith in
      let yes : pointwise ◌==◌ w (decimal k) ≡ true = (bytes_decides w (decimal k)).1 (e ∙ ap decimal same) in
      absurd (cc)
]

below_again : (k n : ℕ) (w : List ℕ) → n < k → k ≤ 2 ^ 64 → w ≡ decimal n → number_below k w ≡ Some n
unfolding number_below
below_again zero n w lt small e = absurd (omega arith)
below_again (suc k) n w lt small e =
    missed_by k n w (pointwise ◌==◌ w (decimal k)) refl lt (omega arith) e (λ less. below_again k n w less (omega arith) e)

none_by : (k : ℕ) (w : List ℕ) (b : Bool) → pointwise ◌==◌ w (decimal k) ≡ b → (w ≡ decimal k → ⊥) → number_below k w ≡ None
    → cond b (Some k) (number_below k w) ≡ None
none_by k w true is other later = absurd (other (same_text w (decimal k) (sym is)))
none_by k w false is other later = later

below_none : (k : ℕ) (w : List ℕ) → ((n : ℕ) → n < k → w ≡ decimal n → ⊥) → number_below k w ≡ None
unfolding number_below
below_none zero w other = refl
below_none (suc k) w other =
    none_by k w (pointwise ◌==◌ w (decimal k)) refl (other k (omega arith)) (below_none k w (λ n lt. other n (omega arith)))

number_is : (most : ℕ) (w : List ℕ) (n : ℕ) → number_of most w ≡ Some n → w ≡ decimal n
unfolding number_of
number_is most w n e = below_takes (most + 1) w n e

-- and it is one of those from 0 on
small_by : (k n : ℕ) (b : Bool) (below : Option ℕ) → (below ≡ Some n → n < k) → cond b (Some k) below ≡ Some n → n < suc k
small_by k n true below later e = let same : k ≡ n = cc in omega arith
small_by k n false below later e = let less = later e in omega arith

below_small : (k : ℕ) (w : List ℕ) (n : ℕ) → number_below k w ≡ Some n → n < k
unfolding number_below
below_small zero w n e = absurd cc
below_small (suc k) w n e = small_by k n (pointwise ◌==◌ w (decimal k)) (number_below k w) (below_small k w n) e

number_small : (most : ℕ) (w : List ℕ) (n : ℕ) → number_of most w ≡ Some n → n ≤ most
unfolding number_of
number_small most w n e = let less : n < most + 1 = below_small (most + 1) w n e in omega arith

pub byte_some : (w : List ℕ) (n : ℕ) → n < 2 ^ 8 → w ≡ decimal n → number_of 255 w ≡ Some n
unfolding number_of
byte_some w n lt e = below_again 256 n w (omega arith) (omega arith) e

pub byte_none : (w : List ℕ) → ((n : ℕ) → n < 2 ^ 8 → w ≢ decimal n) → number_of 255 w ≡ None
unfolding number_of
byte_none w other = below_none 256 w (λ n lt. other n (omega arith))

pub part_number_some : (w : List ℕ) (n : ℕ) → n ≤ 256 → w ≡ decimal n → number_of 256 w ≡ Some n
unfolding number_of
part_number_some w n le e = below_again 257 n w (omega arith) (omega arith) e

pub part_number_over : (w : List ℕ) (n : ℕ) → n < 2 ^ 16 → 256 < n → w ≡ decimal n → number_of 256 w ≡ None
unfolding number_of
part_number_over w n lt over e =
    below_none 257 w (λ m less is. let same : n ≡ m = decimal_injective n m (omega arith) (omega arith) (sym e ∙ is)
    in absurd (omega arith))

pub part_number_none : (w : List ℕ) → ((n : ℕ) → n < 2 ^ 16 → w ≢ decimal n) → number_of 256 w ≡ None
unfolding number_of
part_number_none w other = below_none 257 w (λ n lt. other n (omega arith))

pub byte_again : (n : ℕ) (rest : List Token) → n < 2 ^ 8 → byte_at (number n ∷ rest) ≡ Ok (n, rest)
byte_again n rest lt = chosen_again wanted.Byte (number_of 255) (decimal n) n rest (byte_some (decimal n) n lt refl)

pub number_takes : (w : Wanted) (most : ℕ) (ts : List Token) (x : ℕ × List Token) → chosen_at w (number_of most) ts ≡ Ok x
    → ts ≡ number x.0 ∷ x.1
number_takes w most ts x e = chosen_takes w (number_of most) decimal (number_is most) ts x e

pub number_fits : (w : Wanted) (most : ℕ) (ts : List Token) (x : ℕ × List Token) → chosen_at w (number_of most) ts ≡ Ok x → x.0 ≤ most
number_fits w most [] x e = absurd cc
number_fits w most (Key k ∷ ts) x e = absurd cc
number_fits w most (Word v ∷ ts) x e = number_small most v x.0 (chosen_word w v ts x (number_of most v) e).0
number_fits w most (Quoted t ∷ ts) x e = absurd cc
number_fits w most (Sign c ∷ ts) x e = absurd cc
number_fits w most (Doc d ∷ ts) x e = absurd cc
number_fits w most (Stray f ∷ ts) x e = absurd cc

pub byte_takes : (ts : List Token) (x : ℕ × List Token) → byte_at ts ≡ Ok x → ts ≡ number x.0 ∷ x.1
byte_takes ts x e = number_takes wanted.Byte 255 ts x e

pub byte_within : (ts : List Token) → Shorter ts (byte_at ts)
byte_within ts = chosen_within wanted.Byte (number_of 255) ts

-- ---- a comment: where none is, no text stands at the front

pub comment_again : (c : Option (List ℕ)) (rest : List Token) → quoted_first rest ≡ false → comment_at (comment c ++ rest) ≡ (c, rest)
comment_again (Some t) rest h = refl
comment_again None [] h = refl
comment_again None (Key k ∷ ts) h = refl
comment_again None (Word w ∷ ts) h = refl
comment_again None (Quoted t ∷ ts) h = absurd cc
comment_again None (Sign c ∷ ts) h = refl
comment_again None (Doc d ∷ ts) h = refl
comment_again None (Stray f ∷ ts) h = refl

pub comment_takes : (ts : List Token) → ts ≡ comment (comment_at ts).0 ++ (comment_at ts).1
comment_takes [] = refl
comment_takes (Key k ∷ ts) = refl
comment_takes (Word w ∷ ts) = refl
comment_takes (Quoted t ∷ ts) = refl
comment_takes (Sign c ∷ ts) = refl
comment_takes (Doc d ∷ ts) = refl
comment_takes (Stray f ∷ ts) = refl

pub comment_within : (ts : List Token) → length (comment_at ts).1 ≤ length ts
comment_within [] = omega arith
comment_within (Key k ∷ ts) = omega arith
comment_within (Word w ∷ ts) = omega arith
comment_within (Quoted t ∷ ts) = omega arith
comment_within (Sign c ∷ ts) = omega arith
comment_within (Doc d ∷ ts) = omega arith
comment_within (Stray f ∷ ts) = omega arith

pub comment_less : (c : Option (List ℕ)) (rest : List Token) → length (comment_at (comment c ++ rest)).1 ≤ length rest
comment_less None rest = comment_within rest
comment_less (Some t) rest = omega arith

-- ---- documentation, up to a keyword

pub docs_again : (ds : List (List ℕ)) (k : Keyword) (rest : List Token) → docs_at (docs ds ++ Key k ∷ rest) ≡ (ds, Key k ∷ rest)
docs_again [] k rest = refl
docs_again (d ∷ ds) k rest = ap (λ (x : List (List ℕ) × List Token). (d ∷ x.0, x.1)) (docs_again ds k rest)

pub docs_takes : (ts : List Token) → ts ≡ docs (docs_at ts).0 ++ (docs_at ts).1
docs_takes [] = refl
docs_takes (Key k ∷ ts) = refl
docs_takes (Word w ∷ ts) = refl
docs_takes (Quoted t ∷ ts) = refl
docs_takes (Sign c ∷ ts) = refl
docs_takes (Doc d ∷ ts) = ap (λ (r : List Token). Doc d ∷ r) (docs_takes ts)
docs_takes (Stray f ∷ ts) = refl

pub docs_within : (ts : List Token) → length (docs_at ts).1 ≤ length ts
docs_within [] = omega arith
docs_within (Key k ∷ ts) = omega arith
docs_within (Word w ∷ ts) = omega arith
docs_within (Quoted t ∷ ts) = omega arith
docs_within (Sign c ∷ ts) = omega arith
docs_within (Doc d ∷ ts) = omega (arith, docs_within ts)
docs_within (Stray f ∷ ts) = omega arith

-- ---- what stands at the front

pub word_is : (v : List ℕ) (ts : List Token) → word_first v ts ≡ true → ts ≡ Word v ∷ drop 1 ts
word_is v [] e = absurd cc
word_is v (Key k ∷ ts) e = absurd cc
word_is v (Word w ∷ ts) e = ap (λ (u : List ℕ). Word u ∷ ts) (same_text w v (sym e))
word_is v (Quoted t ∷ ts) e = absurd cc
word_is v (Sign c ∷ ts) e = absurd cc
word_is v (Doc d ∷ ts) e = absurd cc
word_is v (Stray f ∷ ts) e = absurd cc

pub sign_is : (s : ℕ) (ts : List Token) → sign_first s ts ≡ true → ts ≡ Sign s ∷ drop 1 ts
sign_is s [] e = absurd cc
sign_is s (Key k ∷ ts) e = absurd cc
sign_is s (Word w ∷ ts) e = absurd cc
sign_is s (Quoted t ∷ ts) e = absurd cc
sign_is s (Sign c ∷ ts) e = ap (λ (m : ℕ). Sign m ∷ ts) (eqb-true c s e)
sign_is s (Doc d ∷ ts) e = absurd cc
sign_is s (Stray f ∷ ts) e = absurd cc

differs_by : (w v : List ℕ) (b : Bool) → pointwise ◌==◌ w v ≡ b → w ≢ v → b ≡ false
differs_by w v true is other = absurd (other (same_text w v (sym is)))
differs_by w v false is other = refl

pub differs : (w v : List ℕ) → w ≢ v → pointwise ◌==◌ w v ≡ false
differs w v other = differs_by w v (pointwise ◌==◌ w v) refl other

-- where another word is wanted
pub not_word : (v w : List ℕ) (rest ts : List Token) → word_first v ts ≡ false → ts ≡ Word w ∷ rest → w ≢ v
not_word v w rest ts h e =
    λ same. let no : pointwise ◌==◌ w v ≡ false = ap (word_first v) (sym e) ∙ h in
    let yes : pointwise ◌==◌ w v ≡ true = (bytes_decides w v).1 same in absurd (cc)
