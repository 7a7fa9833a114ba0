-- A text is refused at the first token that no items have there.
use Rattle.std.proofs.Common.{◌≡◌, ◌∙◌, ℕ, zero, suc, ◌+◌, ◌-◌, ◌≤◌, ◌<◌, List, [], ◌∷◌, ◌++◌, length, drop, take, Result, Ok, Err}
use Rattle.std.proofs.Common.{refl, sym, ap, subst, arith, append-nil, inl, inr, ◌⊎◌, true, false, append_assoc, length-append}
use Rattle.std.proofs.lemmas.List.{take-append-drop, length-drop, take-take, take_all}
use Rattle.std.proofs.lemmas.Bool.{cases_lt}
use Rattle.std.proofs.Math.Seq.{drop-append_seam}
use Rattle.meta_file_syntax.specs.declared.token.Token.{Token}
use Rattle.meta_file_syntax.specs.declared.token.Token.TheVariants.{Word}
use Rattle.meta_file_syntax.specs.declared.items.Item.{Item}
use Rattle.meta_file_syntax.specs.Spelling.{spelled, spelled_all}
use Rattle.meta_file_reader.specs.declared.fault.Fault.{Fault}
use Rattle.meta_file_reader.specs.declared.fault.Wanted.{Wanted}
use Rattle.meta_file_reader.specs.declared.fault.Wanted.TheVariants as wanted
use Rattle.meta_file_reader.specs.Parts.{◌>>=◌, sign_first}
use Rattle.meta_file_reader.specs.Reading.{item_at, items_at}
use Rattle.meta_file_reader.specs.Fits.{AllFit}
use Rattle.meta_file_reader.specs.Refused.{CallNone, stuck_at, BeginItems, AreRefused}
use Rattle.meta_file_reader.proofs.PartLaws.{bind_ok, ok_is, Shorter}
use Rattle.meta_file_reader.proofs.AllItems.{item_takes, err_is, then_err, fewer, all_takes, all_fit, all_again, all_refused}
use Rattle.meta_file_reader.proofs.Stuck.{Other, Near, FaultCalls, Firm, further}
use Rattle.meta_file_reader.proofs.StuckItems.{item_local}

-- ---- where a function is wanted, a word stands that isn't one

firm_by : (n : ℕ) (t : Token) (ts : List Token) (f : Fault) (r : Result (Item × List Token) Fault) → item_at (t ∷ ts) ≡ r
    → Firm (t ∷ ts) r → ((x : Item × List Token) → item_at (t ∷ ts) ≡ Ok x → items_at n x.1 ≡ Err f → FaultCalls (t ∷ ts) f)
    → f.wanted ≡ wanted.Function → (r >>= λ x. items_at n x.1 >>= λ xs. Ok (x.0 ∷ xs)) ≡ Err f → FaultCalls (t ∷ ts) f
firm_by n t ts f (Err g) is firm later w e =
    let same : g ≡ f = err_is g f e in
    subst (λ (d : Fault). FaultCalls (t ∷ ts) d) same (firm (ap (λ (d : Fault). d.wanted) same ∙ w))
firm_by n t ts f (Ok x) is firm later w e = later x is (then_err x.0 f (items_at n x.1) e)

firm_items : (n : ℕ) (ts : List Token) (f : Fault) → length ts ≤ n → items_at n ts ≡ Err f → f.wanted ≡ wanted.Function → FaultCalls ts f
unfolding items_at
firm_items zero [] f le e w = absurd cc
firm_items zero (t ∷ ts) f le e w = absurd (omega arith)
firm_items (suc n) [] f le e w = absurd cc
firm_items (suc n) (t ∷ ts) f le e w =
    firm_by n t ts f (item_at (t ∷ ts)) refl (item_local.keeps (t ∷ ts)).1
    (λ x is later.
    let some = fewer (t ∷ ts) x is in
    let c = firm_items n x.1 f (omega arith) later w in
    (c.0, c.1, further (t ∷ ts) x.1 c.0 (spelled x.0, item_takes (t ∷ ts) x is) c.2, c.3)) w e

some_left : (ts : List Token) (f : Fault) → FaultCalls ts f → 0 < f.left
some_left ts f c =
    let long : length c.0 ≡ length (Word c.3.word ∷ c.3.after) = ap length c.3.are in
    let left : length c.0 ≡ f.left = c.1 in
    omega arith

-- ---- no items go on with the token at which reading fails

-- what comes after the tokens that both have opens a function, where reading fails since a word isn't one
abbrev Opens : Fault → List Token → List Token → Type 0
Opens f rest more = f.wanted ≡ wanted.Function → f.left ≡ suc (length rest) → sign_first 40 more ≡ true

no_item : (r : Result (Item × List Token) Fault) (y : Item × List Token) → ((g : Fault) × (r ≡ Err g)) → r ≡ Ok y → ⊥
no_item r y h e = let failed = h.1 in cc

stuck_by : (n m : ℕ) (us rest more : List Token) (f : Fault) (y : Item × List Token) (ys : List Item)
    (r : Result (Item × List Token) Fault) → Near rest more r (item_at us) → ((x : Item × List Token) → r ≡ Ok x → length x.1 ≤ n)
    → (r >>= λ x. items_at n x.1 >>= λ xs. Ok (x.0 ∷ xs)) ≡ Err f → length rest < f.left → Opens f rest more → item_at us ≡ Ok y
    → items_at m y.1 ≡ Ok ys
    → ((p : List Token) → length (p ++ rest) ≤ n → items_at n (p ++ rest) ≡ Err f → items_at m (p ++ more) ≡ Ok ys → ⊥) → ⊥
stuck_by n m us rest more f y ys (Err g) near few e lt opens read ok later =
    let same : g ≡ f = err_is g f e in
    let left : length rest < g.left = subst (λ (d : Fault). length rest < d.left) (sym same) lt in
    no_item (item_at us) y ((near left).0 (subst (λ (d : Fault). Opens d rest more) (sym same) opens)) read
stuck_by n m us rest more f y ys (Ok x) near few e lt opens read ok later =
    let small : length x.1 ≤ n = few x refl in
    let next : items_at n x.1 ≡ Err f = then_err x.0 f (items_at n x.1) e in
    let within : f.left ≤ length x.1 = (all_refused n x.1 f small next).0 in
    let p = near (omega arith) in
    let same : y ≡ (x.0, p.0 ++ more) = ok_is y (x.0, p.0 ++ more) (sym read ∙ p.2) in
    later p.0 (subst (λ (u : List Token). length u ≤ n) p.1 small) (subst (λ (u : List Token). items_at n u ≡ Err f) p.1 next)
    (subst (λ (z : Item × List Token). items_at m z.1 ≡ Ok ys) same ok)

stuck_items : (n m : ℕ) (q rest more : List Token) (f : Fault) (is : List Item) → length (q ++ rest) ≤ n → items_at n (q ++ rest) ≡ Err f
    → length rest < f.left → Opens f rest more → items_at m (q ++ more) ≡ Ok is → ⊥
unfolding items_at
stuck_items n m [] rest more f is le e lt opens ok = let within : f.left ≤ length rest = (all_refused n rest f le e).0 in omega arith
stuck_items zero m (t ∷ q) rest more f is le e lt opens ok = absurd (omega arith)
stuck_items (suc n) zero (t ∷ q) rest more f is le e lt opens ok = absurd cc
stuck_items (suc n) (suc m) (t ∷ q) rest more f is le e lt opens ok =
    let a = bind_ok (item_at (t ∷ (q ++ more))) (λ x. items_at m x.1 >>= λ ys. Ok (x.0 ∷ ys)) is ok in
    let b = bind_ok (items_at m a.0.1) (λ ys. Ok (a.0.0 ∷ ys)) is a.2 in
    stuck_by n m (t ∷ (q ++ more)) rest more f a.0 b.0 (item_at (t ∷ (q ++ rest))) (item_local.near (t ∷ q) rest more)
    (λ x read. let some = fewer (t ∷ (q ++ rest)) x read in omega arith) e lt opens a.1 b.1
    (λ p few next later. stuck_items n m p rest more f b.0 few next lt opens later)

-- ---- the word that isn't a function is passed, if no `(` comes after it

-- reading ends in these last tokens
abbrev EndsIn : List Token → Result (List Item) Fault → Type 0
EndsIn more (Ok is) = Unit {0}
EndsIn more (Err g) = g.left ≤ length more

ends_after : (more : List Token) (i : Item) (r : Result (List Item) Fault) → EndsIn more r → EndsIn more (r >>= λ xs. Ok (i ∷ xs))
ends_after more i (Ok is) h = tt
ends_after more i (Err g) h = h

ends_by : (m : ℕ) (ts more : List Token) (r : Result (List Item) Fault) → items_at m ts ≡ r → length ts ≤ m → length ts ≤ length more
    → EndsIn more r
ends_by m ts more (Ok is) e few le = tt
ends_by m ts more (Err g) e few le = let within : g.left ≤ length ts = (all_refused m ts g few e).0 in omega arith

ends_item : (m : ℕ) (more : List Token) (r : Result (Item × List Token) Fault) → Shorter more r
    → ((x : Item × List Token) → r ≡ Ok x → length x.1 ≤ m) → EndsIn more (r >>= λ x. items_at m x.1 >>= λ xs. Ok (x.0 ∷ xs))
ends_item m more (Ok x) short few = ends_after more x.0 (items_at m x.1) (ends_by m x.1 more (items_at m x.1) refl (few x refl) short)
ends_item m more (Err g) short few = short

passed_by : (n m : ℕ) (rest more us : List Token) (f : Fault) (r : Result (Item × List Token) Fault) → Near rest more r (item_at us)
    → ((x : Item × List Token) → r ≡ Ok x → length x.1 ≤ n) → ((x : Item × List Token) → item_at us ≡ Ok x → length x.1 ≤ m)
    → (r >>= λ x. items_at n x.1 >>= λ xs. Ok (x.0 ∷ xs)) ≡ Err f → f.wanted ≡ wanted.Function → f.left ≡ suc (length rest)
    → sign_first 40 more ≡ false
    → ((p : List Token) → length (p ++ rest) ≤ n → length (p ++ more) ≤ m → items_at n (p ++ rest) ≡ Err f
    → EndsIn more (items_at m (p ++ more))) → EndsIn more (item_at us >>= λ x. items_at m x.1 >>= λ xs. Ok (x.0 ∷ xs))
passed_by n m rest more us f (Err g) near few fits e w left closed later =
    let same : g ≡ f = err_is g f e in
    let there : g.left ≡ suc (length rest) = ap (λ (d : Fault). d.left) same ∙ left in
    ends_item m more (item_at us) ((near (omega arith)).1 (ap (λ (d : Fault). d.wanted) same ∙ w) there closed) fits
passed_by n m rest more us f (Ok x) near few fits e w left closed later =
    let small : length x.1 ≤ n = few x refl in
    let next : items_at n x.1 ≡ Err f = then_err x.0 f (items_at n x.1) e in
    let within : f.left ≤ length x.1 = (all_refused n x.1 f small next).0 in
    let p = near (omega arith) in
    subst (λ (s : Result (Item × List Token) Fault). EndsIn more (s >>= λ y. items_at m y.1 >>= λ xs. Ok (y.0 ∷ xs))) (sym p.2)
    (ends_after more x.0 (items_at m (p.0 ++ more))
    (later p.0 (subst (λ (u : List Token). length u ≤ n) p.1 small) (fits (x.0, p.0 ++ more) p.2)
    (subst (λ (u : List Token). items_at n u ≡ Err f) p.1 next)))

passed_items : (n m : ℕ) (q rest more : List Token) (f : Fault) → length (q ++ rest) ≤ n → length (q ++ more) ≤ m
    → items_at n (q ++ rest) ≡ Err f → f.wanted ≡ wanted.Function → f.left ≡ suc (length rest) → sign_first 40 more ≡ false
    → EndsIn more (items_at m (q ++ more))
unfolding items_at
passed_items n m [] rest more f le less e w left closed =
    let within : f.left ≤ length rest = (all_refused n rest f le e).0 in absurd (omega arith)
passed_items zero m (t ∷ q) rest more f le less e w left closed = absurd (omega arith)
passed_items (suc n) zero (t ∷ q) rest more f le less e w left closed = absurd (omega arith)
passed_items (suc n) (suc m) (t ∷ q) rest more f le less e w left closed =
    passed_by n m rest more (t ∷ (q ++ more)) f (item_at (t ∷ (q ++ rest))) (item_local.near (t ∷ q) rest more)
    (λ x read. let some = fewer (t ∷ (q ++ rest)) x read in omega arith)
    (λ x read. let some = fewer (t ∷ (q ++ more)) x read in omega arith)
    e w left closed (λ p few fits next. passed_items n m p rest more f few fits next w left closed)

-- tokens at whose end reading ends begin items
end_begins : (q : List Token) (r : Result (List Item) Fault) → items_at (length q) q ≡ r → EndsIn [] r → BeginItems q
end_begins q (Ok is) e h = record {
  is = is;
  more = [];
  fit = all_fit (length q) q is e;
  are = sym (all_takes (length q) q is e) ∙ sym (append-nil q);
}
end_begins q (Err g) e h =
    let begun = (all_refused (length q) q g (omega arith) e).1.begun in
    let whole : take (length q - g.left) q ≡ q = take_all (length q - g.left) q (omega arith) in
    subst (λ (u : List Token). BeginItems u) whole begun

-- ---- where tokens are refused

-- whether a function is wanted
known : (w : Wanted) (place : ℕ) → ((w ≡ wanted.Function) × (stuck_at w place ≡ place + 1)) ⊎ (Other w × (stuck_at w place ≡ place))
known wanted.Function place = inl (refl, refl)
known w place = inr (λ e. absurd cc, refl)

-- the tokens up to the word that isn't a function, and those after it
pub record Called (ts : List Token) (f : Fault) (k : ℕ) : Type 0 where
  pub read : items_at (length ts) (take k ts ++ drop k ts) ≡ Err f
  pub all : length (take k ts ++ drop k ts) ≡ length ts
  pub left : f.left ≡ suc (length (drop k ts))

called : (ts : List Token) (f : Fault) → items_at (length ts) ts ≡ Err f → f.wanted ≡ wanted.Function
    → Called ts f (length ts - f.left + 1)
called ts f e w =
    let k = length ts - f.left + 1 in
    let some : 0 < f.left = some_left ts f (firm_items (length ts) ts f (omega arith) e w) in
    let within : f.left ≤ length ts = (all_refused (length ts) ts f (omega arith) e).0 in
    let whole : take k ts ++ drop k ts ≡ ts = take-append-drop k ts in
    let long : length (drop k ts) ≡ length ts - k = length-drop k ts in
    record {
      read = ap (λ (u : List Token). items_at (length ts) u) whole ∙ e;
      all = ap length whole;
      left = omega arith;
    }

-- the tokens up to the word begin items
begun_by : (ts : List Token) (f : Fault) → items_at (length ts) ts ≡ Err f → f.wanted ≡ wanted.Function
    → BeginItems (take (length ts - f.left + 1) ts)
begun_by ts f e w =
    let k = length ts - f.left + 1 in
    let c = called ts f e w in
    let all : length (take k ts ++ drop k ts) ≡ length ts = c.all in
    let nil : take k ts ++ [] ≡ take k ts = append-nil (take k ts) in
    let same : length (take k ts ++ []) ≡ length (take k ts) = ap length nil in
    let end : EndsIn [] (items_at (length (take k ts)) (take k ts ++ [])) =
    passed_items (length ts) (length (take k ts)) (take k ts) (drop k ts) [] f (omega arith) (omega arith) c.read w c.left refl in
    end_begins (take k ts) (items_at (length (take k ts)) (take k ts)) refl
    (subst (λ (u : List Token). EndsIn [] (items_at (length (take k ts)) u)) nil end)

-- the word is told
called_there : (ts : List Token) (f : Fault) → items_at (length ts) ts ≡ Err f → f.wanted ≡ wanted.Function
    → CallNone (drop (length ts - f.left) ts)
called_there ts f e w =
    let c = firm_items (length ts) ts f (omega arith) e w in
    let d : List Token = c.2.0 in
    let whole : ts ≡ d ++ c.0 = c.2.1 in
    let long : length ts ≡ length d + length c.0 = ap length whole ∙ length-append d c.0 in
    let left : length c.0 ≡ f.left = c.1 in
    let few : length ts - f.left ≡ length d = omega arith in
    let last : drop (length ts - f.left) ts ≡ c.0 = ap (λ (n : ℕ). drop n ts) few ∙ ap (λ (u : List Token). drop (length d) u) whole
    ∙ drop-append_seam d c.0 in
    subst (λ (u : List Token). CallNone u) (sym last) c.3

-- no items begin with the tokens up to the place and after it
stuck_after : (ts : List Token) (f : Fault) (k : ℕ) → items_at (length ts) ts ≡ Err f → length ts - f.left < k → k ≤ length ts
    → (f.wanted ≡ wanted.Function → f.left ≡ suc (length ts - k) → ⊥) → BeginItems (take k ts) → ⊥
stuck_after ts f k e past within other begin =
    let q = take k ts in
    let rest = drop k ts in
    let whole : q ++ rest ≡ ts = take-append-drop k ts in
    let long : length rest ≡ length ts - k = length-drop k ts in
    let all : length (q ++ rest) ≡ length ts = ap length whole in
    let left : f.left ≤ length ts = (all_refused (length ts) ts f (omega arith) e).0 in
    let read : items_at (length ts) (q ++ rest) ≡ Err f = ap (λ (u : List Token). items_at (length ts) u) whole ∙ e in
    let us : List Token = q ++ begin.more in
    let same : length (spelled_all begin.is) ≡ length us = ap length begin.are in
    let ok : items_at (length us) us ≡ Ok begin.is = ap (λ (u : List Token). items_at (length us) u) (sym begin.are)
    ∙ all_again begin.is (length us) begin.fit (omega arith) in
    stuck_items (length ts) (length us) q rest begin.more f begin.is (omega arith) read (omega arith)
    (λ w there. absurd (other w (there ∙ ap (λ (n : ℕ). suc n) long))) ok

-- tokens that are refused are no items
not_whole : (ts : List Token) (f : Fault) → items_at (length ts) ts ≡ Err f → (is : List Item) → AllFit is → ts ≡ spelled_all is → ⊥
not_whole ts f e is fit s =
    let same : length ts ≡ length (spelled_all is) = ap length s in
    let read : items_at (length ts) ts ≡ Ok is = ap (λ (u : List Token). items_at (length ts) u) s
    ∙ all_again is (length ts) fit (omega arith) in
    cc

-- the token there is the first that no items have there
abbrev Placed : List Token → Fault → ℕ → Type 0
Placed ts f at =
    (at ≤ length ts) × BeginItems (take at ts) × (at < length ts → BeginItems (take (at + 1) ts) → ⊥)

placed : (ts : List Token) (f : Fault) → items_at (length ts) ts ≡ Err f → Placed ts f (stuck_at f.wanted (length ts - f.left))
placed ts f e =
    let r = all_refused (length ts) ts f (omega arith) e in
    elim (known f.wanted (length ts - f.left)) [
      | inl function ↦
          let some : 0 < f.left = some_left ts f (firm_items (length ts) ts f (omega arith) e function.0) in
          let within : f.left ≤ length ts = r.0 in
          subst (λ (k : ℕ). Placed ts f k) (sym function.1) (
            omega arith,
            begun_by ts f e function.0,
            λ lt. stuck_after ts f (length ts - f.left + 1 + 1) e (omega arith) (omega arith) (λ w there. omega arith),
          )
      | inr other ↦
          subst (λ (k : ℕ). Placed ts f k) (sym other.1) (
            omega arith,
            r.1.begun,
            λ lt. stuck_after ts f (length ts - f.left + 1) e (omega arith) (omega arith) (λ w there. other.0 w),
          )
    ]

pub all_stuck : (ts : List Token) (f : Fault) → items_at (length ts) ts ≡ Err f → AreRefused ts f.wanted (length ts - f.left)
all_stuck ts f e =
    let r = (all_refused (length ts) ts f (omega arith) e).1 in
    let p = placed ts f e in
    record {
      front = r.front;
      rest = r.rest;
      fit = r.fit;
      are = r.are;
      apart = r.apart;
      longest = r.longest;
      some = r.some;
      after = r.after;
      within = p.0;
      called = called_there ts f e;
      begun = p.1;
      stuck = p.2;
      ended = not_whole ts f e;
    }

-- ---- one place

-- fewer tokens begin the same items
begins_less : (ts : List Token) (n m : ℕ) → n ≤ m → BeginItems (take m ts) → BeginItems (take n ts)
begins_less ts n m le b = record {
  is = b.is;
  more = drop n (take m ts) ++ b.more;
  fit = b.fit;
  are = b.are ∙ ap (λ (u : List Token). u ++ b.more) (sym (take-append-drop n (take m ts)))
      ∙ append_assoc (take n (take m ts)) (drop n (take m ts)) b.more
      ∙ ap (λ (u : List Token). u ++ (drop n (take m ts) ++ b.more)) (take-take n m ts le);
}

-- no token before it can be the first either
not_before : (ts : List Token) (v w : Wanted) (p q : ℕ) → AreRefused ts v p → AreRefused ts w q → stuck_at v p < stuck_at w q → ⊥
not_before ts v w p q r s lt =
    let within = s.within in
    r.stuck (omega arith) (begins_less ts (stuck_at v p + 1) (stuck_at w q) (omega arith) s.begun)

pub one_stuck : (ts : List Token) (v w : Wanted) (p q : ℕ) → AreRefused ts v p → AreRefused ts w q → stuck_at v p ≡ stuck_at w q
one_stuck ts v w p q r s = elim (cases_lt (stuck_at v p) (stuck_at w q)) [
  | inl less ↦ absurd (not_before ts v w p q r s less)
  | inr more ↦ elim (cases_lt (stuck_at w q) (stuck_at v p)) [
    | inl less ↦ absurd (not_before ts w v q p s r less)
    | inr same ↦ omega arith
  ]
]

pub one_told : (ts : List Token) (w : Wanted) (p q : ℕ) → AreRefused ts w p → AreRefused ts w q → p ≡ q
one_told ts w p q r s =
    let same = one_stuck ts w w p q r s in
    elim (known w p) [
      | inl function ↦ elim (known w q) [
        | inl also ↦ (let a = function.1 in let b = also.1 in omega arith)
        | inr other ↦ absurd (other.0 function.0)
      ]
      | inr other ↦ elim (known w q) [
        | inl function ↦ absurd (other.0 function.0)
        | inr also ↦ (let a = other.1 in let b = also.1 in omega arith)
      ]
    ]
