-- What is added to a list of what was found.
use Rattle.std.proofs.Common.{◌≡◌, ◌<◌, ◌≤◌, ◌+◌, ◌⊎◌, inl, inr, ⊎_elim, ℕ, List, [], ◌∷◌, ◌++◌, Option, None, Some, refl, sym}
use Rattle.std.proofs.Common.{◌∙◌, ap, subst, arith}
use Rattle.std.proofs.lemmas.Bool.{cases_eq}
use Rattle.std.proofs.lemmas.List.{append-nil}
use Rattle.meta_lists.proofs.Joined.{two}
use Rattle.meta_explain.specs.Listed.{AreListed}
use Rattle.meta_explain.specs.Found.{IsBefore, control_place}
use Rattle.meta_explain.specs.Search.{Adds}
use Rattle.meta_explain.specs.declared.control_types.ControlTypes.{ControlTypes}
use Rattle.meta_explain.specs.declared.found.Found.{Found}
use Rattle.meta_explain.proofs.Listing.{listed_none, listed_one, listed_same, listed_joined}

pub adds_none : (P : Found → Type 0) (xs : List Found) → ((x : Found) → P x → ⊥) → Adds P xs xs
adds_none P xs never = record { part = []; added = sym (append-nil xs); listed = listed_none IsBefore P never }

pub adds_one : (P : Found → Type 0) (old new : List Found) (y : Found) → new ≡ old ++ y ∷ [] → P y → ((x : Found) → P x → y ≡ x)
    → Adds P old new
adds_one P old new y added p only = record { part = y ∷ []; added = added; listed = listed_one IsBefore P y p only }

pub adds_same : (P Q : Found → Type 0) (old new : List Found) → ((x : Found) → P x → Q x) → ((x : Found) → Q x → P x) → Adds P old new
    → Adds Q old new
adds_same P Q old new to from h = record { part = h.part; added = h.added; listed = listed_same IsBefore P Q h.part to from h.listed }

pub adds_more : (P Q R : Found → Type 0) (a b c : List Found) → Adds P a b → Adds Q b c
    → ((x y : Found) → P x → Q y → IsBefore x y) → ((x : Found) → R x → P x ⊎ Q x) → ((x : Found) → P x → R x)
    → ((x : Found) → Q x → R x) → Adds R a c
adds_more P Q R a b c h g apart split left right = record {
  part = h.part ++ g.part;
  added = two a h.part g.part h.added g.added;
  listed = listed_joined IsBefore P Q R h.part g.part h.listed g.listed apart split left right;
}

-- what is added to nothing is the list
pub adds_all : (P : Found → Type 0) (xs : List Found) → Adds P [] xs → AreListed IsBefore P xs
adds_all P xs h = subst (AreListed IsBefore P) (sym h.added) h.listed

-- a place in the order of controls is that of one control
pub one_control_place : (c d : Option ℕ) → control_place c ≡ control_place d → c ≡ d
one_control_place None None e = refl
one_control_place None (Some n) e = absurd (omega (arith, e))
one_control_place (Some n) None e = absurd (omega (arith, e))
one_control_place (Some n) (Some m) e = let same : n ≡ m = omega (arith, e) in ap Some same

-- ---- of one opcode

-- what is found, with this control and with a second control at one of the places so far
abbrev pub SecondBefore : (Found → Type 0) → Option ℕ → ℕ → Found → Type 0
SecondBefore F ctrl i x = F x × (x.controls.ctrl ≡ ctrl) × (control_place x.controls.second < i)

-- what is found, with a control at one of the places so far
abbrev pub FirstBefore : (Found → Type 0) → ℕ → Found → Type 0
FirstBefore F i x = F x × (control_place x.controls.ctrl < i)

module _ (F : Found → Type 0) (op : ℕ) (of_op : (x : Found) → F x → x.opcode ≡ op) where
  -- two controls, each of which is one of these, are these
  both_are : (x : Found) (ctrl second : Option ℕ) → x.controls.ctrl ≡ ctrl → x.controls.second ≡ second
      → x.controls ≡ record { ctrl = ctrl; second = second }
  both_are x ctrl second e d = λ i. record { ctrl = e i; second = d i }

  pub seconds_more : (ctrl second : Option ℕ) (i : ℕ) (a b c : List Found) → control_place second ≡ i → Adds (SecondBefore F ctrl i) a b
      → Adds (λ x. F x × (x.controls ≡ record { ctrl = ctrl; second = second })) b c → Adds (SecondBefore F ctrl (i + 1)) a c
  seconds_more ctrl second i a b c placed h g = adds_more (SecondBefore F ctrl i)
      (λ x. F x × (x.controls ≡ record { ctrl = ctrl; second = second })) (SecondBefore F ctrl (i + 1)) a b c h g apart split left right
    where
      -- the control of what has these controls, and their place
      here : (y : Found) → y.controls ≡ record { ctrl = ctrl; second = second } → control_place y.controls.second ≡ i
      here y e = ap (λ (d : ControlTypes). control_place d.second) e ∙ placed

      apart : (x y : Found) → SecondBefore F ctrl i x → F y × (y.controls ≡ record { ctrl = ctrl; second = second }) → IsBefore x y
      apart x y (f, is, l) (g, e) =
          let at = here y e in
          inr (of_op x f ∙ sym (of_op y g), inr (is ∙ sym (ap (λ (d : ControlTypes). d.ctrl) e), omega (arith, l, at)))

      split : (x : Found) → SecondBefore F ctrl (i + 1) x
          → SecondBefore F ctrl i x ⊎ (F x × (x.controls ≡ record { ctrl = ctrl; second = second }))
      split x (f, is, l) = ⊎_elim
          (λ same. inr (f, both_are x ctrl second is (one_control_place x.controls.second second (same ∙ sym placed))))
          (λ other. inl (f, is, omega (arith, l, other)))
          (cases_eq (control_place x.controls.second) i)

      left : (x : Found) → SecondBefore F ctrl i x → SecondBefore F ctrl (i + 1) x
      left x (f, is, l) = (f, is, omega (arith, l))

      right : (x : Found) → F x × (x.controls ≡ record { ctrl = ctrl; second = second }) → SecondBefore F ctrl (i + 1) x
      right x (f, e) = let at = here x e in (f, ap (λ (d : ControlTypes). d.ctrl) e, omega (arith, at))

  pub seconds_none : (ctrl : Option ℕ) (i : ℕ) (xs : List Found) → ((x : Found) → F x → i ≤ control_place x.controls.second)
      → Adds (SecondBefore F ctrl i) xs xs
  seconds_none ctrl i xs from = adds_none (SecondBefore F ctrl i) xs (λ x (f, is, l). let low = from x f in omega (arith, l, low))

  pub seconds_all : (ctrl : Option ℕ) (i : ℕ) (a b : List Found) → ((x : Found) → F x → control_place x.controls.second < i)
      → Adds (SecondBefore F ctrl i) a b → Adds (λ x. F x × (x.controls.ctrl ≡ ctrl)) a b
  seconds_all ctrl i a b below = adds_same (SecondBefore F ctrl i) (λ x. F x × (x.controls.ctrl ≡ ctrl)) a b (λ x (f, is, l). (f, is))
      (λ x (f, is). (f, is, below x f))

  pub firsts_more : (ctrl : Option ℕ) (i : ℕ) (a b c : List Found) → control_place ctrl ≡ i → Adds (FirstBefore F i) a b
      → Adds (λ x. F x × (x.controls.ctrl ≡ ctrl)) b c → Adds (FirstBefore F (i + 1)) a c
  firsts_more ctrl i a b c placed h g = adds_more (FirstBefore F i) (λ x. F x × (x.controls.ctrl ≡ ctrl)) (FirstBefore F (i + 1)) a b c h g
      (λ x y (f, l) (g, e). let at = ap control_place e ∙ placed in inr (of_op x f ∙ sym (of_op y g), inl (omega (arith, l, at))))
      (λ x (f, l). ⊎_elim
      (λ same. inr (f, one_control_place x.controls.ctrl ctrl (same ∙ sym placed)))
      (λ other. inl (f, omega (arith, l, other)))
      (cases_eq (control_place x.controls.ctrl) i))
      (λ x (f, l). (f, omega (arith, l)))
      (λ x (f, e). let at = ap control_place e ∙ placed in (f, omega (arith, at)))

  pub firsts_none : (i : ℕ) (xs : List Found) → ((x : Found) → F x → i ≤ control_place x.controls.ctrl) → Adds (FirstBefore F i) xs xs
  firsts_none i xs from = adds_none (FirstBefore F i) xs (λ x (f, l). let low = from x f in omega (arith, l, low))

  pub firsts_all : (i : ℕ) (a b : List Found) → ((x : Found) → F x → control_place x.controls.ctrl < i) → Adds (FirstBefore F i) a b
      → Adds F a b
  firsts_all i a b below = adds_same (FirstBefore F i) F a b (λ x (f, l). f) (λ x f. (f, below x f))

-- ---- of all opcodes

-- the opcodes so far
abbrev pub OpcodeBefore : (Found → Type 0) → ℕ → Found → Type 0
OpcodeBefore F n x = (x.opcode < n) × F x

pub opcodes_more : (F : Found → Type 0) (n : ℕ) (a b c : List Found) → Adds (OpcodeBefore F n) a b
    → Adds (λ x. (x.opcode ≡ n) × F x) b c → Adds (OpcodeBefore F (n + 1)) a c
opcodes_more F n a b c h g = adds_more (OpcodeBefore F n) (λ x. (x.opcode ≡ n) × F x) (OpcodeBefore F (n + 1)) a b c h g
    (λ x y (l, f) (e, g). inl (omega (arith, l, e)))
    (λ x (l, f). ⊎_elim (λ same. inr (same, f)) (λ other. inl (omega (arith, l, other), f)) (cases_eq x.opcode n))
    (λ x (l, f). (omega (arith, l), f))
    (λ x (e, f). (omega (arith, e), f))
