-- A set has one member exactly where its size is 1.
use Rattle.std.proofs.Common.{◌≡◌, ℕ, ◌+◌, ◌*◌, ◌⊎◌, inl, inr, ⊎_elim, ◌↔◌, Bool, true, false, not, List, [], ◌∷◌, length, eqb, ap, ◌∙◌}
use Rattle.std.proofs.Common.{sym, subst, refl, zero, suc, arith, Contains}
use Rattle.std.proofs.lemmas.Bool.{false≢true, eq-eqb}
use Rattle.meta_types.specs.TypeParts.{NumberKind, IntKind, FloatKind, TypeParts, widths, lane_counts}
use Rattle.meta_types.proofs.Among.{Among, among, contains}
use Rattle.meta_typevar.specs.TypeSetParts.{TypeSetParts, widths_in, lanes_in, IsMember, HasOne, IsPart, IsTypeSet}
use Rattle.meta_typevar.proofs.Finite.{among_filter}
use Rattle.meta_typevar.proofs.Marks.{keeps, ints_keep, floats_keep, lanes_keep, dynamic_lanes_keep, differ, filter_differ}
use Rattle.meta_typevar.proofs.MaskLemmas.{members}

-- of all lists of a family one alone has a number, and that is the only one
pub record Single (K : Type 0) (f : K → List ℕ) : Type 0 where
  pub key : K
  pub number : ℕ
  pub held : Among (f key) number
  pub only : (k : K) (n : ℕ) → Among (f k) n → (k ≡ key) × (n ≡ number)

one_in : (K : Type 0) (f : K → List ℕ) (a b : K) → ((k : K) → (k ≡ a) ⊎ (k ≡ b)) → (x : ℕ) → f a ≡ x ∷ [] → f b ≡ [] → Single K f
one_in K f a b cases x e z = record {
  key = a;
  number = x;
  held = subst (λ (l : List ℕ). Among l x) (sym e) (inl refl);
  only = λ k n h. ⊎_elim (λ (p : k ≡ a). (p, at_a n (subst (λ (l : List ℕ). Among l n) (ap f p ∙ e) h))) (λ (p : k ≡ b). let none : ⊥ =
      subst (λ (l : List ℕ). Among l n) (ap f p ∙ z) h in absurd none) (cases k);
}
  where
    at_a : (n : ℕ) → Among (x ∷ []) n → n ≡ x
    at_a n (inl e) = e
    at_a n (inr h) = absurd h

swap : {A B : Type 0} → A ⊎ B → B ⊎ A
swap (inl a) = inr a
swap (inr b) = inl b

single : (K : Type 0) (f : K → List ℕ) (a b : K) → ((k : K) → (k ≡ a) ⊎ (k ≡ b)) → (xs ys : List ℕ) → f a ≡ xs → f b ≡ ys
    → length xs + length ys ≡ 1 → Single K f
single K f a b cases [] [] p q e = absurd (omega arith)
single K f a b cases (x ∷ []) [] p q e = one_in K f a b cases x p q
single K f a b cases [] (y ∷ []) p q e = one_in K f b a (λ k. swap (cases k)) y q p
single K f a b cases [] (y ∷ z ∷ ys) p q e = absurd (omega arith)
single K f a b cases (x ∷ []) (y ∷ ys) p q e = absurd (omega arith)
single K f a b cases (x ∷ y ∷ xs) ys p q e = absurd (omega arith)

-- two numbers in one list are the same
two_in : (K : Type 0) (f : K → List ℕ) (s : Single K f) (a : K) (x y : ℕ) (xs : List ℕ) → f a ≡ x ∷ y ∷ xs → differ (f a) ≡ true → ⊥
two_in K f s a x y xs e d =
    let first = (s.only a x (subst (λ (l : List ℕ). Among l x) (sym e) (inl refl))).1 in
    let second = (s.only a y (subst (λ (l : List ℕ). Among l y) (sym e) (inr (inl refl)))).1 in
    let same : eqb x y ≡ true = eq-eqb x y (first ∙ sym second) in
    let apart : not (eqb x y) ≡ true = ap differ (sym e) ∙ d in
    false≢true (sym (ap not same) ∙ apart)

-- two lists with a number are the same
two_keys : (K : Type 0) (f : K → List ℕ) (s : Single K f) (a b : K) (x y : ℕ) (xs ys : List ℕ) → f a ≡ x ∷ xs → f b ≡ y ∷ ys → a ≡ b
two_keys K f s a b x y xs ys e z =
    let first = (s.only a x (subst (λ (l : List ℕ). Among l x) (sym e) (inl refl))).0 in
    let second = (s.only b y (subst (λ (l : List ℕ). Among l y) (sym z) (inl refl))).0 in
    first ∙ sym second

single_length : (K : Type 0) (f : K → List ℕ) (s : Single K f) (a b : K) → (a ≡ b → ⊥) → ((k : K) → (k ≡ a) ⊎ (k ≡ b))
    → differ (f a) ≡ true → differ (f b) ≡ true → (xs ys : List ℕ) → f a ≡ xs → f b ≡ ys → length xs + length ys ≡ 1
single_length K f s a b apart cases d e [] [] p q =
    absurd (⊎_elim (λ (k : s.key ≡ a). subst (λ (l : List ℕ). Among l s.number) (ap f k ∙ p) s.held)
    (λ (k : s.key ≡ b). subst (λ (l : List ℕ). Among l s.number) (ap f k ∙ q) s.held) (cases s.key))
single_length K f s a b apart cases d e (x ∷ []) [] p q = refl
single_length K f s a b apart cases d e [] (y ∷ []) p q = refl
single_length K f s a b apart cases d e [] (y ∷ z ∷ ys) p q = absurd (two_in K f s b y z ys q e)
single_length K f s a b apart cases d e (x ∷ []) (y ∷ ys) p q = absurd (apart (two_keys K f s a b x y [] ys p q))
single_length K f s a b apart cases d e (x ∷ y ∷ xs) ys p q = absurd (two_in K f s a x y xs p d)

kind_cases : (k : NumberKind) → (k ≡ IntKind) ⊎ (k ≡ FloatKind)
kind_cases IntKind = inl refl
kind_cases FloatKind = inr refl

mark_cases : (b : Bool) → (b ≡ false) ⊎ (b ≡ true)
mark_cases false = inl refl
mark_cases true = inr refl

pub kinds_differ : IntKind ≡ FloatKind → ⊥
kinds_differ e = cc

pub product_one : (x y : ℕ) → x * y ≡ 1 → (x ≡ 1) × (y ≡ 1)
product_one zero y e = absurd (omega arith)
product_one (suc x) zero e = absurd (omega arith)
product_one (suc x) (suc y) e = (omega arith, omega arith)

pub widths_part : (s : TypeSetParts) → IsTypeSet s → (k : NumberKind) → IsPart (widths_in s k) (widths k)
widths_part s h IntKind = h.ints
widths_part s h FloatKind = h.floats

pub lanes_part : (s : TypeSetParts) → IsTypeSet s → (b : Bool) → IsPart (lanes_in s b) (lane_counts b)
lanes_part s h false = h.lanes
lanes_part s h true = h.dynamic_lanes

pub part_contains : (xs all : List ℕ) → IsPart xs all → (x : ℕ) → Among xs x → Contains all x
part_contains xs all h x a = contains all x (among_filter h.test all x (subst (λ (l : List ℕ). Among l x) h.is a)).0

part_differs : (xs all : List ℕ) → keeps all ≡ true → IsPart xs all → differ xs ≡ true
part_differs xs all e h = ap differ h.is ∙ filter_differ all e h.test

has_one : (s : TypeSetParts) → IsTypeSet s → Single NumberKind (widths_in s) → Single Bool (lanes_in s) → HasOne s
has_one s h w l = record {
  one = record { kind = w.key; width = w.number; lanes = l.number; is_dynamic = l.key };
  member = record {
    is_type = record {
      width = part_contains _ _ (widths_part s h w.key) w.number w.held;
      lanes = part_contains _ _ (lanes_part s h l.key) l.number l.held;
    };
    width = contains _ _ w.held;
    lanes = contains _ _ l.held;
  };
  only = λ t m.
      let a = w.only t.kind t.width (among _ _ m.width) in
      let b = l.only t.is_dynamic t.lanes (among _ _ m.lanes) in
      λ i. record { kind = a.0 i; width = a.1 i; lanes = b.1 i; is_dynamic = b.0 i };
}

one_width : (s : TypeSetParts) → IsTypeSet s → HasOne s → Single NumberKind (widths_in s)
one_width s h o = record {
  key = o.one.kind;
  number = o.one.width;
  held = among _ _ o.member.width;
  only = λ k n a.
      let t : TypeParts = record { kind = k; width = n; lanes = o.one.lanes; is_dynamic = o.one.is_dynamic } in
      let m : IsMember s t = record {
        is_type = record {
          width = part_contains _ _ (widths_part s h k) n a;
          lanes = o.member.is_type.lanes;
        };
        width = contains _ _ a;
        lanes = o.member.lanes;
      } in
      let e = o.only t m in
      (λ i. (e i).kind, λ i. (e i).width);
}

one_lanes : (s : TypeSetParts) → IsTypeSet s → HasOne s → Single Bool (lanes_in s)
one_lanes s h o = record {
  key = o.one.is_dynamic;
  number = o.one.lanes;
  held = among _ _ o.member.lanes;
  only = λ b n a.
      let t : TypeParts = record { kind = o.one.kind; width = o.one.width; lanes = n; is_dynamic = b } in
      let m : IsMember s t = record {
        is_type = record {
          width = o.member.is_type.width;
          lanes = part_contains _ _ (lanes_part s h b) n a;
        };
        width = o.member.width;
        lanes = contains _ _ a;
      } in
      let e = o.only t m in
      (λ i. (e i).is_dynamic, λ i. (e i).lanes);
}

pub size_one : (s : TypeSetParts) → IsTypeSet s → ((members s ≡ 1) ↔ HasOne s)
size_one s h = (
  λ e.
      let p = product_one _ _ e in
      has_one s h
      (single NumberKind (widths_in s) IntKind FloatKind kind_cases s.ints s.floats refl refl p.1)
      (single Bool (lanes_in s) false true mark_cases s.lanes s.dynamic_lanes refl refl p.0),
  λ o.
      let w = single_length NumberKind (widths_in s) (one_width s h o) IntKind FloatKind kinds_differ kind_cases
      (part_differs _ _ ints_keep h.ints) (part_differs _ _ floats_keep h.floats) s.ints s.floats refl refl in
      let l = single_length Bool (lanes_in s) (one_lanes s h o) false true false≢true mark_cases (part_differs _ _ lanes_keep h.lanes)
      (part_differs _ _ dynamic_lanes_keep h.dynamic_lanes) s.lanes s.dynamic_lanes refl refl in
      λ i. l i * w i,
)
