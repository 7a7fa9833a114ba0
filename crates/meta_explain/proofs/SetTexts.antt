-- The text of a set of types, by cases; and an operand's text, by what tables have.
use Rattle.std.proofs.Common.{◌≡◌, ◌↔◌, IsTrue, All, ◌<◌, ◌≤◌, ◌+◌, ◌-◌, ◌||◌, not, ltb, Bool, true, false, ℕ, List, ◌++◌, length, slice_get, get_or, Contains, Some}
use Rattle.std.proofs.Common.{None, codes, refl, sym, ◌∙◌, ap, subst, arith, if◌then◌else◌}
use Rattle.std.specs.Fmt.{decimal}
use Rattle.std.specs.Global.{Vec}
use Rattle.std.proofs.lemmas.Bool.{false≢true, lt-ltb, le-ltb}
use Rattle.std.proofs.lemmas.List.Elements.{All-contains}
use Rattle.std.proofs.lemmas.Option.{same_Some, slice_get-get_or}
use Rattle.meta_lists.proofs.Joined.{two, three}
use Rattle.meta_lists.proofs.Places.{get_there, get_left, get_right}
use Rattle.meta_types.specs.TypeNumber.{IsTypeNumber}
use Rattle.meta_typevar.specs.Masks.{ContainsNumber, AreMasksOf}
use Rattle.meta_typevar.specs.MaskSets.{sets_in}
use Rattle.meta_typevar.specs.declared.masks.Masks.{Masks}
use Rattle.meta_inst.specs.Tables.{TableContents, NumberConstraint, ConcreteNumber, FreeOf, SetContains, ControlNumberFits, no_type_set}
use Rattle.meta_gen.specs.Demand.{number_constraint_demanded}
use Rattle.meta_gen.specs.declared.constraint.Demand.{Demand}
use Rattle.meta_gen.specs.WellFormedOpcodes.{IsWellFormedOpcodes, IsWellFormedConstraint}
use Rattle.meta_explain.specs.Listed.{AreListed, IsLess}
use Rattle.meta_explain.specs.Wanted.{AreOfControl}
use Rattle.meta_explain.specs.Options.{AreTypes}
use Rattle.meta_explain.specs.Sets.{least_set, is_one_set, numbers_in, numbers_held}
use Rattle.meta_explain.specs.Texts.{alternatives_text, item_text, set_text, place_text, wanted_text, wants_text, demand_text}
use Rattle.meta_explain.specs.declared.part.Part.TheVariants.{Operand}
use Rattle.meta_explain.specs.declared.explained.Wanted.{Wanted}
use Rattle.meta_explain.specs.declared.explained.Wanted.TheVariants.{Types}
use Rattle.meta_explain.proofs.Listing.{listed_same, one_listed, rising_apart}
use Rattle.meta_explain.proofs.Typed.{fits_some, some_fits}
use Rattle.meta_explain.proofs.LeastSets.{or_true, least_sets, one_set_to, numbers_listed}

-- ---- sets

abbrev text_by : List ℕ → Bool → List ℕ
text_by ns names = if names then alternatives_text ns else item_text (least_set ns)

-- fewer than two types are written by their names
pub few_text : (ns : List ℕ) → length ns < 2 → set_text ns ≡ alternatives_text ns
few_text ns few = ap (λ b. text_by ns (b || not (is_one_set ns))) (lt-ltb (length ns) 2 few)

-- and so are others that aren't one set
pub names_text : (ns : List ℕ) → is_one_set ns ≡ false → set_text ns ≡ alternatives_text ns
names_text ns other = ap (λ b. text_by ns (ltb (length ns) 2 || not b)) other ∙ ap (text_by ns) (or_true (ltb (length ns) 2))

pub other_text : (ns : List ℕ) (m : Masks) (answer : Bool) → AreMasksOf (least_set ns) m
    → (IsTrue answer ↔ ((n : ℕ) → ContainsNumber m n → Contains ns n)) → answer ≡ false → set_text ns ≡ alternatives_text ns
other_text ns m answer h told never = names_text ns (not_one (is_one_set ns) refl)
  where
    not_one : (b : Bool) → is_one_set ns ≡ b → is_one_set ns ≡ false
    not_one true one = absurd (false≢true (sym never ∙ told.1 (one_set_to ns m h one)))
    not_one false other = other

-- several that are one set are written as it
pub one_text : (ns : List ℕ) (m : Masks) → 2 ≤ length ns → is_one_set ns ≡ true → AreMasksOf (least_set ns) m
    → item_text (sets_in m) ≡ set_text ns
one_text ns m many one h =
    let text : set_text ns ≡ item_text (least_set ns) = ap (λ b. text_by ns (b || not (is_one_set ns))) (le-ltb (length ns) 2 many)
    ∙ ap (λ b. text_by ns (not b)) one in
    ap item_text (least_sets ns m h) ∙ sym text

-- ---- what is added

pub appended : (old new a b : List ℕ) → a ≡ b → new ≡ old ++ a → new ≡ old ++ b
appended old new a b e h = h ∙ ap (λ (t : List ℕ). old ++ t) e

pub parenthesized : (old x y new ns ms : List ℕ) → ns ≡ ms → x ≡ old ++ codes "(" → y ≡ x ++ set_text ns → new ≡ y ++ codes ")"
    → new ≡ old ++ (codes "(" ++ (set_text ms ++ codes ")"))
parenthesized old x y new ns ms e first second third =
    three old (codes "(") (set_text ns) (codes ")") first second third
    ∙ ap (λ (ks : List ℕ). old ++ (codes "(" ++ (set_text ks ++ codes ")"))) e

pub wanted_set : (old x new ns : List ℕ) (w : Wanted) (v : Vec ℕ) → w ≡ Types v → ns ≡ v.items → x ≡ old ++ codes "wants "
    → new ≡ x ++ set_text ns → new ≡ old ++ wants_text w
wanted_set old x new ns w v is e first second =
    two old (codes "wants ") (set_text ns) first second
    ∙ ap (λ (t : List ℕ). old ++ (codes "wants " ++ t)) (ap set_text e ∙ ap wanted_text (sym is))

pub wanted_are_types : (w : Wanted) (v : Vec ℕ) (ns : List ℕ) → w ≡ Types v → ns ≡ v.items → AreTypes w → All IsTypeNumber ns
wanted_are_types w v ns is e typed = subst (All IsTypeNumber) (sym e) (subst AreTypes is typed)

-- ---- parts

pub result_text : (k count : ℕ) → k < count → codes "result " ++ decimal k ≡ place_text (Operand k) count
result_text k count l = sym (ap (λ b. if b then codes "result " ++ decimal k else (codes "value " ++ decimal (k - count))) (lt-ltb k count l))

pub value_text : (k count : ℕ) → count ≤ k → codes "value " ++ decimal (k - count) ≡ place_text (Operand k) count
value_text k count l = sym (ap (λ b. if b then codes "result " ++ decimal k else (codes "value " ++ decimal (k - count))) (le-ltb k count l))

-- the type of an operand stands in the first list, or after it in the second
pub at_first : (rs vs : List ℕ) (k : ℕ) → k < length rs → Some (get_or rs k 0) ≡ slice_get (rs ++ vs) k
at_first rs vs k l = sym (get_left rs vs k l ∙ slice_get-get_or rs k 0 l)

pub at_second : (rs vs : List ℕ) (k : ℕ) → length rs ≤ k → slice_get vs (k - length rs) ≡ slice_get (rs ++ vs) k
at_second rs vs k l =
    let place : length rs + (k - length rs) ≡ k = omega (arith, l) in
    sym (get_right rs vs (k - length rs)) ∙ ap (slice_get (rs ++ vs)) place

-- ---- operands by the controls

-- the text of an operand is that of the case that its demand is
pub demanded : (sets : List Masks) (d e : Demand) (old new : List ℕ) → d ≡ e → new ≡ old ++ demand_text sets (number_constraint_demanded e)
    → new ≡ old ++ demand_text sets (number_constraint_demanded d)
demanded sets d e old new is h = subst (λ x. new ≡ old ++ demand_text sets (number_constraint_demanded x)) (sym is) h

module _ (tables : TableContents) (well : IsWellFormedOpcodes tables) where
  -- an operand's type is a type
  pub concrete_typed : (n : ℕ) → Contains tables.operand_constraints (ConcreteNumber n) → IsTypeNumber n
  concrete_typed n c = All-contains (IsWellFormedConstraint (length tables.type_sets)) tables.operand_constraints (ConcreteNumber n)
      well.parts.constraints c

  -- and its type set is one that there is
  free_within : (j : ℕ) → Contains tables.operand_constraints (FreeOf j) → j < length tables.type_sets
  free_within j c = All-contains (IsWellFormedConstraint (length tables.type_sets)) tables.operand_constraints (FreeOf j)
      well.parts.constraints c

  -- the numbers that fit a control with a type set are those of the set
  pub held_numbers : (j : ℕ) (numbers : List ℕ) → Contains tables.operand_constraints (FreeOf j) → AreOfControl tables j numbers
      → numbers ≡ numbers_held (slice_get tables.type_sets j)
  held_numbers j numbers c h =
      let within = free_within j c in
      let few = well.parts.few_type_sets in
      let differs : j ≡ no_type_set → ⊥ = λ e. omega (arith, within, few, e) in
      let (m, at) = get_there tables.type_sets j within in
      let own : (n : ℕ) → SetContains tables j n → ContainsNumber m n =
      λ n s. subst (λ k. ContainsNumber k n) (same_Some s.masks m (sym s.is_set ∙ at)) s.contains in
      let listed : AreListed IsLess (ContainsNumber m) numbers =
      listed_same IsLess (λ n. ControlNumberFits tables j (Some n)) (ContainsNumber m) numbers
      (λ n fits. let (k, is, s) = fits_some tables j (Some n) differs fits in
      subst (ContainsNumber m) (sym (same_Some n k is)) (own k s))
      (λ n held. some_fits tables j n differs (record { masks = m; is_set = at; contains = held })) h in
      one_listed IsLess rising_apart (ContainsNumber m) numbers (numbers_in (sets_in m)) listed (numbers_listed m)
      ∙ sym (ap numbers_held at)
