-- The items that open groups, and the groups that they open.
use Rattle.std.proofs.Common.{◌≡◌, ◌≤◌, ℕ, zero, suc, ◌+◌, Bool, true, false, cond, List, [], ◌∷◌, ◌++◌, Option, Some, None, take, drop}
use Rattle.std.proofs.Common.{slice_get, refl, sym, ap, ◌∙◌, subst, arith}
use Rattle.std.specs.Prelude.{not, if◌then◌else◌}
use Rattle.std.specs.List.{count_by, position_or_len}
use Rattle.std.specs.Option.{option_or}
use Rattle.std.proofs.lemmas.List.Sums.{sum_by-cons, sum_by-append}
use Rattle.meta_file_syntax.specs.declared.name.Name.{Name}
use Rattle.meta_file_syntax.specs.declared.items.Item.{Item}
use Rattle.meta_file_syntax.specs.declared.items.Item.TheVariants as item
use Rattle.meta_settings.specs.GroupDeclaration.{GroupDeclaration}
use Rattle.meta_file_declare.specs.Places.{is_group, places_from, place_of_group, before_group}
use Rattle.meta_file_declare.specs.Wrong.{last_entries}
use Rattle.meta_file_declare.specs.Said.{group_with, groups_of}
use Rattle.meta_file_declare.proofs.Growing.{no_group_more}

pub group_named : (i : Item) → is_group i ≡ true → (n : Name) × (i ≡ item.Group n)
group_named (item.Group n) e = (n, refl)
group_named (item.Type i) e = absurd (cc)
group_named (item.Alias i) e = absurd (cc)
group_named (item.Kind i) e = absurd (cc)
group_named (item.Format i) e = absurd (cc)
group_named (item.Inst i) e = absurd (cc)
group_named (item.Bool i) e = absurd (cc)
group_named (item.Num i) e = absurd (cc)
group_named (item.Enum i) e = absurd (cc)
group_named (item.Preset i) e = absurd (cc)

-- ---- the item that opens a group

-- where the first item stands at place s
record OpensFrom (s : ℕ) (items : List Item) (g : ℕ) (group : GroupDeclaration) : Type 0 where
  pub after : ℕ
  pub name : Name
  pub place : slice_get (places_from is_group s items) g ≡ Some (s + after)
  pub at : slice_get items after ≡ Some (item.Group name)
  pub is : group ≡ group_with name (before_group (drop (after + 1) items))

-- an item more in front
opens_later : (s : ℕ) (i : Item) (items : List Item) (g : ℕ) (group : GroupDeclaration) (h : OpensFrom (s + 1) items g group) (n : ℕ)
    → slice_get (places_from is_group s (i ∷ items)) n ≡ slice_get (places_from is_group (s + 1) items) g → OpensFrom s (i ∷ items) n group
opens_later s i items g group h n same =
    let next : (s + 1) + h.after ≡ s + suc h.after = omega arith in
    let one : suc h.after + 1 ≡ suc (h.after + 1) = omega arith in
    record {
      after = suc h.after;
      name = h.name;
      place = same ∙ h.place ∙ ap (λ (k : ℕ). Some k) next;
      at = h.at;
      is = h.is ∙ ap (λ (k : ℕ). group_with h.name (before_group (drop k (i ∷ items)))) (sym one);
    }

opens_first : (s : ℕ) (n : Name) (items : List Item) (group : GroupDeclaration) → group_with n (before_group items) ≡ group
    → OpensFrom s (item.Group n ∷ items) 0 group
opens_first s n items group e =
    let here : s ≡ s + 0 = omega arith in
    record { after = 0; name = n; place = ap (λ (k : ℕ). Some k) here; at = refl; is = sym e }

opens_step : (s : ℕ) (i : Item) (items : List Item) (group : GroupDeclaration) (b : Bool) (g : ℕ) → is_group i ≡ b
    → ((m : ℕ) → slice_get (groups_of items) m ≡ Some group → OpensFrom (s + 1) items m group)
    → slice_get (groups_of (i ∷ items)) g ≡ Some group → OpensFrom s (i ∷ items) g group
opens_step s i items group true g e rest h =
    let it = group_named i e in
    subst (λ (x : Item). OpensFrom s (x ∷ items) g group) (sym it.1)
    (named it.0 g (ap (λ (x : Item). slice_get (groups_of (x ∷ items)) g) (sym it.1) ∙ h))
  where
    named : (n : Name) (g : ℕ) → slice_get (groups_of (item.Group n ∷ items)) g ≡ Some group → OpensFrom s (item.Group n ∷ items) g group
    named n zero h = opens_first s n items group cc
    named n (suc m) h = opens_later s (item.Group n) items m group (rest m h) (suc m) refl
opens_step s i items group false g e rest h =
    opens_later s i items g group (rest g (ap (λ (gs : List GroupDeclaration). slice_get gs g) (sym (no_group_more i items e)) ∙ h)) g
    (ap (λ (b : Bool). slice_get (cond b (s ∷ places_from is_group (s + 1) items) (places_from is_group (s + 1) items)) g) e)

opens_from : (s : ℕ) (items : List Item) (g : ℕ) (group : GroupDeclaration) → slice_get (groups_of items) g ≡ Some group
    → OpensFrom s items g group
opens_from s [] g group h = absurd (cc)
opens_from s (i ∷ items) g group h = opens_step s i items group (is_group i) g refl (λ m k. opens_from (s + 1) items m group k) h

-- the group at place g is opened by an item
pub record IsOpened (items : List Item) (g : ℕ) (group : GroupDeclaration) : Type 0 where
  pub place : ℕ
  pub name : Name
  pub is_place : place_of_group items g ≡ Some place
  pub at : slice_get items place ≡ Some (item.Group name)
  pub is : group ≡ group_with name (before_group (drop (place + 1) items))

pub opened : (items : List Item) (g : ℕ) (group : GroupDeclaration) → slice_get (groups_of items) g ≡ Some group → IsOpened items g group
opened items g group h =
    let from = opens_from 0 items g group h in
    let same : 0 + from.after ≡ from.after = omega arith in
    record {
      place = from.after;
      name = from.name;
      is_place = from.place ∙ ap (λ (k : ℕ). Some k) same;
      at = from.at;
      is = from.is;
    }

-- ---- the entries after it

-- no group stands among these
abbrev pub HasNoGroup : List Item → Type 0
HasNoGroup items = (last_entries items ≡ None) × (count_by is_group items ≡ 0)

none_more : (i : Item) (items : List Item) → is_group i ≡ false → HasNoGroup items → HasNoGroup (i ∷ items)
none_more i items e h = (
  ap (λ (o : Option (List Item)). option_or o (if is_group i then Some items else None)) h.0
      ∙ ap (λ (b : Bool). if b then Some items else None) e,
  sum_by-cons (λ (x : Item). cond (is_group x) 1 0) i items ∙ ap (λ (b : Bool). cond b 1 0 + count_by is_group items) e
      ∙ ap (λ (n : ℕ). 0 + n) h.1,
)

none_step : (i : Item) (items : List Item) (j : ℕ) (b : Bool) → is_group i ≡ b
    → (j ≤ position_or_len is_group items → HasNoGroup (take j items)) → suc j ≤ cond (not b) (1 + position_or_len is_group items) 0
    → HasNoGroup (i ∷ take j items)
none_step i items j true e rest l = absurd (omega (arith, l))
none_step i items j false e rest l = none_more i (take j items) e (rest (omega (arith, l)))

-- none stands among the items before the first one
pub none_before : (items : List Item) (j : ℕ) → j ≤ position_or_len is_group items → HasNoGroup (take j items)
none_before items zero l = (refl, refl)
none_before [] (suc j) l = (refl, refl)
none_before (i ∷ items) (suc j) l = none_step i items j (is_group i) refl (λ m. none_before items j m) l

-- the entries of the last group
pub last_after : (above : List Item) (i : Item) (entries : List Item) → is_group i ≡ true → last_entries entries ≡ None
    → last_entries (above ++ i ∷ entries) ≡ Some entries
last_after [] i entries e none =
    ap (λ (o : Option (List Item)). option_or o (if is_group i then Some entries else None)) none
    ∙ ap (λ (b : Bool). if b then Some entries else None) e
last_after (x ∷ above) i entries e none =
    ap (λ (o : Option (List Item)). option_or o (if is_group x then Some (above ++ i ∷ entries) else None))
    (last_after above i entries e none)

-- how many groups there are then
pub count_after : (above : List Item) (i : Item) (entries : List Item) → is_group i ≡ true → count_by is_group entries ≡ 0
    → count_by is_group (above ++ i ∷ entries) ≡ count_by is_group above + 1
count_after above i entries e none =
    let one : count_by is_group (i ∷ entries) ≡ 1 =
    sum_by-cons (λ (x : Item). cond (is_group x) 1 0) i entries ∙ ap (λ (b : Bool). cond b 1 0 + count_by is_group entries) e
    ∙ ap (λ (n : ℕ). 1 + n) none in
    sum_by-append (λ (x : Item). cond (is_group x) 1 0) above (i ∷ entries) ∙ ap (λ (n : ℕ). count_by is_group above + n) one
