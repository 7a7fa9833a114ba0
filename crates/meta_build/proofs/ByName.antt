-- Formats that are put into a map by their names.
use Rattle.std.proofs.Common.{◌≡◌, ◌<◌, ◌≤◌, ◌+◌, ◌⊎◌, inl, inr, ℕ, zero, suc, List, [], ◌∷◌, length, get_or, slice_get, Some, option_map}
use Rattle.std.proofs.Common.{Bor, refl, sym, ap, ◌∙◌, subst, arith}
use Rattle.std.specs.Ordering.{match_ordering, is_eq, nat_cmp}
use Rattle.std.specs.declared.cmp.Ordering.{Ordering}
use Rattle.std.specs.declared.cmp.Ordering.TheVariants.{Less, Equal, Greater}
use Rattle.std.specs.Cmp.Lexicographic.{slice_cmp, bytes_decides}
use Rattle.std.specs.List.Sorted.{IsStrictlySortedBy}
use Rattle.std.specs.Map.{keys_of, values_of}
use Rattle.std.specs.BTreeMap.{insert_entry}
use Rattle.std.proofs.lemmas.Bool.{cases_lt}
use Rattle.std.proofs.lemmas.Option.{same_Some, slice_get-map, slice_get_within, get_or_from_slice_get}
use Rattle.std.proofs.lemmas.Map.Keys.{Less-from_sorted}
use Rattle.std.proofs.lemmas.Map.Text.{is_eq-slice_cmp}
use Rattle.meta_lists.proofs.Mapped.{get_mapped}
use Rattle.meta_operands.specs.declared.format.InstructionFormat.{InstructionFormat}
use Rattle.meta_inst.specs.InstructionSet.{InstructionSet}
use Rattle.meta_build.specs.declared.formats.UsedFormat.{UsedFormat}
use Rattle.meta_build.specs.FormatsUsed.{AreApart, AreUsedBefore}
use Rattle.meta_build.specs.FormatsByName.{AreByName, AreFormatsByName}

-- a name, and the format that has it
abbrev pub FormatEntry : Type 0
FormatEntry = Bor (List ℕ) × ℕ

-- names compare byte by byte
abbrev pub compare : Bor (List ℕ) → Bor (List ℕ) → Ordering
compare a b = slice_cmp nat_cmp a.now b.now

same_name : (a b : Bor (List ℕ)) → compare a b ≡ Equal → a.now ≡ b.now
same_name a b e = (bytes_decides a.now b.now).0 (sym (is_eq-slice_cmp a.now b.now) ∙ ap is_eq e)

-- the number of the entry is that of one of the first n formats, which has the name
pub record HoldsFormat (formats : List InstructionFormat) (used : List UsedFormat) (n : ℕ) (e : FormatEntry) : Type 0 where
  pub place : ℕ
  pub before : place < n
  pub format : UsedFormat
  pub at : slice_get used place ≡ Some format
  pub is : format.id ≡ e.1
  pub content : InstructionFormat
  pub there : slice_get formats e.1 ≡ Some content
  pub named : content.name ≡ e.0.now

-- P holds of each element
abbrev pub Each : {X : Type 0} → (X → Type 0) → List X → Type 0
Each P [] = Unit {0}
Each P (x ∷ xs) = P x × Each P xs

-- an entry has the number
abbrev pub Has : ℕ → List FormatEntry → Type 0
Has id [] = ⊥
Has id (e ∷ es) = (e.1 ≡ id) ⊎ Has id es

-- the entries are those of the first n formats
pub record AreOfFirst (formats : List InstructionFormat) (used : List UsedFormat) (n : ℕ) (es : List FormatEntry) : Type 0 where
  pub each : Each (HoldsFormat formats used n) es
  pub all : (k : ℕ) (g : UsedFormat) → k < n → slice_get used k ≡ Some g → Has g.id es
  pub ordered : IsStrictlySortedBy compare (keys_of es)

each_at : {X : Type 0} (P : X → Type 0) (xs : List X) (k : ℕ) (x : X) → Each P xs → slice_get xs k ≡ Some x → P x
each_at P [] k x h e = absurd (cc)
each_at P (y ∷ ys) zero x h e = subst P (same_Some y x e) h.0
each_at P (y ∷ ys) (suc k) x h e = each_at P ys k x h.1 e

-- the entry at a place of the numbers
entry_at : (es : List FormatEntry) (k id : ℕ) → slice_get (values_of es) k ≡ Some id
    → (e : FormatEntry) × (slice_get es k ≡ Some e) × (e.1 ≡ id)
entry_at es k id at = get_mapped (λ (e : FormatEntry). e.1) es k id at

has_place : (es : List FormatEntry) (id : ℕ) → Has id es → (k : ℕ) × (slice_get (values_of es) k ≡ Some id)
has_place [] id h = absurd h
has_place (e ∷ es) id (inl is) = (zero, ap Some is)
has_place (e ∷ es) id (inr h) = let (k, at) = has_place es id h in (suc k, at)

none_ordered : IsStrictlySortedBy compare []
unfolding IsStrictlySortedBy
none_ordered = tt

pub none_yet : (formats : List InstructionFormat) (used : List UsedFormat) → AreOfFirst formats used 0 []
none_yet formats used = record { each = tt; all = λ k g l at. absurd (omega arith); ordered = none_ordered }

module _ (formats : List InstructionFormat) (used : List UsedFormat) (apart : AreApart formats used) (n : ℕ)
    (new : UsedFormat) (at : slice_get used n ≡ Some new) (x : InstructionFormat)
    (there : slice_get formats new.id ≡ Some x) (key : Bor (List ℕ)) (named : key.now ≡ x.name) where
  later : (e : FormatEntry) → HoldsFormat formats used n e → HoldsFormat formats used (n + 1) e
  later e h =
      let before = h.before in
      record {
        place = h.place;
        before = omega arith;
        format = h.format;
        at = h.at;
        is = h.is;
        content = h.content;
        there = h.there;
        named = h.named;
      }

  all_later : (es : List FormatEntry) → Each (HoldsFormat formats used n) es → Each (HoldsFormat formats used (n + 1)) es
  all_later [] h = tt
  all_later (e ∷ es) h = (later e h.0, all_later es h.1)

  own : HoldsFormat formats used (n + 1) (key, new.id)
  own = record { place = n; before = omega arith; format = new; at = at; is = refl; content = x; there = there; named = sym named }

  -- no entry has the new format's name
  no_equal : (e : FormatEntry) → HoldsFormat formats used n e → compare key e.0 ≡ Equal → ⊥
  no_equal e h same =
      let one : x.name ≡ h.content.name = sym named ∙ same_name key e.0 same ∙ sym h.named in
      apart h.place n h.format new h.before h.at at (record {
        one = x;
        other = h.content;
        is_one = there;
        is_other = ap (slice_get formats) h.is ∙ h.there;
        shares = inl one;
      })

  each_more : (es : List FormatEntry) → Each (HoldsFormat formats used n) es
      → Each (HoldsFormat formats used (n + 1)) (insert_entry compare es key new.id)
  each_more [] h = (own, tt)
  each_more (e ∷ es) h = by (compare key e.0) refl (each_more es h.1)
    where
      by : (r : Ordering) → compare key e.0 ≡ r
          → Each (HoldsFormat formats used (n + 1)) (insert_entry compare es key new.id)
          → Each (HoldsFormat formats used (n + 1)) (match_ordering r ((key, new.id) ∷ e ∷ es) ((e.0, new.id) ∷ es)
          (e ∷ insert_entry compare es key new.id))
      by Less p rest = (own, (later e h.0, all_later es h.1))
      by Equal p rest = absurd (no_equal e h.0 p)
      by Greater p rest = (later e h.0, rest)

  has_more : (es : List FormatEntry) → Each (HoldsFormat formats used n) es → (id : ℕ) → Has id es
      → Has id (insert_entry compare es key new.id)
  has_more [] h id has = absurd has
  has_more (e ∷ es) h id has = by (compare key e.0) refl (λ rest. has_more es h.1 id rest) has
    where
      by : (r : Ordering) → compare key e.0 ≡ r → (Has id es → Has id (insert_entry compare es key new.id))
          → Has id (e ∷ es) → Has id (match_ordering r ((key, new.id) ∷ e ∷ es) ((e.0, new.id) ∷ es)
          (e ∷ insert_entry compare es key new.id))
      by Less p more has = inr has
      by Equal p more has = absurd (no_equal e h.0 p)
      by Greater p more (inl is) = inl is
      by Greater p more (inr rest) = inr (more rest)

  has_new : (es : List FormatEntry) → Each (HoldsFormat formats used n) es → Has new.id (insert_entry compare es key new.id)
  has_new [] h = inl refl
  has_new (e ∷ es) h = by (compare key e.0) refl (has_new es h.1)
    where
      by : (r : Ordering) → compare key e.0 ≡ r → Has new.id (insert_entry compare es key new.id)
          → Has new.id (match_ordering r ((key, new.id) ∷ e ∷ es) ((e.0, new.id) ∷ es) (e ∷ insert_entry compare es key new.id))
      by Less p more = inl refl
      by Equal p more = absurd (no_equal e h.0 p)
      by Greater p more = inr more

  -- one format more
  pub one_more : (es more : List FormatEntry) → AreOfFirst formats used n es → more ≡ insert_entry compare es key new.id
      → IsStrictlySortedBy compare (keys_of more) → AreOfFirst formats used (n + 1) more
  one_more es more h e ordered = record {
    each = subst (Each (HoldsFormat formats used (n + 1))) (sym e) (each_more es h.each);
    all = λ k g l at_g. subst (Has g.id) (sym e) (have k g at_g (cases_lt k n) l);
    ordered = ordered;
  }
    where
      have : (k : ℕ) (g : UsedFormat) → slice_get used k ≡ Some g → (k < n) ⊎ (n ≤ k) → k < n + 1
          → Has g.id (insert_entry compare es key new.id)
      have k g at_g (inl below) l = has_more es h.each g.id (h.all k g below at_g)
      have k g at_g (inr past) l =
          let here : k ≡ n = omega (arith, past, l) in
          let same : new ≡ g = same_Some new g (sym at ∙ ap (slice_get used) (sym here) ∙ at_g) in
          subst (λ (f : UsedFormat). Has f.id (insert_entry compare es key new.id)) same (has_new es h.each)

-- the numbers of all formats stand by the names
pub by_names : (formats : List InstructionFormat) (used : List UsedFormat) (n : ℕ) (es : List FormatEntry) (ids : List ℕ)
    → length used ≤ n → AreOfFirst formats used n es → ids ≡ values_of es → AreByName formats used ids
by_names formats used n es ids past h e = subst (AreByName formats used) (sym e) (record {
  among = λ k f at. let (x, at_x, is) = entry_at es k f at in
      let o = each_at (HoldsFormat formats used n) es k x h.each at_x
      in record { place = o.place; format = o.format; at = o.at; is = o.is ∙ is };
  all = λ k g at. has_place es g.id (h.all k g (let l = slice_get_within used k g at in omega (arith, l, past)) at);
  sorted = λ j k f g l at_j at_k a b at_a at_b.
      let (x, at_x, is_x) = entry_at es j f at_j in
      let (y, at_y, is_y) = entry_at es k g at_k in
      let ox = each_at (HoldsFormat formats used n) es j x h.each at_x in
      let oy = each_at (HoldsFormat formats used n) es k y h.each at_y in
      let less = in_order j k x y l at_x at_y in
      let one : a.name ≡ x.0.now = ap (λ (c : InstructionFormat). c.name)
      (same_Some a ox.content (sym at_a ∙ ap (slice_get formats) (sym is_x) ∙ ox.there)) ∙ ox.named in
      let other : b.name ≡ y.0.now = ap (λ (c : InstructionFormat). c.name)
      (same_Some b oy.content (sym at_b ∙ ap (slice_get formats) (sym is_y) ∙ oy.there)) ∙ oy.named in
      let names : slice_cmp nat_cmp a.name b.name ≡ slice_cmp nat_cmp x.0.now y.0.now = λ i. slice_cmp nat_cmp (one i) (other i) in
      names ∙ less;
})
  where
    key_at : (k : ℕ) (x : FormatEntry) → slice_get es k ≡ Some x → slice_get (keys_of es) k ≡ Some x.0
    key_at k x at = slice_get-map (λ (e : FormatEntry). e.0) es k ∙ ap (option_map (λ (e : FormatEntry). e.0)) at

    in_order : (j k : ℕ) (x y : FormatEntry) → j < k → slice_get es j ≡ Some x → slice_get es k ≡ Some y → compare x.0 y.0 ≡ Less
    in_order j k x y l at_x at_y =
        let one = get_or_from_slice_get (keys_of es) j x.0 x.0 (key_at j x at_x) in
        let other = get_or_from_slice_get (keys_of es) k y.0 x.0 (key_at k y at_y) in
        let inside = slice_get_within (keys_of es) k y.0 (key_at k y at_y) in
        let keys : compare (get_or (keys_of es) j x.0) (get_or (keys_of es) k x.0) ≡ compare x.0 y.0 = λ i. compare (one i) (other i) in
        sym keys ∙ Less-from_sorted compare (keys_of es) j k x.0 h.ordered l inside

-- the formats that are used in declarations
pub all_by_name : (d : InstructionSet) (used : List UsedFormat) (ids : List ℕ)
    → AreUsedBefore d (length d.instructions) used → AreByName d.formats used ids → AreFormatsByName d ids
all_by_name d used ids before h = record {
  in_use = λ k f at.
      let among = h.among k f at in
      let u = before.uses among.place among.format among.at in
      record { place = u.place; user = u.first_use.user; at = u.first_use.at; uses = u.first_use.uses ∙ among.is };
  all = λ k b at.
      let among = before.all k b (slice_get_within d.instructions k b at) at in
      subst (λ (f : ℕ). (j : ℕ) × (slice_get ids j ≡ Some f)) among.is (h.all among.place among.format among.at);
  sorted = h.sorted;
}
