-- Formats in use are found by their marks, their names and their structures.
use Rattle.std.proofs.Common.{Ordering, ◌≡◌, ◌≢◌, ℕ, ◌<◌, ◌⊎◌, inl, inr, zero, suc, Bool, true, false, cond, MatchBool, List, [], ◌∷◌, ◌++◌}
use Rattle.std.proofs.Common.{length, replicate, set, slice_get, Option, Some, None, Bor, refl, sym, ap, ◌∙◌, subst, arith, length-set}
use Rattle.std.proofs.lemmas.List.{length-replicate}
use Rattle.std.proofs.lemmas.Option.{slice_get_within, same_Some}
use Rattle.std.specs.Ordering.{nat_cmp, is_eq}
use Rattle.std.specs.Cmp.Lexicographic.{slice_cmp}
use Rattle.std.specs.HashMap.{get}
use Rattle.std.specs.BTreeMap.{get as get_ordered}
use Rattle.std.proofs.lemmas.Map.Text.{is_eq-slice_cmp}
use Rattle.meta_lists.proofs.Pushed.{get_pushed, stays, last}
use Rattle.meta_operands.specs.Texts.{same_text}
use Rattle.meta_operands.specs.Structure.{structure_of, same_structure}
use Rattle.meta_operands.specs.Laws.{texts_Decides, structures_Decides}
use Rattle.meta_operands.specs.declared.format.InstructionFormat.{InstructionFormat}
use Rattle.meta_operands.specs.declared.structure.FormatStructure.{FormatStructure}
use Rattle.meta_build.specs.declared.formats.UsedFormat.{UsedFormat}
use Rattle.meta_build.specs.declared.formats_in_use.FormatsInUse.{FormatsInUse}
use Rattle.meta_build.specs.FormatsUsed.{IsAmong, IsNotAmong, IsOfTable, ClashIn, ClashesWithNone, IsFirstToClash}
use Rattle.meta_build.specs.FormatsIndexed.{AreMarked, IsPlaceOf, ArePlaces, HasName, HasStructure, AreIndexed, IsFirstOf}

-- ---- marks

copies : {X : Type 0} (n : ℕ) (x : X) (k : ℕ) (y : X) → slice_get (replicate n x) k ≡ Some y → x ≡ y
copies zero x k y e = absurd (cc)
copies (suc n) x zero y e = same_Some x y e
copies (suc n) x (suc k) y e = copies n x k y e

written : {X : Type 0} (xs : List X) (i : ℕ) (x : X) (k : ℕ) (y : X) → slice_get (set xs i x) k ≡ Some y
    → ((k ≡ i) × (x ≡ y)) ⊎ ((k ≢ i) × (slice_get xs k ≡ Some y))
written [] i x k y e = absurd (cc)
written (z ∷ xs) zero x zero y e = inl (refl, same_Some x y e)
written (z ∷ xs) zero x (suc k) y e = inr (λ h. absurd (omega (arith, h)), e)
written (z ∷ xs) (suc i) x zero y e = inr (λ h. absurd (omega (arith, h)), e)
written (z ∷ xs) (suc i) x (suc k) y e = elim (written xs i x k y e) [
  | inl h ↦ inl (ap suc h.0, h.1)
  | inr h ↦ inr (λ s. h.0 (omega (arith, s)), h.1)
]

pub none_marked : (formats : List InstructionFormat) (used : List UsedFormat) (marks : List Bool) → used ≡ []
    → marks ≡ replicate (length formats) false → AreMarked formats used marks
none_marked formats used marks none e = record {
  one_each = ap length e ∙ length-replicate (length formats) false;
  told = λ f mark at.
      let is = copies (length formats) false f mark (ap (λ xs. slice_get xs f) (sym e) ∙ at) in
      subst (λ (b : Bool). MatchBool b (IsAmong used f) (IsNotAmong used f)) is (λ k g there. let there' : slice_get [] k ≡ Some g =
      ap (λ xs. slice_get xs k) (sym none) ∙ there in absurd (cc));
}

pub one_marked : (formats : List InstructionFormat) (used more : List UsedFormat) (new : UsedFormat) (marks : List Bool) (i : ℕ)
    → more ≡ used ++ new ∷ [] → i ≡ new.id → AreMarked formats used marks → AreMarked formats more (set marks i true)
one_marked formats used more new marks i pushed own m = record {
  one_each = length-set marks i true ∙ m.one_each;
  told = λ f mark at. elim (written marks i true f mark at) [
    | inl h ↦ subst (λ (b : Bool). MatchBool b (IsAmong more f) (IsNotAmong more f)) h.1
        (record { place = length used; format = new; at = last used more new pushed (length used) refl; is = sym own ∙ sym h.0 })
    | inr h ↦ before f mark h.0 (m.told f mark h.1)
  ];
}
  where
    before : (f : ℕ) (mark : Bool) → f ≢ i → MatchBool mark (IsAmong used f) (IsNotAmong used f)
        → MatchBool mark (IsAmong more f) (IsNotAmong more f)
    before f true other among = record {
      place = among.place;
      format = among.format;
      at = stays used more new pushed among.place among.format among.at;
      is = among.is;
    }
    before f false other none = λ k g there same. elim (get_pushed used new k g (ap (λ xs. slice_get xs k) (sym pushed) ∙ there)) [
      | inl h ↦ none k g h same
      | inr h ↦ other (sym same ∙ ap (λ (u : UsedFormat). u.id) (sym h.1) ∙ sym own)
    ]

-- ---- places

pub no_places : {K : Type 0} (has : UsedFormat → K → Type 0) (used : List UsedFormat) (look_up : K → Option ℕ) → used ≡ []
    → ((key : K) → look_up key ≡ None) → ArePlaces has used look_up
no_places has used look_up none nothing = record {
  sound = λ key place e. let f = nothing key in absurd (cc);
  complete = λ key place h. let there : slice_get [] place ≡ Some h.format = ap (λ xs. slice_get xs place) (sym none) ∙ h.at in absurd (cc);
}

-- a key that no format has isn't found
pub not_found : {K : Type 0} (has : UsedFormat → K → Type 0) (used : List UsedFormat) (look_up : K → Option ℕ) (key : K)
    → ArePlaces has used look_up → ((place : ℕ) → IsPlaceOf has used key place → ⊥) → look_up key ≡ None
not_found has used look_up key places none = by (look_up key) refl
  where
    by : (found : Option ℕ) → look_up key ≡ found → found ≡ None
    by None e = refl
    by (Some place) e = absurd (none place (places.sound key place e))

-- a look-up that gained the key of one format more
module _ {K : Type 0} (has : UsedFormat → K → Type 0)
    (same : K → K → Bool) (used more : List UsedFormat) (new : UsedFormat) (pushed : more ≡ used ++ new ∷ []) (key : K)
    (own : (q : K) → same key q ≡ true → has new q) (only : (q : K) → has new q → same key q ≡ true) (back : (g : UsedFormat) (q : K)
    → has g q → same key q ≡ true → has g key)
    (n : ℕ) (len : n ≡ length used) (look_up look_up' : K → Option ℕ) (places : ArePlaces has used look_up) (absent : look_up key ≡ None)
    (gains : (q : K) → look_up' q ≡ cond (same key q) (Some n) (look_up q)) where
  answer : (q : K) (b : Bool) → same key q ≡ b → look_up' q ≡ cond b (Some n) (look_up q)
  answer q b h = gains q ∙ ap (λ c. cond c (Some n) (look_up q)) h

  sound_more : (q : K) (place : ℕ) → look_up' q ≡ Some place → IsPlaceOf has more q place
  sound_more q place e = by (same key q) refl
    where
      by : (b : Bool) → same key q ≡ b → IsPlaceOf has more q place
      by true h =
          let at : n ≡ place = same_Some n place (sym (answer q true h) ∙ e) in
          record { format = new; at = last used more new pushed place (sym at ∙ len); is = own q h }
      by false h =
          let old = places.sound q place (sym (answer q false h) ∙ e) in
          record { format = old.format; at = stays used more new pushed place old.format old.at; is = old.is }

  complete_more : (q : K) (place : ℕ) → IsPlaceOf has more q place → look_up' q ≡ Some place
  complete_more q place h = elim (get_pushed used new place h.format (ap (λ xs. slice_get xs place) (sym pushed) ∙ h.at)) [
    | inl at ↦ by (same key q) refl at
    | inr at ↦ answer q true (only q (subst (λ (g : UsedFormat). has g q) (sym at.1) h.is)) ∙ ap Some (len ∙ sym at.0)
  ]
    where
      by : (b : Bool) → same key q ≡ b → slice_get used place ≡ Some h.format → look_up' q ≡ Some place
      by true e at = let f = places.complete key place (record { format = h.format; at = at; is = back h.format q h.is e }) in absurd (cc)
      by false e at = answer q false e ∙ places.complete q place (record { format = h.format; at = at; is = h.is })

  places_more : ArePlaces has more look_up'
  places_more = record { sound = sound_more; complete = complete_more }

abbrev same_name : Bor (List ℕ) → Bor (List ℕ) → Bool
same_name a b = same_text a.now b.now

-- names are ordered by their bytes
abbrev pub name_order : Bor (List ℕ) → Bor (List ℕ) → Ordering
name_order a b = slice_cmp nat_cmp a.now b.now

pub one_named : (formats : List InstructionFormat) (used more : List UsedFormat) (new : UsedFormat) (x : InstructionFormat)
    (key : Bor (List ℕ)) (n : ℕ) (look_up look_up' : Bor (List ℕ) → Option ℕ) → more ≡ used ++ new ∷ [] → slice_get formats new.id ≡ Some x
    → key.now ≡ x.name → n ≡ length used → look_up key ≡ None
    → ((q : Bor (List ℕ)) → look_up' q ≡ cond (is_eq (name_order key q)) (Some n) (look_up q)) → ArePlaces (HasName formats) used look_up
    → ArePlaces (HasName formats) more look_up'
one_named formats used more new x key n look_up look_up' pushed at is len absent gains places =
    places_more (HasName formats) same_name used more new pushed key
    (λ q h. record { format = x; at = at; is = sym is ∙ (texts_Decides key.now q.now).0 h })
    (λ q h. (texts_Decides key.now q.now).1 (is ∙ ap (λ (f : InstructionFormat). f.name) (same_Some x h.format (sym at ∙ h.at)) ∙ h.is))
    (λ g q h e. record { format = h.format; at = h.at; is = h.is ∙ sym ((texts_Decides key.now q.now).0 e) })
    n len look_up look_up' places absent (λ q. gains q ∙ ap (λ b. cond b (Some n) (look_up q)) (is_eq-slice_cmp key.now q.now))

pub one_structured : (used more : List UsedFormat) (new : UsedFormat) (key : FormatStructure) (n : ℕ)
    (look_up look_up' : FormatStructure → Option ℕ) → more ≡ used ++ new ∷ [] → new.structure ≡ key → n ≡ length used → look_up key ≡ None
    → ((q : FormatStructure) → look_up' q ≡ cond (same_structure key q) (Some n) (look_up q)) → ArePlaces HasStructure used look_up
    → ArePlaces HasStructure more look_up'
one_structured used more new key n look_up look_up' pushed is len absent gains places =
    places_more HasStructure same_structure used more new pushed key
    (λ q h. is ∙ (structures_Decides key q).0 h)
    (λ q h. (structures_Decides key q).1 (sym is ∙ h))
    (λ g q h e. h ∙ sym ((structures_Decides key q).0 e))
    n len look_up look_up' places absent gains

-- ---- the formats that share a name or a structure with a format of the table

module _ (f : FormatsInUse) (i : AreIndexed f) (new : UsedFormat) (t : IsOfTable f.formats.now new) (name : Bor (List ℕ)) (named : name.now
    ≡ t.format.name) where
  clash_by_name : (place : ℕ) (h : IsPlaceOf (HasName f.formats.now) f.used.items name place) → ClashIn f.formats.now new.id h.format.id
  clash_by_name place h = record {
    one = t.format;
    other = h.is.format;
    is_one = t.at;
    is_other = h.is.at;
    shares = inl (sym named ∙ sym h.is.is);
  }

  clash_by_structure : (place : ℕ) (h : IsPlaceOf HasStructure f.used.items new.structure place) → ClashIn f.formats.now new.id h.format.id
  clash_by_structure place h =
      let o = i.of_table place h.format h.at in
      record { one = t.format; other = o.format; is_one = t.at; is_other = o.at; shares = inr (sym t.structure ∙ sym h.is ∙ o.structure) }

  -- what clashes shares one of the two
  shared : (place : ℕ) (g : UsedFormat) → slice_get f.used.items place ≡ Some g → ClashIn f.formats.now new.id g.id
      → IsPlaceOf (HasName f.formats.now) f.used.items name place ⊎ IsPlaceOf HasStructure f.used.items new.structure place
  shared place g at c = elim c.shares [
    | inl e ↦ inl (record {
      format = g;
      at = at;
      is = record { format = c.other; at = c.is_other; is = sym e ∙ ap (λ (x : InstructionFormat). x.name) own ∙ sym named };
    })
    | inr e ↦ inr (record {
      format = g;
      at = at;
      is = o.structure ∙ ap structure_of (same_Some o.format c.other (sym o.at ∙ c.is_other))
          ∙ sym e ∙ ap structure_of own ∙ sym t.structure;
    })
  ]
    where
      own : c.one ≡ t.format
      own = same_Some c.one t.format (sym c.is_one ∙ t.at)

      o : IsOfTable f.formats.now g
      o = i.of_table place g at

  -- one that clashes with none has a name and a structure of its own
  pub new_name : ClashesWithNone f.formats.now f.used.items new.id → get_ordered name_order f.by_name name ≡ None
  new_name none = not_found (HasName f.formats.now) f.used.items (get_ordered name_order f.by_name) name i.named
      (λ place h. none place h.format h.at (clash_by_name place h))

  pub new_structure : ClashesWithNone f.formats.now f.used.items new.id → get same_structure f.by_structure new.structure ≡ None
  new_structure none = not_found HasStructure f.used.items (get same_structure f.by_structure) new.structure i.structured
      (λ place h. none place h.format h.at (clash_by_structure place h))

  module _ (one other : Option ℕ) (one_is : one ≡ get_ordered name_order f.by_name name) (other_is : other
      ≡ get same_structure f.by_structure new.structure) where
    pub none_clashes : (one ≡ None) × (other ≡ None) → ClashesWithNone f.formats.now f.used.items new.id
    none_clashes none k g at c = elim (shared k g at c) [
      | inl h ↦ let e = i.named.complete name k h in let a = none.0 in absurd (cc)
      | inr h ↦ let e = i.structured.complete new.structure k h in let a = none.1 in absurd (cc)
    ]

    -- a format stands at the first of the places
    pub first_within : (place : ℕ) → IsFirstOf one other place → place < length f.used.items
    first_within place first = elim first.is [
      | inl e ↦ let h = i.named.sound name place (sym one_is ∙ e) in slice_get_within f.used.items place h.format h.at
      | inr e ↦ let h = i.structured.sound new.structure place (sym other_is ∙ e) in slice_get_within f.used.items place h.format h.at
    ]

    -- and it is the first that clashes
    pub first_clashes : (place : ℕ) → IsFirstOf one other place → (g : UsedFormat) → slice_get f.used.items place ≡ Some g
        → IsFirstToClash f.formats.now f.used.items new.id g.id
    first_clashes place first g at = record {
      place = place;
      format = g;
      at = at;
      is = refl;
      clashes = elim first.is [
        | inl e ↦ let h = i.named.sound name place (sym one_is ∙ e)
            in subst (λ (u : UsedFormat). ClashIn f.formats.now new.id u.id) (same_Some h.format g (sym h.at ∙ at)) (clash_by_name place h)
        | inr e ↦ let h = i.structured.sound new.structure place (sym other_is ∙ e)
            in subst (λ (u : UsedFormat). ClashIn f.formats.now new.id u.id) (same_Some h.format g (sym h.at ∙ at))
            (clash_by_structure place h)
      ];
      first = λ k u before at_u c. elim (shared k u at_u c) [
        | inl h ↦ let not_after = first.not_after_one k (one_is ∙ i.named.complete name k h) in absurd (omega arith)
        | inr h ↦ let not_after = first.not_after_other k (other_is ∙ i.structured.complete new.structure k h) in absurd (omega arith)
      ];
    }
