-- The formats in use, in the order of their first uses, and the faults that they show.
use Rattle.std.proofs.Common.{◌≡◌, ℕ, ◌+◌, ◌<◌, ◌≤◌, ◌⊎◌, List, [], ◌∷◌, ◌++◌, length, ap, ◌∙◌, sym, refl, subst, arith, ⊎_elim}
use Rattle.std.specs.Prelude.{Some}
use Rattle.std.specs.List.{slice_get}
use Rattle.std.proofs.lemmas.Bool.{cases_lt}
use Rattle.std.proofs.lemmas.Option.{slice_get_within, same_Some}
use Rattle.meta_lists.proofs.Pushed.{get_end, get_before, get_pushed}
use Rattle.meta_types.specs.Name.{IsName}
use Rattle.meta_typevar.specs.declared.content.TypeVarContent.{TypeVarContent}
use Rattle.meta_operands.specs.declared.format.InstructionFormat.{InstructionFormat}
use Rattle.meta_inst.specs.Builder.{Builder}
use Rattle.meta_inst.specs.InstructionSet.{InstructionSet}
use Rattle.meta_inst.specs.Faults.{IsAt, IsFirstUse, HasBadFormatName, HasTooManyBlocks, AreClashing, IsFirstClash, FormatNameRule}
use Rattle.meta_inst.specs.Faults.{BlocksRule, ClashRule, OfFormat}
use Rattle.meta_build.specs.declared.formats.UsedFormat.{UsedFormat}
use Rattle.meta_build.specs.Searched.{IsCleanBefore}
use Rattle.meta_build.specs.FormatsUsed.{AreUsedBefore, AreApart, IsAmong, IsNotAmong, IsOfTable, AreOfTable, ClashIn, ClashesWithNone}
use Rattle.meta_build.specs.FormatsUsed.{IsFirstToClash}
use Rattle.meta_build.proofs.OneFault.{searchable}
use Rattle.meta_types.proofs.FirstFault.{passed, next_place}

-- what is declared
abbrev pub declared : List TypeVarContent → List InstructionFormat → List Builder → InstructionSet
declared vars formats instructions = record { vars = vars; formats = formats; instructions = instructions }

-- ---- first uses

one_format : (d : InstructionSet) (k : ℕ) (a b : Builder) → IsAt d k a → IsAt d k b → a.format ≡ b.format
one_format d k a b p q = ap (λ (x : Builder). x.format) (same_Some a b (sym p ∙ q))

format_at : (d : InstructionSet) (f k : ℕ) (b : Builder) → IsFirstUse d f k → IsAt d k b → f ≡ b.format
format_at d f k b u at = sym u.uses ∙ one_format d k u.user b u.at at

-- a format has no second first use
not_earlier : (d : InstructionSet) (f p q : ℕ) → IsFirstUse d f p → IsFirstUse d f q → p < q → ⊥
not_earlier d f p q u v l = v.first p u.user l u.at u.uses

one_first_use : (d : InstructionSet) (f p q : ℕ) → IsFirstUse d f p → IsFirstUse d f q → p ≡ q
one_first_use d f p q u v =
    ⊎_elim (λ (l : p < q). absurd (not_earlier d f p q u v l))
    (λ (m : q ≤ p). ⊎_elim (λ (l : q < p). absurd (not_earlier d f q p v u l)) (λ (n : p ≤ q). omega arith) (cases_lt q p))
    (cases_lt p q)

-- formats that clash, by the table and by the declarations
clash_in : (d : InstructionSet) (f g : ℕ) → AreClashing d f g → ClashIn d.formats f g
clash_in d f g c = record { one = c.0; other = c.1; is_one = c.2; is_other = c.3; shares = c.4 }

are_clashing : (d : InstructionSet) (f g : ℕ) → ClashIn d.formats f g → AreClashing d f g
are_clashing d f g c = (c.one, c.other, c.is_one, c.is_other, c.shares)

module _ (d : InstructionSet) (k : ℕ) (b : Builder) (used : List UsedFormat) (before : AreUsedBefore d k used) (at : IsAt d k b) where
  -- a format that isn't among those used before is first used here
  pub first_here : IsNotAmong used b.format → IsFirstUse d b.format k
  first_here new = record {
    user = b;
    at = at;
    uses = refl;
    first = λ i other l is same. let among = before.all i other l is in new among.place among.format among.at (among.is ∙ same);
  }

  -- and one that is among them isn't
  not_here : (f : ℕ) → IsAmong used b.format → IsFirstUse d f k → ⊥
  not_here f among u =
      let e = format_at d f k b u at in
      let earlier = before.uses among.place among.format among.at in
      u.first earlier.place earlier.first_use.user earlier.before earlier.first_use.at (earlier.first_use.uses ∙ among.is ∙ sym e)

  -- the format of the instruction was used before
  pub used_again : IsAmong used b.format → AreUsedBefore d (k + 1) used
  used_again among = record {
    uses = λ j f is. let u = before.uses j f is in record { place = u.place; before = omega (arith, u.before); first_use = u.first_use };
    all = λ i other l is.
        ⊎_elim (λ (m : i < k). before.all i other m is)
        (λ (m : k ≤ i).
        let s : i ≡ k = omega arith in
        let e = one_format d k b other at (ap (slice_get d.instructions) (sym s) ∙ is) in
        record { place = among.place; format = among.format; at = among.at; is = among.is ∙ e })
        (cases_lt i k);
    in_order = before.in_order;
  }

  pub clean_again : IsCleanBefore d (OfFormat k FormatNameRule) → IsAmong used b.format → IsCleanBefore d (OfFormat (k + 1) FormatNameRule)
  clean_again clean among =
      let named = passed (searchable d) (OfFormat k FormatNameRule) clean (λ e s. not_here s.format among s.first_use) in
      let few = passed (searchable d) (OfFormat k BlocksRule) named (λ e s. not_here s.format among s.first_use) in
      next_place (searchable d) 2 k (passed (searchable d) (OfFormat k ClashRule) few (λ e s. not_here s.format among s.first_use))

  -- the format of the instruction is first used here
  pub used_new : (new : UsedFormat) → new.id ≡ b.format → IsNotAmong used b.format → AreUsedBefore d (k + 1) (used ++ new ∷ [])
  used_new new own not_among = record {
    uses = λ j f is.
        ⊎_elim (λ (e : slice_get used j ≡ Some f). let u = before.uses j f e
        in record { place = u.place; before = omega (arith, u.before); first_use = u.first_use })
        (λ (e : (j ≡ length used) × (new ≡ f)). record {
          place = k;
          before = omega arith;
          first_use = subst (λ (z : UsedFormat). IsFirstUse d z.id k) e.1 here;
        })
        (get_pushed used new j f is);
    all = λ i other l is.
        ⊎_elim (λ (m : i < k).
        let among = before.all i other m is in
        record {
          place = among.place;
          format = among.format;
          at = get_before used new among.place (slice_get_within used among.place among.format among.at) ∙ among.at;
          is = among.is;
        })
        (λ (m : k ≤ i).
        let s : i ≡ k = omega arith in
        record {
          place = length used;
          format = new;
          at = get_end used new;
          is = own
              ∙ one_format d k b other at (ap (slice_get d.instructions) (sym s) ∙ is);
        })
        (cases_lt i k);
    in_order = λ i j f g p q l is_f is_g u v.
        ⊎_elim (λ (e : slice_get used i ≡ Some f).
        ⊎_elim (λ (h : slice_get used j ≡ Some g). before.in_order i j f g p q l e h u v)
        (λ (h : (j ≡ length used) × (new ≡ g)).
        let earlier = before.uses i f e in
        let one = one_first_use d f.id earlier.place p earlier.first_use u in
        let other = one_first_use d g.id k q (subst (λ (z : UsedFormat). IsFirstUse d z.id k) h.1 here) v in
        let m = earlier.before in
        omega arith)
        (get_pushed used new j g is_g))
        (λ (e : (i ≡ length used) × (new ≡ f)).
        ⊎_elim (λ (h : slice_get used j ≡ Some g). let within = slice_get_within used j g h in let s = e.0 in absurd (omega arith))
        (λ (h : (j ≡ length used) × (new ≡ g)). let s = e.0 in let t = h.0 in absurd (omega arith))
        (get_pushed used new j g is_g))
        (get_pushed used new i f is_f);
  }
    where
      here : IsFirstUse d new.id k
      here = subst (λ (z : ℕ). IsFirstUse d z k) (sym own) (first_here not_among)

  -- ---- its rules, one after another

  pub good_name : IsCleanBefore d (OfFormat k FormatNameRule) → (HasBadFormatName d b.format → ⊥) → IsCleanBefore d (OfFormat k BlocksRule)
  good_name clean good = passed (searchable d) (OfFormat k FormatNameRule) clean
      (λ e s. good (subst (HasBadFormatName d) (format_at d s.format k b s.first_use at) s.breaks.1))

  pub few_blocks : IsCleanBefore d (OfFormat k BlocksRule) → (HasTooManyBlocks d b.format → ⊥) → IsCleanBefore d (OfFormat k ClashRule)
  few_blocks clean few = passed (searchable d) (OfFormat k BlocksRule) clean
      (λ e s. few (subst (HasTooManyBlocks d) (format_at d s.format k b s.first_use at) s.breaks.1))

  -- it clashes with one that is used before
  clash_here : ClashesWithNone d.formats used b.format → (f g : ℕ) → IsFirstUse d f k → IsFirstClash d f k g → ⊥
  clash_here none f g u c =
      let among = before.all c.place c.first_use.user c.earlier c.first_use.at in
      let e = format_at d f k b u at in
      let same = sym (among.is ∙ c.first_use.uses) in
      none among.place among.format among.at (subst (ClashIn d.formats b.format) same
      (subst (λ (z : ℕ). ClashIn d.formats z g) e (clash_in d f g c.clashes)))

  pub no_clash : IsCleanBefore d (OfFormat k ClashRule) → ClashesWithNone d.formats used b.format
      → IsCleanBefore d (OfFormat (k + 1) FormatNameRule)
  no_clash clean none = next_place (searchable d) 2 k
      (passed (searchable d) (OfFormat k ClashRule) clean (λ e s. clash_here none s.format s.breaks.0 s.first_use s.breaks.2))

  -- the formats that are first used before the first that clashes don't clash
  none_before : (g : ℕ) (c : IsFirstToClash d.formats used b.format g) (i h : ℕ) → i < (before.uses c.place c.format c.at).place
      → IsFirstUse d h i → AreClashing d b.format h → ⊥
  none_before g c i h l u clashes =
      let user = before.uses c.place c.format c.at in
      let m = user.before in
      let among = before.all i u.user (omega arith) u.at in
      let own : h ≡ among.format.id = sym (among.is ∙ u.uses) in
      let first_use = subst (λ (z : ℕ). IsFirstUse d z i) own u in
      ⊎_elim (λ (n : among.place < c.place). c.first among.place among.format n among.at
      (subst (ClashIn d.formats b.format) own (clash_in d b.format h clashes)))
      (λ (n : c.place ≤ among.place).
      ⊎_elim (λ (o : c.place < among.place). let after =
      before.in_order c.place among.place c.format among.format user.place i o c.at among.at user.first_use first_use in omega arith)
      (λ (o : among.place ≤ c.place).
      let s : c.place ≡ among.place = omega arith in
      let same : c.format ≡ among.format = same_Some c.format among.format (sym c.at ∙ ap (slice_get used) s ∙ among.at) in
      let one = one_first_use d among.format.id user.place i (subst (λ (z : UsedFormat). IsFirstUse d z.id user.place) same user.first_use)
      first_use in
      omega arith)
      (cases_lt c.place among.place))
      (cases_lt among.place c.place)

  pub first_clash : (g : ℕ) → IsFirstToClash d.formats used b.format g → IsFirstClash d b.format k g
  first_clash g c =
      let user = before.uses c.place c.format c.at in
      record {
        place = user.place;
        first_use = subst (λ (z : ℕ). IsFirstUse d z user.place) c.is user.first_use;
        earlier = user.before;
        clashes = are_clashing d b.format g c.clashes;
        first = none_before g c;
      }

-- ---- a format's name

pub has_name : (d : InstructionSet) (f : ℕ) (x : InstructionFormat) → slice_get d.formats f ≡ Some x → IsName x.name → HasBadFormatName d f
    → ⊥
has_name d f x at is bad = bad.2 (subst (λ (z : InstructionFormat). IsName z.name) (same_Some x bad.0 (sym at ∙ bad.1)) is)

-- ---- its blocks

abbrev pub HasMany : InstructionFormat → Type 0
HasMany x = (2 < x.num_block_operands) ⊎ (1 < x.num_raw_block_operands)

pub has_few : (d : InstructionSet) (f : ℕ) (x : InstructionFormat) → slice_get d.formats f ≡ Some x → (HasMany x → ⊥)
    → HasTooManyBlocks d f → ⊥
has_few d f x at few many = few (subst HasMany (same_Some many.0 x (sym many.1 ∙ at)) many.2)

-- what holds of equal tables and numbers
pub of_here : (P : List InstructionFormat → ℕ → Type 0) (xs ys : List InstructionFormat) (f g : ℕ) → xs ≡ ys → f ≡ g → P xs f → P ys g
of_here P xs ys f g e h p = subst (λ (z : List InstructionFormat). P z g) e (subst (P xs) h p)

-- one more format of the table
pub of_table_more : (formats : List InstructionFormat) (used more : List UsedFormat) (new : UsedFormat) → AreOfTable formats used
    → IsOfTable formats new → more ≡ used ++ new ∷ [] → AreOfTable formats more
of_table_more formats used more new all one l k f at =
    ⊎_elim (λ (h : slice_get used k ≡ Some f). all k f h)
    (λ (h : (k ≡ length used) × (new ≡ f)). subst (IsOfTable formats) h.1 one)
    (get_pushed used new k f (ap (λ xs. slice_get xs k) (sym l) ∙ at))

-- one more that clashes with none of these
pub apart_more : (formats : List InstructionFormat) (used more : List UsedFormat) (new : UsedFormat) → AreApart formats used
    → ClashesWithNone formats used new.id → more ≡ used ++ new ∷ [] → AreApart formats more
apart_more formats used more new apart none l i j f g before at_i at_j clash =
    let at_f = ap (λ xs. slice_get xs i) (sym l) ∙ at_i in
    let at_g = ap (λ xs. slice_get xs j) (sym l) ∙ at_j in
    ⊎_elim (λ (h : slice_get used j ≡ Some g).
    let inside = slice_get_within used j g h in
    ⊎_elim (λ (e : slice_get used i ≡ Some f). apart i j f g before e h clash)
    (λ (e : (i ≡ length used) × (new ≡ f)). omega (arith, before, inside, e.0))
    (get_pushed used new i f at_f))
    (λ (h : (j ≡ length used) × (new ≡ g)).
    ⊎_elim (λ (e : slice_get used i ≡ Some f). none i f e (subst (λ (z : UsedFormat). ClashIn formats z.id f.id) (sym h.1) clash))
    (λ (e : (i ≡ length used) × (new ≡ f)). omega (arith, before, h.0, e.0))
    (get_pushed used new i f at_f))
    (get_pushed used new j g at_g)
