-- Sets of types and the items that have them: what is read is spelled so, what is spelled so is read, and a fault lies within what is left.
use Rattle.std.proofs.Common.{◌≡◌, ◌∙◌, ℕ, ◌+◌, ◌≤◌, ◌<◌, Bool, true, false, cond, List, [], ◌∷◌, ◌++◌, drop}
use Rattle.std.proofs.Common.{Option}
use Rattle.std.proofs.Common.{Some, None, Ok, refl, sym, ap, subst, arith, append_assoc, codes}
use Rattle.std.specs.Prelude.{◌==◌, ◌%◌}
use Rattle.std.specs.Fmt.{decimal}
use Rattle.std.specs.Cmp.Lexicographic.{pointwise}
use Rattle.std.proofs.lemmas.Bool.{le-leb}
use Rattle.std.proofs.lemmas.Fmt.{decimal_by_steps}
use Rattle.meta_file_syntax.specs.declared.token.Token.{Token}
use Rattle.meta_file_syntax.specs.declared.token.Token.TheVariants.{Key, Word, Sign}
use Rattle.meta_file_syntax.specs.declared.keyword.Keyword.TheVariants as key
use Rattle.meta_file_syntax.specs.declared.types.Span.{Span}
use Rattle.meta_file_syntax.specs.declared.types.Members.{Members}
use Rattle.meta_file_syntax.specs.declared.types.Members.TheVariants as members
use Rattle.meta_file_syntax.specs.declared.types.Dimension.{Dimension}
use Rattle.meta_file_syntax.specs.declared.types.Dimension.TheVariants as dimensions
use Rattle.meta_file_syntax.specs.declared.types.Part.{Part}
use Rattle.meta_file_syntax.specs.declared.types.SetExpr.{SetExpr}
use Rattle.meta_file_syntax.specs.declared.types.SetExpr.TheVariants as sets
use Rattle.meta_file_syntax.specs.declared.types.TypeItem.{TypeItem}
use Rattle.meta_file_syntax.specs.declared.types.AliasItem.{AliasItem}
use Rattle.meta_file_syntax.specs.declared.items.Item.{Item}
use Rattle.meta_file_syntax.specs.declared.items.Item.TheVariants as item
use Rattle.meta_file_syntax.specs.Spelling.{docs, comment, number, each_after, comma, listed, up_to, span, part_members, set_part}
use Rattle.meta_file_syntax.specs.Spelling.{set_expr, type_item, alias_item, spelled}
use Rattle.meta_file_syntax.specs.Words.{dimension_text, dimension_table, dimension_of}
use Rattle.meta_file_reader.specs.declared.fault.Wanted.{Wanted}
use Rattle.meta_file_reader.specs.declared.fault.Wanted.TheVariants as wanted
use Rattle.meta_file_reader.specs.declared.lists.Layout.TheVariants as layouts
use Rattle.meta_file_reader.specs.Parts.{◌>>=◌, wants, word_at, sign_or_at, sign_at, chosen_at, number_of, comment_at, word_first}
use Rattle.meta_file_reader.specs.Parts.{sign_first}
use Rattle.meta_file_reader.specs.Parts.{begins_with_digit, digit_first}
use Rattle.meta_file_reader.specs.Lists.{some_at}
use Rattle.meta_file_reader.specs.Fits.{Every, HighFits, SpanFits, MembersFit, PartFits, SetFits}
use Rattle.meta_file_reader.specs.SetReading.{part_number_at, high_at, span_at, members_at, part_at, set_at, wanted_colon, alias_at}
use Rattle.meta_file_reader.specs.SetReading.{variable_at, type_item_at, type_at}
use Rattle.meta_file_reader.proofs.PartLaws.{bind_ok, ok_is, Shorter, longer, shorter_bind, shorter_sign, drop_less, word_takes}
use Rattle.meta_file_reader.proofs.PartLaws.{word_within}
use Rattle.meta_file_reader.proofs.PartLaws.{sign_takes, sign_within, chosen_takes, chosen_within, with_word_takes, number_takes}
use Rattle.meta_file_reader.proofs.PartLaws.{part_number_some, comment_takes, comment_within, word_is, sign_is, differs}
use Rattle.meta_file_reader.proofs.ListLaws.{Taken, Takes, Keeps, some_takes, some_rows, some_listed, some_within, Again, Ends, some_again}
use Rattle.meta_file_reader.proofs.ListLaws.{Leaves, some_leaves}
use Rattle.meta_file_reader.proofs.Ends.{of_last}
use Rattle.meta_file_reader.proofs.TypeLaws.{type_takes, type_within, type_again, type_leaves}
use Rattle.meta_file_reader.specs.Apart.{OfLast, TypeApart, HighApart, SpanApart, MembersApart, PartApart, SetApart, Apart}
use Rattle.meta_file_reader.proofs.SettingLaws.{together}

-- ---- ranges

high_by : (ts : List Token) (x : Option ℕ × List Token) (b : Bool) → sign_first 46 ts ≡ b
    → cond b (sign_at 46 (drop 1 ts) >>= λ after. part_number_at wanted.PartNumber after >>= λ n. Ok (Some n.0, n.1)) (Ok (None, ts)) ≡ Ok x
    → Taken up_to ts x
high_by ts x true is e =
    let a = bind_ok (sign_at 46 (drop 1 ts)) _ x e in
    let b = bind_ok (part_number_at wanted.PartNumber a.0) _ x a.2 in
    let t0 : ts ≡ Sign 46 ∷ drop 1 ts = sign_is 46 ts is in
    let t1 : drop 1 ts ≡ Sign 46 ∷ a.0 = sign_takes (wanted.Sign 46) 46 (drop 1 ts) a.0 a.1 in
    let t2 : a.0 ≡ number b.0.0 ∷ b.0.1 = number_takes wanted.PartNumber 256 a.0 b.0 b.1 in
    subst (Taken up_to ts) (ok_is (Some b.0.0, b.0.1) x b.2)
    (t0 ∙ ap (λ (r : List Token). Sign 46 ∷ r) (t1 ∙ ap (λ (r : List Token). Sign 46 ∷ r) t2))
high_by ts x false is e = subst (Taken up_to ts) (ok_is (None, ts) x e) refl

high_takes : Takes up_to high_at
unfolding high_at
high_takes ts x e = high_by ts x (sign_first 46 ts) refl e

high_within_by : (ts : List Token) (b : Bool)
    → Shorter ts (cond b (sign_at 46 (drop 1 ts) >>= λ after. part_number_at wanted.PartNumber after >>= λ n. Ok (Some n.0, n.1))
    (Ok (None, ts)))
high_within_by ts true =
    longer (drop 1 ts) ts _ (drop_less ts)
    (shorter_sign (drop 1 ts) (sign_at 46 (drop 1 ts)) _ (sign_within (wanted.Sign 46) 46 (drop 1 ts))
    (λ after. shorter_bind after (part_number_at wanted.PartNumber after) _ (chosen_within wanted.PartNumber (number_of 256) after)
    (λ n. omega arith)))
high_within_by ts false = omega arith

high_within : Keeps high_at
unfolding high_at
high_within ts = high_within_by ts (sign_first 46 ts)

high_again : (h : Option ℕ) (rest : List Token) → HighFits h → HighApart h rest → high_at (up_to h ++ rest) ≡ Ok (h, rest)
unfolding high_at
high_again None rest fit e = rw e refl
high_again (Some n) rest fit e = rw (part_number_some (decimal n) n fit refl) refl

pub span_takes : (w : Wanted) → Takes span (span_at w)
unfolding span_at
span_takes w ts x e =
    let a = bind_ok (part_number_at w ts) _ x e in
    let b = bind_ok (high_at a.0.1) _ x a.2 in
    let made : Span × List Token = (record { low = a.0.0; high = b.0.0 }, b.0.1) in
    subst (Taken span ts) (ok_is made x b.2) (number_takes w 256 ts a.0 a.1
    ∙ ap (λ (r : List Token). number a.0.0 ∷ r) (high_takes a.0.1 b.0 b.1))

span_within : (w : Wanted) → Keeps (span_at w)
unfolding span_at
span_within w ts =
    shorter_bind ts (part_number_at w ts) _ (chosen_within w (number_of 256) ts)
    (λ n. shorter_bind n.1 (high_at n.1) _ (high_within n.1) (λ h. omega arith))

span_again : (w : Wanted) (s : Span) (rest : List Token) → SpanFits s → SpanApart s rest
    → span_at w (span s ++ rest) ≡ Ok (s, rest)
unfolding span_at
span_again w s rest fit e = rw (part_number_some (decimal s.low) s.low fit.0 refl, high_again s.high rest fit.1 e) refl

-- a number begins with a digit
one_digit : (n : ℕ) → n < 10 → begins_with_digit ((48 + n) ∷ []) ≡ true
one_digit n lt = rw (le-leb 48 (48 + n) (omega arith), le-leb (48 + n) 57 (omega arith)) refl

more_digits : (n : ℕ) (ds : List ℕ) → 10 ≤ n → begins_with_digit ds ≡ true → begins_with_digit (ds ++ ((48 + n % 10) ∷ [])) ≡ true
more_digits n [] le e = absurd cc
more_digits n (d ∷ ds) le e = e

begins : (n : ℕ) → n ≤ 256 → begins_with_digit (decimal n) ≡ true
begins n le = decimal_by_steps (λ m ds. begins_with_digit ds ≡ true) one_digit more_digits n (omega arith)

high_parted : (h : Option ℕ) (n : ℕ) (rest : List Token) → HighApart h (number n ∷ rest)
high_parted None n rest = refl
high_parted (Some m) n rest = tt

spans_again : Again span (span_at wanted.PartNumber) layouts.Numbers SpanFits SpanApart
spans_again = record {
  again = λ s rest fit free. span_again wanted.PartNumber s rest fit free;
  follows = λ s rest fit. rw (begins s.low fit.0) refl;
  parted = λ s t rest. high_parted s.high t.low (up_to t.high ++ rest);
  opens = λ s rest. refl;
  some = λ s. omega arith;
}

spans_end : (rest : List Token) → digit_first rest ≡ false → Ends layouts.Numbers rest
spans_end rest h = rw h refl

-- ---- what a part has

-- no number is written so
no_number : (n : ℕ) (v : List ℕ) → n ≤ 256 → begins_with_digit v ≡ false → pointwise ◌==◌ (decimal n) v ≡ false
no_number n v le e = differs (decimal n) v (λ same. let yes : begins_with_digit v ≡ true = sym (ap begins_with_digit same) ∙ begins n le
    in absurd cc)

members_by : (ts : List Token) (x : Members × List Token) (p q r : Bool) → word_first (codes "all") ts ≡ p
    → word_first (codes "none") ts ≡ q
    → cond p (Ok (members.All, drop 1 ts)) (cond q (Ok (members.Nothing, drop 1 ts))
    (cond r (some_at (span_at wanted.PartNumber) layouts.Numbers ts >>= λ ss. Ok (members.Spans ss.0, ss.1)) (wants wanted.Members ts)))
    ≡ Ok x
    → Taken part_members ts x
members_by ts x true q r hp hq e = subst (Taken part_members ts) (ok_is (members.All, drop 1 ts) x e) (word_is (codes "all") ts hp)
members_by ts x false true r hp hq e = subst (Taken part_members ts) (ok_is (members.Nothing, drop 1 ts) x e) (word_is (codes "none") ts hq)
members_by ts x false false true hp hq e =
    let a = bind_ok (some_at (span_at wanted.PartNumber) layouts.Numbers ts) _ x e in
    subst (Taken part_members ts) (ok_is (members.Spans a.0.0, a.0.1) x a.2) (some_rows span layouts.Numbers ts a.0 refl refl
    (some_takes span (span_at wanted.PartNumber) layouts.Numbers (span_takes wanted.PartNumber) ts a.0 a.1))
members_by ts x false false false hp hq e = absurd cc

members_takes : Takes part_members members_at
unfolding members_at
members_takes ts x e = members_by ts x _ _ (digit_first ts) refl refl e

members_within_by : (ts : List Token) (p q r : Bool) → Shorter ts (cond p (Ok (members.All, drop 1 ts))
    (cond q (Ok (members.Nothing, drop 1 ts)) (cond r (some_at (span_at wanted.PartNumber) layouts.Numbers ts
    >>= λ ss. Ok (members.Spans ss.0, ss.1)) (wants wanted.Members ts))))
members_within_by ts true q r = drop_less ts
members_within_by ts false true r = drop_less ts
members_within_by ts false false true =
    shorter_bind ts (some_at (span_at wanted.PartNumber) layouts.Numbers ts) _
    (some_within (span_at wanted.PartNumber) layouts.Numbers (span_within wanted.PartNumber) ts) (λ ss. omega arith)
members_within_by ts false false false = omega arith

members_within : Keeps members_at
unfolding members_at
members_within ts = members_within_by ts (word_first (codes "all") ts) (word_first (codes "none") ts) (digit_first ts)

some_spans : (s : Span) (ss : List Span) (rest : List Token) → Every SpanFits (s ∷ ss) → MembersApart (members.Spans (s ∷ ss)) rest
    → some_at (span_at wanted.PartNumber) layouts.Numbers (each_after [] span (s ∷ ss) ++ rest) ≡ Ok (s ∷ ss, rest)
some_spans s ss rest fit apart =
    let same : each_after [] span (s ∷ ss) ++ rest ≡ span s ++ (each_after [] span ss ++ rest) = simp append_assoc in
    ap (λ (u : List Token). some_at (span_at wanted.PartNumber) layouts.Numbers u) same
    ∙ some_again span (span_at wanted.PartNumber) layouts.Numbers SpanFits SpanApart spans_again s ss rest fit apart.1
    (spans_end rest apart.0)

members_again : (m : Members) (rest : List Token) → MembersFit m → MembersApart m rest
    → members_at (part_members m ++ rest) ≡ Ok (m, rest)
unfolding members_at
members_again members.All rest fit apart = refl
members_again members.Nothing rest fit apart = refl
members_again (members.Spans []) rest fit apart = absurd (omega (arith, fit.0))
members_again (members.Spans (s ∷ ss)) rest fit apart =
    rw (
      no_number s.low (codes "all") fit.1.0.0 refl,
      no_number s.low (codes "none") fit.1.0.0 refl,
      begins s.low fit.1.0.0,
      some_spans s ss rest fit.1 apart,
    ) refl

-- ---- parts

pub dimension_is : (v : List ℕ) (d : Dimension) → dimension_of v ≡ Some d → v ≡ dimension_text d
unfolding dimension_of
dimension_is v d e = with_word_takes dimension_text dimension_table (refl, (refl, (refl, (refl, tt)))) v d e

dimension_known : (d : Dimension) → dimension_of (dimension_text d) ≡ Some d
unfolding dimension_of
dimension_known dimensions.Lanes = refl
dimension_known dimensions.Dynamic = refl
dimension_known dimensions.Ints = refl
dimension_known dimensions.Floats = refl

pub part_takes : (w : Wanted) → Takes set_part (part_at w)
unfolding part_at
part_takes w ts x e =
    let a = bind_ok (chosen_at w dimension_of ts) _ x e in
    let b = bind_ok (members_at a.0.1) _ x a.2 in
    let made : Part × List Token = (record { dimension = a.0.0; members = b.0.0 }, b.0.1) in
    subst (Taken set_part ts) (ok_is made x b.2) (chosen_takes w dimension_of dimension_text dimension_is ts a.0 a.1
    ∙ ap (λ (r : List Token). Word (dimension_text a.0.0) ∷ r) (members_takes a.0.1 b.0 b.1))

part_within : (w : Wanted) → Keeps (part_at w)
unfolding part_at
part_within w ts =
    shorter_bind ts (chosen_at w dimension_of ts) _ (chosen_within w dimension_of ts)
    (λ d. shorter_bind d.1 (members_at d.1) _ (members_within d.1) (λ m. omega arith))

part_again : (w : Wanted) (p : Part) (rest : List Token) → PartFits p → PartApart p rest
    → part_at w (set_part p ++ rest) ≡ Ok (p, rest)
unfolding part_at
part_again w p rest fit apart = rw (dimension_known p.dimension, members_again p.members rest fit apart) refl

-- nothing goes on with numbers at a comma
comma_high : (h : Option ℕ) (ts : List Token) → HighApart h (Sign 44 ∷ ts)
comma_high None ts = refl
comma_high (Some n) ts = tt

spans_parted : (ts : List Token) (ss : List Span) → OfLast (λ s. SpanApart s (Sign 44 ∷ ts)) ss
spans_parted ts ss = of_last (λ s. SpanApart s (Sign 44 ∷ ts)) (λ s. comma_high s.high ts) ss

members_parted : (m : Members) (ts : List Token) → MembersApart m (Sign 44 ∷ ts)
members_parted members.All ts = tt
members_parted members.Nothing ts = tt
members_parted (members.Spans ss) ts = (refl, spans_parted ts ss)

parts_again : Again set_part (part_at wanted.Dimension) layouts.Commas PartFits PartApart
parts_again = record {
  again = λ p rest fit free. part_again wanted.Dimension p rest fit free;
  follows = λ p rest fit. refl;
  parted = λ p q rest. members_parted p.members (set_part q ++ rest);
  opens = λ p rest. refl;
  some = λ p. omega arith;
}

parts_end : (rest : List Token) → sign_first 44 rest ≡ false → Ends layouts.Commas rest
parts_end rest h = rw h refl

-- ---- sets

set_by : (ts : List Token) (x : SetExpr × List Token) (b : Bool) → word_first (codes "like") ts ≡ b
    → cond b (word_at wanted.Type (drop 1 ts) >>= λ w. Ok (sets.Like w.0, w.1))
    (some_at (part_at wanted.Dimension) layouts.Commas ts >>= λ ps. Ok (sets.Parts ps.0, ps.1)) ≡ Ok x → Taken set_expr ts x
set_by ts x true is e =
    let a = bind_ok (word_at wanted.Type (drop 1 ts)) _ x e in
    subst (Taken set_expr ts) (ok_is (sets.Like a.0.0, a.0.1) x a.2) (word_is (codes "like") ts is
    ∙ ap (λ (r : List Token). Word (codes "like") ∷ r) (word_takes wanted.Type (drop 1 ts) a.0 a.1))
set_by ts x false is e =
    let a = bind_ok (some_at (part_at wanted.Dimension) layouts.Commas ts) _ x e in
    subst (Taken set_expr ts) (ok_is (sets.Parts a.0.0, a.0.1) x a.2) (some_listed set_part layouts.Commas ts a.0 refl
    (some_takes set_part (part_at wanted.Dimension) layouts.Commas (part_takes wanted.Dimension) ts a.0 a.1))

set_takes : Takes set_expr set_at
unfolding set_at
set_takes ts x e = set_by ts x (word_first (codes "like") ts) refl e

set_within_by : (ts : List Token) (b : Bool) → Shorter ts (cond b (word_at wanted.Type (drop 1 ts) >>= λ w. Ok (sets.Like w.0, w.1))
    (some_at (part_at wanted.Dimension) layouts.Commas ts >>= λ ps. Ok (sets.Parts ps.0, ps.1)))
set_within_by ts true =
    longer (drop 1 ts) ts _ (drop_less ts) (shorter_bind (drop 1 ts) (word_at wanted.Type (drop 1 ts)) _
    (word_within wanted.Type (drop 1 ts)) (λ w. omega arith))
set_within_by ts false =
    shorter_bind ts (some_at (part_at wanted.Dimension) layouts.Commas ts) _
    (some_within (part_at wanted.Dimension) layouts.Commas (part_within wanted.Dimension) ts) (λ ps. omega arith)

set_within : Keeps set_at
unfolding set_at
set_within ts = set_within_by ts (word_first (codes "like") ts)

not_like : (d : Dimension) → pointwise ◌==◌ (dimension_text d) (codes "like") ≡ false
not_like dimensions.Lanes = refl
not_like dimensions.Dynamic = refl
not_like dimensions.Ints = refl
not_like dimensions.Floats = refl

some_parts : (p : Part) (ps : List Part) (rest : List Token) → Every PartFits (p ∷ ps) → SetApart (sets.Parts (p ∷ ps)) rest
    → some_at (part_at wanted.Dimension) layouts.Commas (listed set_part (p ∷ ps) ++ rest) ≡ Ok (p ∷ ps, rest)
some_parts p ps rest fit apart =
    let same : listed set_part (p ∷ ps) ++ rest ≡ set_part p ++ (each_after comma set_part ps ++ rest) = simp append_assoc in
    ap (λ (u : List Token). some_at (part_at wanted.Dimension) layouts.Commas u) same
    ∙ some_again set_part (part_at wanted.Dimension) layouts.Commas PartFits PartApart parts_again p ps rest fit apart.1
    (parts_end rest apart.0)

set_again : (s : SetExpr) (rest : List Token) → SetFits s → SetApart s rest → set_at (set_expr s ++ rest) ≡ Ok (s, rest)
unfolding set_at
set_again (sets.Like w) rest fit apart = refl
set_again (sets.Parts []) rest fit apart = absurd (omega (arith, fit.0))
set_again (sets.Parts (p ∷ ps)) rest fit apart = rw (not_like p.dimension, some_parts p ps rest fit.1 apart) refl

-- ---- items

abbrev pub TypeTaken : List (List ℕ) → List Token → Item × List Token → Type 0
TypeTaken ds ts x = docs ds ++ Key key.Type ∷ ts ≡ spelled x.0 ++ x.1

alias_takes : (ds : List (List ℕ)) (w : List ℕ) (ts : List Token) (x : Item × List Token) → alias_at ds w ts ≡ Ok x
    → TypeTaken ds (Word w ∷ Sign 61 ∷ ts) x
unfolding alias_at
alias_takes ds w ts x e =
    let a = bind_ok (type_at ts) _ x e in
    let made : AliasItem = record { docs = ds; word = w; means = a.0.0 } in
    subst (TypeTaken ds (Word w ∷ Sign 61 ∷ ts)) (ok_is (item.Alias made, a.0.1) x a.2)
    (together ds key.Type (Word w ∷ Sign 61 ∷ ts) (alias_item made) a.0.1
    (ap (λ (r : List Token). Word w ∷ Sign 61 ∷ r) (type_takes ts a.0 a.1)))

variable_takes : (ds : List (List ℕ)) (w : List ℕ) (ts : List Token) (x : Item × List Token) → variable_at ds w ts ≡ Ok x
    → TypeTaken ds (Word w ∷ ts) x
unfolding variable_at
variable_takes ds w ts x e =
    let shown = (comment_at ts).0 in
    let a = bind_ok (sign_or_at (wanted_colon (comment_at ts).0) 58 (comment_at ts).1) _ x e in
    let b = bind_ok (set_at a.0) _ x a.2 in
    let made : TypeItem = record { docs = ds; word = w; shown = shown; set = b.0.0 } in
    let t0 : ts ≡ comment shown ++ (comment_at ts).1 = comment_takes ts in
    let t1 : (comment_at ts).1 ≡ Sign 58 ∷ a.0 = sign_takes (wanted_colon (comment_at ts).0) 58 (comment_at ts).1 a.0 a.1 in
    let t2 : a.0 ≡ set_expr b.0.0 ++ b.0.1 = set_takes a.0 b.0 b.1 in
    let whole : ts ≡ (comment shown ++ Sign 58 ∷ set_expr b.0.0) ++ b.0.1 = t0
    ∙ ap (λ (r : List Token). comment shown ++ r) (t1 ∙ ap (λ (r : List Token). Sign 58 ∷ r) t2)
    ∙ sym (append_assoc (comment shown) (Sign 58 ∷ set_expr b.0.0) b.0.1) in
    subst (TypeTaken ds (Word w ∷ ts)) (ok_is (item.Type made, b.0.1) x b.2)
    (together ds key.Type (Word w ∷ ts) (type_item made) b.0.1 (ap (λ (r : List Token). Word w ∷ r) whole))

either_takes : (ds : List (List ℕ)) (w : List ℕ) (ts : List Token) (x : Item × List Token) (b : Bool) → sign_first 61 ts ≡ b
    → cond b (alias_at ds w (drop 1 ts)) (variable_at ds w ts) ≡ Ok x → TypeTaken ds (Word w ∷ ts) x
either_takes ds w ts x true is e =
    ap (λ (r : List Token). docs ds ++ Key key.Type ∷ Word w ∷ r) (sign_is 61 ts is) ∙ alias_takes ds w (drop 1 ts) x e
either_takes ds w ts x false is e = variable_takes ds w ts x e

pub type_item_takes : (ds : List (List ℕ)) (ts : List Token) (x : Item × List Token) → type_item_at ds ts ≡ Ok x → TypeTaken ds ts x
unfolding type_item_at
type_item_takes ds ts x e =
    let a = bind_ok (word_at wanted.TypeWord ts) _ x e in
    ap (λ (r : List Token). docs ds ++ Key key.Type ∷ r) (word_takes wanted.TypeWord ts a.0 a.1)
    ∙ either_takes ds a.0.0 a.0.1 x (sign_first 61 a.0.1) refl a.2

alias_within : (ds : List (List ℕ)) (w : List ℕ) → Keeps (alias_at ds w)
unfolding alias_at
alias_within ds w ts = shorter_bind ts (type_at ts) _ (type_within ts) (λ t. omega arith)

variable_within : (ds : List (List ℕ)) (w : List ℕ) → Keeps (variable_at ds w)
unfolding variable_at
variable_within ds w ts =
    longer (comment_at ts).1 ts _ (comment_within ts)
    (shorter_sign (comment_at ts).1 (sign_or_at (wanted_colon (comment_at ts).0) 58 (comment_at ts).1) _
    (sign_within (wanted_colon (comment_at ts).0) 58 (comment_at ts).1)
    (λ after. shorter_bind after (set_at after) _ (set_within after) (λ s. omega arith)))

either_within : (ds : List (List ℕ)) (w : List ℕ) (ts : List Token) (b : Bool)
    → Shorter ts (cond b (alias_at ds w (drop 1 ts)) (variable_at ds w ts))
either_within ds w ts true = longer (drop 1 ts) ts (alias_at ds w (drop 1 ts)) (drop_less ts) (alias_within ds w (drop 1 ts))
either_within ds w ts false = variable_within ds w ts

pub type_item_within : (ds : List (List ℕ)) → Keeps (type_item_at ds)
unfolding type_item_at
type_item_within ds ts =
    shorter_bind ts (word_at wanted.TypeWord ts) _ (word_within wanted.TypeWord ts) (λ w. either_within ds w.0 w.1 (sign_first 61 w.1))

variable_again : (ds : List (List ℕ)) (w : List ℕ) (c : Option (List ℕ)) (s : SetExpr) (rest : List Token) → SetFits s → SetApart s rest
    → type_item_at ds (Word w ∷ (comment c ++ Sign 58 ∷ (set_expr s ++ rest)))
    ≡ Ok (item.Type (record { docs = ds; word = w; shown = c; set = s }), rest)
unfolding type_item_at variable_at
variable_again ds w None s rest fit apart = rw (set_again s rest fit apart) refl
variable_again ds w (Some t) s rest fit apart = rw (set_again s rest fit apart) refl

pub type_item_again : (i : TypeItem) (rest : List Token) → SetFits i.set → SetApart i.set rest
    → type_item_at i.docs (type_item i ++ rest) ≡ Ok (item.Type i, rest)
type_item_again i rest fit apart =
    ap (λ (r : List Token). type_item_at i.docs (Word i.word ∷ r)) (append_assoc (comment i.shown) (Sign 58 ∷ set_expr i.set) rest)
    ∙ variable_again i.docs i.word i.shown i.set rest fit apart

pub alias_again : (i : AliasItem) (rest : List Token) → TypeApart i.means rest
    → type_item_at i.docs (alias_item i ++ rest) ≡ Ok (item.Alias i, rest)
unfolding type_item_at alias_at
alias_again i rest apart = rw (type_again i.means rest apart) refl

-- ---- what is left doesn't go on with what is read

high_leaves_by : (ts : List Token) (x : Option ℕ × List Token) (b : Bool) → sign_first 46 ts ≡ b
    → cond b (sign_at 46 (drop 1 ts) >>= λ after. part_number_at wanted.PartNumber after >>= λ n. Ok (Some n.0, n.1)) (Ok (None, ts)) ≡ Ok x
    → HighApart x.0 x.1
high_leaves_by ts x true is e =
    let a = bind_ok (sign_at 46 (drop 1 ts)) _ x e in
    let b = bind_ok (part_number_at wanted.PartNumber a.0) _ x a.2 in
    subst (λ (y : Option ℕ × List Token). HighApart y.0 y.1) (ok_is (Some b.0.0, b.0.1) x b.2) tt
high_leaves_by ts x false is e = subst (λ (y : Option ℕ × List Token). HighApart y.0 y.1) (ok_is (None, ts) x e) is

high_leaves : Leaves HighApart high_at
unfolding high_at
high_leaves ts x e = high_leaves_by ts x (sign_first 46 ts) refl e

span_leaves : (w : Wanted) → Leaves SpanApart (span_at w)
unfolding span_at
span_leaves w ts x e =
    let a = bind_ok (part_number_at w ts) _ x e in
    let b = bind_ok (high_at a.0.1) _ x a.2 in
    let made : Span × List Token = (record { low = a.0.0; high = b.0.0 }, b.0.1) in
    subst (λ (y : Span × List Token). SpanApart y.0 y.1) (ok_is made x b.2) (high_leaves a.0.1 b.0 b.1)

members_leave_by : (ts : List Token) (x : Members × List Token) (p q r : Bool)
    → cond p (Ok (members.All, drop 1 ts)) (cond q (Ok (members.Nothing, drop 1 ts))
    (cond r (some_at (span_at wanted.PartNumber) layouts.Numbers ts >>= λ ss. Ok (members.Spans ss.0, ss.1)) (wants wanted.Members ts)))
    ≡ Ok x → MembersApart x.0 x.1
members_leave_by ts x true q r e = subst (λ (y : Members × List Token). MembersApart y.0 y.1) (ok_is (members.All, drop 1 ts) x e) tt
members_leave_by ts x false true r e = subst (λ (y : Members × List Token). MembersApart y.0 y.1) (ok_is (members.Nothing, drop 1 ts) x e) tt
members_leave_by ts x false false true e =
    let a = bind_ok (some_at (span_at wanted.PartNumber) layouts.Numbers ts) _ x e in
    subst (λ (y : Members × List Token). MembersApart y.0 y.1) (ok_is (members.Spans a.0.0, a.0.1) x a.2)
    (some_leaves SpanApart (span_at wanted.PartNumber) layouts.Numbers refl (span_leaves wanted.PartNumber) ts a.0 a.1)
members_leave_by ts x false false false e = absurd cc

members_leave : Leaves MembersApart members_at
unfolding members_at
members_leave ts x e = members_leave_by ts x (word_first (codes "all") ts) (word_first (codes "none") ts) (digit_first ts) e

part_leaves : (w : Wanted) → Leaves PartApart (part_at w)
unfolding part_at
part_leaves w ts x e =
    let a = bind_ok (chosen_at w dimension_of ts) _ x e in
    let b = bind_ok (members_at a.0.1) _ x a.2 in
    let made : Part × List Token = (record { dimension = a.0.0; members = b.0.0 }, b.0.1) in
    subst (λ (y : Part × List Token). PartApart y.0 y.1) (ok_is made x b.2) (members_leave a.0.1 b.0 b.1)

set_leaves_by : (ts : List Token) (x : SetExpr × List Token) (b : Bool)
    → cond b (word_at wanted.Type (drop 1 ts) >>= λ w. Ok (sets.Like w.0, w.1))
    (some_at (part_at wanted.Dimension) layouts.Commas ts >>= λ ps. Ok (sets.Parts ps.0, ps.1)) ≡ Ok x → SetApart x.0 x.1
set_leaves_by ts x true e =
    let a = bind_ok (word_at wanted.Type (drop 1 ts)) _ x e in
    subst (λ (y : SetExpr × List Token). SetApart y.0 y.1) (ok_is (sets.Like a.0.0, a.0.1) x a.2) tt
set_leaves_by ts x false e =
    let a = bind_ok (some_at (part_at wanted.Dimension) layouts.Commas ts) _ x e in
    subst (λ (y : SetExpr × List Token). SetApart y.0 y.1) (ok_is (sets.Parts a.0.0, a.0.1) x a.2)
    (some_leaves PartApart (part_at wanted.Dimension) layouts.Commas refl (part_leaves wanted.Dimension) ts a.0 a.1)

set_leaves : Leaves SetApart set_at
unfolding set_at
set_leaves ts x e = set_leaves_by ts x (word_first (codes "like") ts) e

abbrev ItemApart : Item × List Token → Type 0
ItemApart x = Apart x.0 x.1

alias_leaves : (ds : List (List ℕ)) (w : List ℕ) → Leaves Apart (alias_at ds w)
unfolding alias_at
alias_leaves ds w ts x e =
    let a = bind_ok (type_at ts) _ x e in
    let made : AliasItem = record { docs = ds; word = w; means = a.0.0 } in
    subst ItemApart (ok_is (item.Alias made, a.0.1) x a.2) (type_leaves ts a.0 a.1)

variable_leaves : (ds : List (List ℕ)) (w : List ℕ) → Leaves Apart (variable_at ds w)
unfolding variable_at
variable_leaves ds w ts x e =
    let a = bind_ok (sign_or_at (wanted_colon (comment_at ts).0) 58 (comment_at ts).1) _ x e in
    let b = bind_ok (set_at a.0) _ x a.2 in
    let made : TypeItem = record { docs = ds; word = w; shown = (comment_at ts).0; set = b.0.0 } in
    subst ItemApart (ok_is (item.Type made, b.0.1) x b.2) (set_leaves a.0 b.0 b.1)

either_leaves : (ds : List (List ℕ)) (w : List ℕ) (ts : List Token) (x : Item × List Token) (b : Bool)
    → cond b (alias_at ds w (drop 1 ts)) (variable_at ds w ts) ≡ Ok x → ItemApart x
either_leaves ds w ts x true e = alias_leaves ds w (drop 1 ts) x e
either_leaves ds w ts x false e = variable_leaves ds w ts x e

pub type_item_leaves : (ds : List (List ℕ)) → Leaves Apart (type_item_at ds)
unfolding type_item_at
type_item_leaves ds ts x e =
    let a = bind_ok (word_at wanted.TypeWord ts) _ x e in
    either_leaves ds a.0.0 a.0.1 x (sign_first 61 a.0.1) a.2
