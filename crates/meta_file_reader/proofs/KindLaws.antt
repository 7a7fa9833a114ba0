-- Kinds and formats: what is read is spelled so, what is spelled so is read, and a fault lies within what is left.
use Rattle.std.proofs.Common.{◌≡◌, ◌∙◌, ℕ, ◌<◌, Bool, true, false, cond, List, [], ◌∷◌, ◌++◌, length, drop, Option, Some, None}
use Rattle.std.proofs.Common.{Result, Ok, refl, sym, ap, subst, arith, append_assoc, codes}
use Rattle.meta_file_syntax.specs.declared.token.Token.{Token}
use Rattle.meta_file_syntax.specs.declared.token.Token.TheVariants.{Word, Quoted, Sign}
use Rattle.meta_file_syntax.specs.declared.keyword.Keyword.TheVariants as key
use Rattle.meta_file_syntax.specs.declared.name.Name.{Name}
use Rattle.meta_file_syntax.specs.declared.name.Name.TheVariants as names
use Rattle.meta_file_syntax.specs.declared.kinds.EnumValue.{EnumValue}
use Rattle.meta_file_syntax.specs.declared.kinds.Sort.{Sort}
use Rattle.meta_file_syntax.specs.declared.kinds.Sort.TheVariants as sorts
use Rattle.meta_file_syntax.specs.declared.kinds.KindItem.{KindItem}
use Rattle.meta_file_syntax.specs.declared.formats.Slot.{Slot}
use Rattle.meta_file_syntax.specs.declared.formats.Slot.TheVariants as slots
use Rattle.meta_file_syntax.specs.declared.formats.FormatItem.{FormatItem}
use Rattle.meta_file_syntax.specs.Spelling.{name, comment, each_after, comma, listed, type_expr, enum_value, kind_sort, field_name}
use Rattle.meta_file_syntax.specs.Spelling.{kind_item, slot, format_slots, format_item}
use Rattle.meta_file_reader.specs.declared.fault.Fault.{Fault}
use Rattle.meta_file_reader.specs.declared.fault.Wanted.{Wanted}
use Rattle.meta_file_reader.specs.declared.fault.Wanted.TheVariants as wanted
use Rattle.meta_file_reader.specs.declared.lists.Layout.TheVariants as layouts
use Rattle.meta_file_reader.specs.Parts.{◌>>=◌, wants, name_at, word_at, text_at, sign_at, comment_at, word_first}
use Rattle.meta_file_reader.specs.Parts.{sign_first}
use Rattle.meta_file_reader.specs.Lists.{some_at, list_at, closes_first}
use Rattle.meta_file_reader.specs.Fits.{Every, SlotFits, FirstFits, SlotsFit}
use Rattle.meta_file_reader.specs.SetReading.{type_at, enum_value_at, imm_enum_at, value_of_at, sort_at, field_at, kind_item_at}
use Rattle.meta_file_reader.specs.SetReading.{designated_at, slot_at, slots_at, format_item_at}
use Rattle.meta_file_reader.proofs.PartLaws.{bind_ok, ok_is, Shorter, longer, shorter_bind, shorter_sign, drop_less, name_again}
use Rattle.meta_file_reader.proofs.PartLaws.{name_takes}
use Rattle.meta_file_reader.proofs.PartLaws.{name_within, word_takes, word_within, text_takes, text_within, sign_takes, sign_within}
use Rattle.meta_file_reader.proofs.PartLaws.{comment_again, comment_takes, comment_within, word_is, differs}
use Rattle.meta_file_reader.proofs.ListLaws.{Taken, Takes, Keeps, some_takes, some_within, list_takes, list_within, Again}
use Rattle.meta_file_reader.proofs.ListLaws.{Ends}
use Rattle.meta_file_reader.proofs.ListLaws.{some_again, list_again}
use Rattle.meta_file_reader.proofs.ListLaws.{Leaves, some_leaves}
use Rattle.meta_file_reader.proofs.Ends.{of_last}
use Rattle.meta_file_reader.specs.Apart.{TypeApart, FieldApart, SlotsApart}
use Rattle.meta_file_reader.proofs.TypeLaws.{type_takes, type_within, type_again, type_parted}
use Rattle.meta_file_reader.proofs.SettingLaws.{Spelled, together}

-- ---- values of an enum

pub value_takes : (w : Wanted) → Takes enum_value (enum_value_at w)
unfolding enum_value_at
value_takes w ts x e =
    let a = bind_ok (name_at w ts) _ x e in
    let b = bind_ok (sign_at 61 a.0.1) _ x a.2 in
    let c = bind_ok (name_at wanted.RustValue b.0) _ x b.2 in
    let made : EnumValue × List Token = (record { name = a.0.0; rust = c.0.0 }, c.0.1) in
    subst (Taken enum_value ts) (ok_is made x c.2) (name_takes w ts a.0 a.1
    ∙ ap (λ (r : List Token). name a.0.0 ∷ r) (sign_takes (wanted.Sign 61) 61 a.0.1 b.0 b.1
    ∙ ap (λ (r : List Token). Sign 61 ∷ r) (name_takes wanted.RustValue b.0 c.0 c.1)))

value_within : (w : Wanted) → Keeps (enum_value_at w)
unfolding enum_value_at
value_within w ts =
    shorter_bind ts (name_at w ts) _ (name_within w ts)
    (λ n. shorter_sign n.1 (sign_at 61 n.1) _ (sign_within (wanted.Sign 61) 61 n.1)
    (λ after. shorter_bind after (name_at wanted.RustValue after) _ (name_within wanted.RustValue after) (λ r. omega arith)))

value_again : (w : Wanted) (v : EnumValue) (rest : List Token) → enum_value_at w (enum_value v ++ rest) ≡ Ok (v, rest)
unfolding enum_value_at
value_again w v rest = rw (
  name_again w v.name (Sign 61 ∷ name v.rust ∷ rest),
  name_again wanted.RustValue v.rust rest,
) refl

abbrev AnyValue : EnumValue → Type 0
AnyValue v = Unit {0}

-- whatever comes after
abbrev Always : EnumValue → List Token → Type 0
Always v ts = Unit {0}

every_value : (vs : List EnumValue) → Every AnyValue vs
every_value [] = tt
every_value (v ∷ vs) = (tt, every_value vs)

pub no_close : (n : Name) (rest : List Token) → closes_first layouts.Parentheses (name n ∷ rest) ≡ false
no_close (names.Plain w) rest = refl
no_close (names.Quoted t) rest = refl

values_again : Again enum_value (enum_value_at wanted.Value) layouts.Parentheses AnyValue Always
values_again = record {
  again = λ v rest good free. value_again wanted.Value v rest;
  follows = λ v rest good. refl;
  parted = λ v u rest. tt;
  opens = λ v rest. no_close v.name (Sign 61 ∷ name v.rust ∷ rest);
  some = λ v. omega arith;
}

value_list : (vs : List EnumValue) (rest : List Token)
    → list_at (enum_value_at wanted.Value) layouts.Parentheses (listed enum_value vs ++ Sign 41 ∷ rest) ≡ Ok (vs, rest)
value_list vs rest =
    list_again enum_value (enum_value_at wanted.Value) layouts.Parentheses AnyValue Always values_again refl (λ r. refl) (λ r. refl)
    vs rest (every_value vs) (of_last AnyValue (λ v. tt) vs) refl

-- ---- sorts

imm_enum_takes : (ts : List Token) (x : Sort × List Token) → imm_enum_at ts ≡ Ok x
    → Taken kind_sort (Word (codes "imm_enum") ∷ ts) x
unfolding imm_enum_at
imm_enum_takes ts x e =
    let a = bind_ok (sign_at 40 ts) _ x e in
    let b = bind_ok (list_at (enum_value_at wanted.Value) layouts.Parentheses a.0) _ x a.2 in
    let t0 : ts ≡ Sign 40 ∷ a.0 = sign_takes (wanted.Sign 40) 40 ts a.0 a.1 in
    let t1 : a.0 ≡ listed enum_value b.0.0 ++ Sign 41 ∷ b.0.1 =
    list_takes enum_value (enum_value_at wanted.Value) layouts.Parentheses (value_takes wanted.Value) refl a.0 b.0 b.1 in
    subst (Taken kind_sort (Word (codes "imm_enum") ∷ ts)) (ok_is (sorts.ImmEnum b.0.0, b.0.1) x b.2)
    (ap (λ (r : List Token). Word (codes "imm_enum") ∷ r) (t0 ∙ ap (λ (r : List Token). Sign 40 ∷ r) (t1
    ∙ sym (append_assoc (listed enum_value b.0.0) (Sign 41 ∷ []) b.0.1))))

imm_enum_within : Keeps imm_enum_at
unfolding imm_enum_at
imm_enum_within ts =
    shorter_sign ts (sign_at 40 ts) _ (sign_within (wanted.Sign 40) 40 ts)
    (λ after. shorter_bind after (list_at (enum_value_at wanted.Value) layouts.Parentheses after) _
    (list_within (enum_value_at wanted.Value) layouts.Parentheses (value_within wanted.Value) after) (λ vs. omega arith))

value_of_takes : (ts : List Token) (x : Sort × List Token) → value_of_at ts ≡ Ok x → Taken kind_sort (Word (codes "value") ∷ ts) x
unfolding value_of_at
value_of_takes ts x e =
    let a = bind_ok (sign_at 40 ts) _ x e in
    let b = bind_ok (type_at a.0) _ x a.2 in
    let c = bind_ok (sign_at 41 b.0.1) _ x b.2 in
    let t0 : ts ≡ Sign 40 ∷ a.0 = sign_takes (wanted.Sign 40) 40 ts a.0 a.1 in
    let t1 : a.0 ≡ type_expr b.0.0 ++ b.0.1 = type_takes a.0 b.0 b.1 in
    let t2 : b.0.1 ≡ Sign 41 ∷ c.0 = sign_takes (wanted.Sign 41) 41 b.0.1 c.0 c.1 in
    subst (Taken kind_sort (Word (codes "value") ∷ ts)) (ok_is (sorts.Value b.0.0, c.0) x c.2)
    (ap (λ (r : List Token). Word (codes "value") ∷ r) (t0 ∙ ap (λ (r : List Token). Sign 40 ∷ r) (t1
    ∙ ap (λ (r : List Token). type_expr b.0.0 ++ r) t2 ∙ sym (append_assoc (type_expr b.0.0) (Sign 41 ∷ []) c.0))))

value_of_within : Keeps value_of_at
unfolding value_of_at
value_of_within ts =
    shorter_sign ts (sign_at 40 ts) _ (sign_within (wanted.Sign 40) 40 ts)
    (λ after. shorter_bind after (type_at after) _ (type_within after)
    (λ t. shorter_sign t.1 (sign_at 41 t.1) _ (sign_within (wanted.Sign 41) 41 t.1) (λ r. omega arith)))

abbrev sort_choice : List Token → Bool → Bool → Bool → Bool → Bool → Result (Sort × List Token) Fault
sort_choice ts p q r s t = cond p (Ok (sorts.Entity, drop 1 ts)) (cond q (Ok (sorts.Imm, drop 1 ts)) (cond r (imm_enum_at (drop 1 ts))
    (cond s (Ok (sorts.Varargs, drop 1 ts)) (cond t (value_of_at (drop 1 ts)) (wants wanted.Sort ts)))))

sort_by : (ts : List Token) (x : Sort × List Token) (p q r s t : Bool) → word_first (codes "entity") ts ≡ p
    → word_first (codes "imm") ts ≡ q
    → word_first (codes "imm_enum") ts ≡ r → word_first (codes "varargs") ts ≡ s → word_first (codes "value") ts ≡ t
    → sort_choice ts p q r s t ≡ Ok x → Taken kind_sort ts x
sort_by ts x true q r s t hp hq hr hs ht e =
    subst (Taken kind_sort ts) (ok_is (sorts.Entity, drop 1 ts) x e) (word_is (codes "entity") ts hp)
sort_by ts x false true r s t hp hq hr hs ht e = subst (Taken kind_sort ts) (ok_is (sorts.Imm, drop 1 ts) x e) (word_is (codes "imm") ts hq)
sort_by ts x false false true s t hp hq hr hs ht e = word_is (codes "imm_enum") ts hr ∙ imm_enum_takes (drop 1 ts) x e
sort_by ts x false false false true t hp hq hr hs ht e =
    subst (Taken kind_sort ts) (ok_is (sorts.Varargs, drop 1 ts) x e) (word_is (codes "varargs") ts hs)
sort_by ts x false false false false true hp hq hr hs ht e = word_is (codes "value") ts ht ∙ value_of_takes (drop 1 ts) x e
sort_by ts x false false false false false hp hq hr hs ht e = absurd cc

pub sort_takes : Takes kind_sort sort_at
unfolding sort_at
sort_takes ts x e = sort_by ts x _ _ _ _ _ refl refl refl refl refl e

sort_within_by : (ts : List Token) (p q r s t : Bool) → Shorter ts (sort_choice ts p q r s t)
sort_within_by ts true q r s t = drop_less ts
sort_within_by ts false true r s t = drop_less ts
sort_within_by ts false false true s t = longer (drop 1 ts) ts (imm_enum_at (drop 1 ts)) (drop_less ts) (imm_enum_within (drop 1 ts))
sort_within_by ts false false false true t = drop_less ts
sort_within_by ts false false false false true =
    longer (drop 1 ts) ts (value_of_at (drop 1 ts)) (drop_less ts) (value_of_within (drop 1 ts))
sort_within_by ts false false false false false = omega arith

sort_within : Keeps sort_at
unfolding sort_at
sort_within ts = sort_within_by ts _ _ _ _ _

sort_again : (s : Sort) (rest : List Token) → sort_at (kind_sort s ++ rest) ≡ Ok (s, rest)
unfolding sort_at imm_enum_at value_of_at
sort_again sorts.Entity rest = refl
sort_again sorts.Imm rest = refl
sort_again (sorts.ImmEnum vs) rest = rw (append_assoc (listed enum_value vs) (Sign 41 ∷ []) rest, value_list vs rest) refl
sort_again sorts.Varargs rest = refl
sort_again (sorts.Value t) rest =
    let ends : TypeApart t (Sign 41 ∷ rest) = type_parted t.functions 41 rest refl in
    rw (append_assoc (type_expr t) (Sign 41 ∷ []) rest, type_again t (Sign 41 ∷ rest) ends) refl

-- ---- the name of a field

field_by : (ts : List Token) (x : Option Name × List Token) (b : Bool) → word_first (codes "field") ts ≡ b
    → cond b (name_at wanted.FieldName (drop 1 ts) >>= λ n. Ok (Some n.0, n.1)) (Ok (None, ts)) ≡ Ok x → Taken field_name ts x
field_by ts x true is e =
    let a = bind_ok (name_at wanted.FieldName (drop 1 ts)) _ x e in
    subst (Taken field_name ts) (ok_is (Some a.0.0, a.0.1) x a.2) (word_is (codes "field") ts is
    ∙ ap (λ (r : List Token). Word (codes "field") ∷ r) (name_takes wanted.FieldName (drop 1 ts) a.0 a.1))
field_by ts x false is e = subst (Taken field_name ts) (ok_is (None, ts) x e) refl

field_takes : Takes field_name field_at
unfolding field_at
field_takes ts x e = field_by ts x (word_first (codes "field") ts) refl e

field_within_by : (ts : List Token) (b : Bool)
    → Shorter ts (cond b (name_at wanted.FieldName (drop 1 ts) >>= λ n. Ok (Some n.0, n.1)) (Ok (None, ts)))
field_within_by ts true =
    longer (drop 1 ts) ts _ (drop_less ts) (shorter_bind (drop 1 ts) (name_at wanted.FieldName (drop 1 ts)) _
    (name_within wanted.FieldName (drop 1 ts)) (λ n. omega arith))
field_within_by ts false = omega arith

field_within : Keeps field_at
unfolding field_at
field_within ts = field_within_by ts (word_first (codes "field") ts)

field_again : (f : Option Name) (rest : List Token) → FieldApart f rest
    → field_at (field_name f ++ rest) ≡ Ok (f, rest)
unfolding field_at
field_again None rest apart = rw apart refl
field_again (Some n) rest apart = rw (name_again wanted.FieldName n rest) refl

-- ---- kinds

abbrev pub KindTaken : List (List ℕ) → List Token → KindItem × List Token → Type 0
KindTaken ds ts x = Spelled ds key.Kind ts x.0.docs (kind_item x.0) x.1

pub kind_takes : (ds : List (List ℕ)) (ts : List Token) (x : KindItem × List Token) → kind_item_at ds ts ≡ Ok x → KindTaken ds ts x
unfolding kind_item_at
kind_takes ds ts x e =
    let a = bind_ok (word_at wanted.KindWord ts) _ x e in
    let b = bind_ok (sign_at 58 a.0.1) _ x a.2 in
    let c = bind_ok (sort_at b.0) _ x b.2 in
    let d = bind_ok (text_at c.0.1) _ x c.2 in
    let f = bind_ok (field_at d.0.1) _ x d.2 in
    let t0 : ts ≡ Word a.0.0 ∷ a.0.1 = word_takes wanted.KindWord ts a.0 a.1 in
    let t1 : a.0.1 ≡ Sign 58 ∷ b.0 = sign_takes (wanted.Sign 58) 58 a.0.1 b.0 b.1 in
    let t2 : b.0 ≡ kind_sort c.0.0 ++ c.0.1 = sort_takes b.0 c.0 c.1 in
    let t3 : c.0.1 ≡ Quoted d.0.0 ∷ d.0.1 = text_takes c.0.1 d.0 d.1 in
    let t4 : d.0.1 ≡ field_name f.0.0 ++ f.0.1 = field_takes d.0.1 f.0 f.1 in
    let made : KindItem × List Token = (record { docs = ds; word = a.0.0; sort = c.0.0; rust = d.0.0; field = f.0.0 }, f.0.1) in
    let tail : b.0 ≡ (kind_sort c.0.0 ++ Quoted d.0.0 ∷ field_name f.0.0) ++ f.0.1 = t2
    ∙ ap (λ (r : List Token). kind_sort c.0.0 ++ r) (t3 ∙ ap (λ (r : List Token). Quoted d.0.0 ∷ r) t4)
    ∙ sym (append_assoc (kind_sort c.0.0) (Quoted d.0.0 ∷ field_name f.0.0) f.0.1) in
    let whole : ts ≡ kind_item made.0 ++ made.1 = t0
    ∙ ap (λ (r : List Token). Word a.0.0 ∷ r) (t1 ∙ ap (λ (r : List Token). Sign 58 ∷ r) tail) in
    subst (KindTaken ds ts) (ok_is made x f.2) (together ds key.Kind ts (kind_item made.0) made.1 whole)

pub kind_within : (ds : List (List ℕ)) → Keeps (kind_item_at ds)
unfolding kind_item_at
kind_within ds ts =
    shorter_bind ts (word_at wanted.KindWord ts) _ (word_within wanted.KindWord ts)
    (λ w. shorter_sign w.1 (sign_at 58 w.1) _ (sign_within (wanted.Sign 58) 58 w.1)
    (λ after. shorter_bind after (sort_at after) _ (sort_within after)
    (λ s. shorter_bind s.1 (text_at s.1) _ (text_within s.1)
    (λ r. shorter_bind r.1 (field_at r.1) _ (field_within r.1) (λ f. omega arith)))))

pub kind_again : (i : KindItem) (rest : List Token) → FieldApart i.field rest
    → kind_item_at i.docs (kind_item i ++ rest) ≡ Ok (i, rest)
unfolding kind_item_at
kind_again i rest apart =
    rw (
      append_assoc (kind_sort i.sort) (Quoted i.rust ∷ field_name i.field) rest,
      sort_again i.sort (Quoted i.rust ∷ (field_name i.field ++ rest)),
      field_again i.field rest apart,
    ) refl

-- ---- what a format stores at a place

designated_by : (ts : List Token) (x : Slot × List Token) (b : Bool) → word_first (codes "value") ts ≡ b
    → cond b (Ok (slots.Designated, drop 1 ts)) (wants wanted.ValueWord ts) ≡ Ok x → Taken slot (Word (codes "designated") ∷ ts) x
designated_by ts x true is e =
    subst (Taken slot (Word (codes "designated") ∷ ts)) (ok_is (slots.Designated, drop 1 ts) x e)
    (ap (λ (r : List Token). Word (codes "designated") ∷ r) (word_is (codes "value") ts is))
designated_by ts x false is e = absurd cc

designated_takes : (ts : List Token) (x : Slot × List Token) → designated_at ts ≡ Ok x → Taken slot (Word (codes "designated") ∷ ts) x
unfolding designated_at
designated_takes ts x e = designated_by ts x (word_first (codes "value") ts) refl e

designated_within_by : (ts : List Token) (b : Bool) → Shorter ts (cond b (Ok (slots.Designated, drop 1 ts)) (wants wanted.ValueWord ts))
designated_within_by ts true = drop_less ts
designated_within_by ts false = omega arith

designated_within : Keeps designated_at
unfolding designated_at
designated_within ts = designated_within_by ts (word_first (codes "value") ts)

slot_by : (w : Wanted) (ts : List Token) (x : Slot × List Token) (p q : Bool) → word_first (codes "value") ts ≡ p
    → word_first (codes "designated") ts ≡ q
    → cond p (Ok (slots.Value, drop 1 ts)) (cond q (designated_at (drop 1 ts)) (word_at w ts >>= λ v. Ok (slots.Kind v.0, v.1))) ≡ Ok x
    → Taken slot ts x
slot_by w ts x true q hp hq e = subst (Taken slot ts) (ok_is (slots.Value, drop 1 ts) x e) (word_is (codes "value") ts hp)
slot_by w ts x false true hp hq e = word_is (codes "designated") ts hq ∙ designated_takes (drop 1 ts) x e
slot_by w ts x false false hp hq e =
    let a = bind_ok (word_at w ts) _ x e in
    subst (Taken slot ts) (ok_is (slots.Kind a.0.0, a.0.1) x a.2) (word_takes w ts a.0 a.1)

pub slot_takes : (w : Wanted) → Takes slot (slot_at w)
unfolding slot_at
slot_takes w ts x e = slot_by w ts x _ _ refl refl e

slot_within_by : (w : Wanted) (ts : List Token) (p q : Bool) → Shorter ts (cond p (Ok (slots.Value, drop 1 ts))
    (cond q (designated_at (drop 1 ts)) (word_at w ts >>= λ v. Ok (slots.Kind v.0, v.1))))
slot_within_by w ts true q = drop_less ts
slot_within_by w ts false true = longer (drop 1 ts) ts (designated_at (drop 1 ts)) (drop_less ts) (designated_within (drop 1 ts))
slot_within_by w ts false false = shorter_bind ts (word_at w ts) _ (word_within w ts) (λ v. omega arith)

slot_within : (w : Wanted) → Keeps (slot_at w)
unfolding slot_at
slot_within w ts = slot_within_by w ts (word_first (codes "value") ts) (word_first (codes "designated") ts)

slot_again : (w : Wanted) (s : Slot) (rest : List Token) → SlotFits s → slot_at w (slot s ++ rest) ≡ Ok (s, rest)
unfolding slot_at designated_at
slot_again w slots.Value rest fit = refl
slot_again w slots.Designated rest fit = refl
slot_again w (slots.Kind v) rest fit = rw (differs v (codes "value") fit.0, differs v (codes "designated") fit.1) refl

slot_some : (s : Slot) → 0 < length (slot s)
slot_some slots.Value = omega arith
slot_some slots.Designated = omega arith
slot_some (slots.Kind w) = omega arith

abbrev AnySlot : Slot → Type 0
AnySlot s = Unit {0}

abbrev SlotEnds : Slot → List Token → Type 0
SlotEnds s ts = Unit {0}

slots_listed : Again slot (slot_at wanted.Slot) layouts.Commas SlotFits SlotEnds
slots_listed = record {
  again = λ s rest fit free. slot_again wanted.Slot s rest fit;
  follows = λ s rest fit. refl;
  parted = λ s u rest. tt;
  opens = λ s rest. refl;
  some = slot_some;
}

-- ---- what a format stores

slots_by : (ts : List Token) (x : List Slot × List Token) (b : Bool) → word_first (codes "none") ts ≡ b
    → cond b (Ok ([], drop 1 ts)) (some_at (slot_at wanted.Slot) layouts.Commas ts) ≡ Ok x → Taken format_slots ts x
slots_by ts x true is e = subst (Taken format_slots ts) (ok_is ([], drop 1 ts) x e) (word_is (codes "none") ts is)
slots_by ts x false is e =
    let s = some_takes slot (slot_at wanted.Slot) layouts.Commas (slot_takes wanted.Slot) ts x e in
    let whole : ts ≡ format_slots (s.0 ∷ s.1) ++ x.1 = s.3 ∙ simp append_assoc in
    whole ∙ ap (λ (ys : List Slot). format_slots ys ++ x.1) (sym s.2)

slots_takes : Takes format_slots slots_at
unfolding slots_at
slots_takes ts x e = slots_by ts x (word_first (codes "none") ts) refl e

slots_within_by : (ts : List Token) (b : Bool) → Shorter ts (cond b (Ok ([], drop 1 ts)) (some_at (slot_at wanted.Slot) layouts.Commas ts))
slots_within_by ts true = drop_less ts
slots_within_by ts false = some_within (slot_at wanted.Slot) layouts.Commas (slot_within wanted.Slot) ts

slots_within : Keeps slots_at
unfolding slots_at
slots_within ts = slots_within_by ts (word_first (codes "none") ts)

not_none : (s : Slot) (rest : List Token) → FirstFits s → word_first (codes "none") (slot s ++ rest) ≡ false
not_none slots.Value rest fit = refl
not_none slots.Designated rest fit = refl
not_none (slots.Kind w) rest fit = differs w (codes "none") fit

slots_again : (ss : List Slot) (rest : List Token) → SlotsFit ss → SlotsApart ss rest
    → slots_at (format_slots ss ++ rest) ≡ Ok (ss, rest)
unfolding slots_at
slots_again [] rest fit apart = refl
slots_again (s ∷ ss) rest fit apart =
    let end_here : Ends layouts.Commas rest = rw apart refl in
    let tail = each_after comma slot ss ++ rest in
    let same : format_slots (s ∷ ss) ++ rest ≡ slot s ++ tail = simp append_assoc in
    let read : slots_at (slot s ++ tail) ≡ Ok (s ∷ ss, rest) =
    rw (not_none s tail fit.0) (some_again slot (slot_at wanted.Slot) layouts.Commas SlotFits SlotEnds slots_listed s ss rest fit.1
    (of_last AnySlot (λ u. tt) (s ∷ ss)) end_here) in
    ap (λ (u : List Token). slots_at u) same ∙ read

-- ---- formats

pub format_takes : Takes format_item format_item_at
unfolding format_item_at
format_takes ts x e =
    let a = bind_ok (word_at wanted.FormatWord ts) _ x e in
    let b = bind_ok (sign_at 58 (comment_at a.0.1).1) _ x a.2 in
    let c = bind_ok (slots_at b.0) _ x b.2 in
    let shown = (comment_at a.0.1).0 in
    let t0 : ts ≡ Word a.0.0 ∷ a.0.1 = word_takes wanted.FormatWord ts a.0 a.1 in
    let t1 : a.0.1 ≡ comment shown ++ (comment_at a.0.1).1 = comment_takes a.0.1 in
    let t2 : (comment_at a.0.1).1 ≡ Sign 58 ∷ b.0 = sign_takes (wanted.Sign 58) 58 (comment_at a.0.1).1 b.0 b.1 in
    let t3 : b.0 ≡ format_slots c.0.0 ++ c.0.1 = slots_takes b.0 c.0 c.1 in
    let made : FormatItem × List Token = (record { word = a.0.0; shown = shown; slots = c.0.0 }, c.0.1) in
    let tail : a.0.1 ≡ (comment shown ++ Sign 58 ∷ format_slots c.0.0) ++ c.0.1 = t1
    ∙ ap (λ (r : List Token). comment shown ++ r) (t2 ∙ ap (λ (r : List Token). Sign 58 ∷ r) t3)
    ∙ sym (append_assoc (comment shown) (Sign 58 ∷ format_slots c.0.0) c.0.1) in
    subst (Taken format_item ts) (ok_is made x c.2) (t0 ∙ ap (λ (r : List Token). Word a.0.0 ∷ r) tail)

pub format_within : Keeps format_item_at
unfolding format_item_at
format_within ts =
    shorter_bind ts (word_at wanted.FormatWord ts) _ (word_within wanted.FormatWord ts)
    (λ w. longer (comment_at w.1).1 w.1 _ (comment_within w.1) (shorter_sign (comment_at w.1).1 (sign_at 58 (comment_at w.1).1) _
    (sign_within (wanted.Sign 58) 58 (comment_at w.1).1)
    (λ after. shorter_bind after (slots_at after) _ (slots_within after) (λ s. omega arith))))

pub format_again : (i : FormatItem) (rest : List Token) → SlotsFit i.slots → SlotsApart i.slots rest
    → format_item_at (format_item i ++ rest) ≡ Ok (i, rest)
unfolding format_item_at
format_again i rest fit apart =
    rw (
      append_assoc (comment i.shown) (Sign 58 ∷ format_slots i.slots) rest,
      comment_again i.shown (Sign 58 ∷ (format_slots i.slots ++ rest)) refl,
      slots_again i.slots rest fit apart,
    ) refl

-- ---- what is left doesn't go on with what is read

field_leaves_by : (ts : List Token) (x : Option Name × List Token) (b : Bool) → word_first (codes "field") ts ≡ b
    → cond b (name_at wanted.FieldName (drop 1 ts) >>= λ n. Ok (Some n.0, n.1)) (Ok (None, ts)) ≡ Ok x → FieldApart x.0 x.1
field_leaves_by ts x true is e =
    let a = bind_ok (name_at wanted.FieldName (drop 1 ts)) _ x e in
    subst (λ (y : Option Name × List Token). FieldApart y.0 y.1) (ok_is (Some a.0.0, a.0.1) x a.2) tt
field_leaves_by ts x false is e = subst (λ (y : Option Name × List Token). FieldApart y.0 y.1) (ok_is (None, ts) x e) is

field_leaves : Leaves FieldApart field_at
unfolding field_at
field_leaves ts x e = field_leaves_by ts x (word_first (codes "field") ts) refl e

pub kind_leaves : (ds : List (List ℕ)) → Leaves (λ i. FieldApart i.field) (kind_item_at ds)
unfolding kind_item_at
kind_leaves ds ts x e =
    let a = bind_ok (word_at wanted.KindWord ts) _ x e in
    let b = bind_ok (sign_at 58 a.0.1) _ x a.2 in
    let c = bind_ok (sort_at b.0) _ x b.2 in
    let d = bind_ok (text_at c.0.1) _ x c.2 in
    let f = bind_ok (field_at d.0.1) _ x d.2 in
    let made : KindItem × List Token = (record { docs = ds; word = a.0.0; sort = c.0.0; rust = d.0.0; field = f.0.0 }, f.0.1) in
    subst (λ (y : KindItem × List Token). FieldApart y.0.field y.1) (ok_is made x f.2) (field_leaves d.0.1 f.0 f.1)

comma_apart : (ss : List Slot) (ts : List Token) → sign_first 44 ts ≡ false → SlotsApart ss ts
comma_apart [] ts h = tt
comma_apart (s ∷ ss) ts h = h

slots_leave_by : (ts : List Token) (x : List Slot × List Token) (b : Bool)
    → cond b (Ok ([], drop 1 ts)) (some_at (slot_at wanted.Slot) layouts.Commas ts) ≡ Ok x → SlotsApart x.0 x.1
slots_leave_by ts x true e = subst (λ (y : List Slot × List Token). SlotsApart y.0 y.1) (ok_is ([], drop 1 ts) x e) tt
slots_leave_by ts x false e =
    comma_apart x.0 x.1 (some_leaves SlotEnds (slot_at wanted.Slot) layouts.Commas refl (λ us y read. tt) ts x e).0

slots_leave : Leaves SlotsApart slots_at
unfolding slots_at
slots_leave ts x e = slots_leave_by ts x (word_first (codes "none") ts) e

pub format_leaves : Leaves (λ i. SlotsApart i.slots) format_item_at
unfolding format_item_at
format_leaves ts x e =
    let a = bind_ok (word_at wanted.FormatWord ts) _ x e in
    let b = bind_ok (sign_at 58 (comment_at a.0.1).1) _ x a.2 in
    let c = bind_ok (slots_at b.0) _ x b.2 in
    let made : FormatItem × List Token = (record { word = a.0.0; shown = (comment_at a.0.1).0; slots = c.0.0 }, c.0.1) in
    subst (λ (y : FormatItem × List Token). SlotsApart y.0.slots y.1) (ok_is made x c.2) (slots_leave b.0 c.0 c.1)
