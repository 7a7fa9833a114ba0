-- Settings: what is read is spelled so, what is spelled so is read, and a fault lies within what is left.
use Rattle.std.proofs.Common.{◌≡◌, ◌∙◌, ℕ, ◌≤◌, ◌<◌, ◌^◌, false, List, [], ◌∷◌, ◌++◌, length, Ok, refl, sym, ap, subst}
use Rattle.std.proofs.Common.{append_assoc, arith}
use Rattle.meta_file_syntax.specs.declared.token.Token.{Token}
use Rattle.meta_file_syntax.specs.declared.token.Token.TheVariants.{Key, Sign}
use Rattle.meta_file_syntax.specs.declared.keyword.Keyword.{Keyword}
use Rattle.meta_file_syntax.specs.declared.keyword.Keyword.TheVariants as key
use Rattle.meta_file_syntax.specs.declared.name.Name.{Name}
use Rattle.meta_file_syntax.specs.declared.name.Name.TheVariants as names
use Rattle.meta_file_syntax.specs.declared.items.BoolItem.{BoolItem}
use Rattle.meta_file_syntax.specs.declared.items.NumItem.{NumItem}
use Rattle.meta_file_syntax.specs.declared.items.EnumItem.{EnumItem}
use Rattle.meta_file_syntax.specs.declared.items.PresetItem.{PresetItem}
use Rattle.meta_file_syntax.specs.Spelling.{docs, name, comment, truth, number, listed, named, bool_item, num_item, enum_item, preset_item}
use Rattle.meta_file_reader.specs.declared.fault.Wanted.{Wanted}
use Rattle.meta_file_reader.specs.declared.fault.Wanted.TheVariants as wanted
use Rattle.meta_file_reader.specs.declared.lists.Layout.TheVariants as layouts
use Rattle.meta_file_reader.specs.Parts.{name_at, sign_at, truth_at, byte_at, comment_at, quoted_first}
use Rattle.meta_file_reader.specs.Lists.{list_at, closes_first}
use Rattle.meta_file_reader.specs.Fits.{Every}
use Rattle.meta_file_reader.specs.Reading.{bool_item_at, num_item_at, enum_item_at, preset_item_at}
use Rattle.meta_file_reader.proofs.PartLaws.{bind_ok, ok_is, shorter_bind, shorter_sign, name_again, name_takes, name_within}
use Rattle.meta_file_reader.proofs.PartLaws.{sign_takes, sign_within, truth_again, truth_takes, truth_within, byte_again, byte_takes}
use Rattle.meta_file_reader.proofs.PartLaws.{byte_within, comment_again, comment_takes, comment_within, comment_less}
use Rattle.meta_file_reader.proofs.ListLaws.{Keeps, list_takes, list_within, Again, list_again}
use Rattle.meta_file_reader.proofs.Ends.{of_last}

-- documentation, a keyword and what comes after it are what an item is spelled as
abbrev pub Spelled : List (List ℕ) → Keyword → List Token → List (List ℕ) → List Token → List Token → Type 0
Spelled before k ts lines body rest = docs before ++ Key k ∷ ts ≡ (docs lines ++ Key k ∷ body) ++ rest

pub together : (ds : List (List ℕ)) (k : Keyword) (ts body rest : List Token) → ts ≡ body ++ rest → Spelled ds k ts ds body rest
together ds k ts body rest e = ap (λ (r : List Token). docs ds ++ Key k ∷ r) e ∙ sym (append_assoc (docs ds) (Key k ∷ body) rest)

-- ---- lists of names

abbrev AnyName : Name → Type 0
AnyName n = Unit {0}

-- whatever comes after
abbrev Always : Name → List Token → Type 0
Always n ts = Unit {0}

every_name : (ns : List Name) → Every AnyName ns
every_name [] = tt
every_name (n ∷ ns) = (tt, every_name ns)

no_close : (n : Name) (rest : List Token) → closes_first layouts.Parentheses (name n ∷ rest) ≡ false
no_close (names.Plain w) rest = refl
no_close (names.Quoted t) rest = refl

pub named_takes : (w : Wanted) (ts : List Token) (x : Name × List Token) → name_at w ts ≡ Ok x → ts ≡ named x.0 ++ x.1
named_takes w ts x e = name_takes w ts x e

names_listed : (w : Wanted) → Again named (name_at w) layouts.Parentheses AnyName Always
names_listed w = record {
  again = λ n rest good free. name_again w n rest;
  follows = λ n rest good. refl;
  parted = λ n m rest. tt;
  opens = λ n rest. no_close n rest;
  some = λ n. omega arith;
}

names_takes : (w : Wanted) (ts : List Token) (x : List Name × List Token) → list_at (name_at w) layouts.Parentheses ts ≡ Ok x
    → ts ≡ listed named x.0 ++ Sign 41 ∷ x.1
names_takes w ts x e = list_takes named (name_at w) layouts.Parentheses (named_takes w) refl ts x e

names_within : (w : Wanted) → Keeps (list_at (name_at w) layouts.Parentheses)
names_within w ts = list_within (name_at w) layouts.Parentheses (name_within w) ts

names_again : (w : Wanted) (ns : List Name) (rest : List Token)
    → list_at (name_at w) layouts.Parentheses (listed named ns ++ Sign 41 ∷ rest) ≡ Ok (ns, rest)
names_again w ns rest =
    list_again named (name_at w) layouts.Parentheses AnyName Always (names_listed w) refl (λ r. refl) (λ r. refl) ns rest
    (every_name ns) (of_last AnyName (λ n. tt) ns) refl

-- ---- booleans

pub bool_again : (i : BoolItem) (rest : List Token) → quoted_first rest ≡ false → bool_item_at i.docs (bool_item i ++ rest) ≡ Ok (i, rest)
unfolding bool_item_at
bool_again i rest h = rw (
  name_again wanted.SettingName i.name (Sign 61 ∷ truth i.default ∷ (comment i.comment ++ rest)),
  truth_again i.default (comment i.comment ++ rest),
  comment_again i.comment rest h,
) refl

-- whatever comes after
pub bool_begins : (i : BoolItem) (rest : List Token) → (x : BoolItem × List Token)
    × (bool_item_at i.docs (bool_item i ++ rest) ≡ Ok x) × (length x.1 ≤ length rest)
unfolding bool_item_at
bool_begins i rest =
    let tail = comment_at (comment i.comment ++ rest) in
    let made : BoolItem × List Token = (record { docs = i.docs; name = i.name; default = i.default; comment = tail.0 }, tail.1) in
    let read : bool_item_at i.docs (bool_item i ++ rest) ≡ Ok made =
    rw (
      name_again wanted.SettingName i.name (Sign 61 ∷ truth i.default ∷ (comment i.comment ++ rest)),
      truth_again i.default (comment i.comment ++ rest),
    ) refl in
    (made, read, comment_less i.comment rest)

abbrev pub BoolTaken : List (List ℕ) → List Token → BoolItem × List Token → Type 0
BoolTaken ds ts x = Spelled ds key.Bool ts x.0.docs (bool_item x.0) x.1

pub bool_takes : (ds : List (List ℕ)) (ts : List Token) (x : BoolItem × List Token) → bool_item_at ds ts ≡ Ok x → BoolTaken ds ts x
unfolding bool_item_at
bool_takes ds ts x e =
    let a = bind_ok (name_at wanted.SettingName ts) _ x e in
    let b = bind_ok (sign_at 61 a.0.1) _ x a.2 in
    let c = bind_ok (truth_at b.0) _ x b.2 in
    let t0 : ts ≡ name a.0.0 ∷ a.0.1 = name_takes wanted.SettingName ts a.0 a.1 in
    let t1 : a.0.1 ≡ Sign 61 ∷ b.0 = sign_takes (wanted.Sign 61) 61 a.0.1 b.0 b.1 in
    let t2 : b.0 ≡ truth c.0.0 ∷ c.0.1 = truth_takes b.0 c.0 c.1 in
    let t3 : c.0.1 ≡ comment (comment_at c.0.1).0 ++ (comment_at c.0.1).1 = comment_takes c.0.1 in
    let made : BoolItem × List Token =
    (record { docs = ds; name = a.0.0; default = c.0.0; comment = (comment_at c.0.1).0 }, (comment_at c.0.1).1) in
    let whole : ts ≡ bool_item made.0 ++ made.1 = t0
    ∙ ap (λ (r : List Token). name a.0.0 ∷ r)
    (t1 ∙ ap (λ (r : List Token). Sign 61 ∷ r) (t2 ∙ ap (λ (r : List Token). truth c.0.0 ∷ r) t3)) in
    subst (BoolTaken ds ts) (ok_is made x c.2) (together ds key.Bool ts (bool_item made.0) made.1 whole)

pub bool_within : (ds : List (List ℕ)) → Keeps (bool_item_at ds)
unfolding bool_item_at
bool_within ds ts =
    shorter_bind ts (name_at wanted.SettingName ts) _ (name_within wanted.SettingName ts)
    (λ n. shorter_sign n.1 (sign_at 61 n.1) _ (sign_within (wanted.Sign 61) 61 n.1)
    (λ after. shorter_bind after
    (truth_at after) _ (truth_within after)
    (λ b. comment_within b.1)))

-- ---- numbers

pub num_again : (i : NumItem) (rest : List Token) → i.default < 2 ^ 8 → quoted_first rest ≡ false
    → num_item_at i.docs (num_item i ++ rest) ≡ Ok (i, rest)
unfolding num_item_at
num_again i rest small h =
    rw (
      name_again wanted.SettingName i.name (Sign 61 ∷ number i.default ∷ (comment i.comment ++ rest)),
      byte_again i.default (comment i.comment ++ rest) small,
      comment_again i.comment rest h,
    ) refl

pub num_begins : (i : NumItem) (rest : List Token) → i.default < 2 ^ 8
    → (x : NumItem × List Token) × (num_item_at i.docs (num_item i ++ rest) ≡ Ok x) × (length x.1 ≤ length rest)
unfolding num_item_at
num_begins i rest small =
    let tail = comment_at (comment i.comment ++ rest) in
    let made : NumItem × List Token = (record { docs = i.docs; name = i.name; default = i.default; comment = tail.0 }, tail.1) in
    let read : num_item_at i.docs (num_item i ++ rest) ≡ Ok made =
    rw (
      name_again wanted.SettingName i.name (Sign 61 ∷ number i.default ∷ (comment i.comment ++ rest)),
      byte_again i.default (comment i.comment ++ rest) small,
    ) refl in
    (made, read, comment_less i.comment rest)

abbrev pub NumTaken : List (List ℕ) → List Token → NumItem × List Token → Type 0
NumTaken ds ts x = Spelled ds key.Num ts x.0.docs (num_item x.0) x.1

pub num_takes : (ds : List (List ℕ)) (ts : List Token) (x : NumItem × List Token) → num_item_at ds ts ≡ Ok x → NumTaken ds ts x
unfolding num_item_at
num_takes ds ts x e =
    let a = bind_ok (name_at wanted.SettingName ts) _ x e in
    let b = bind_ok (sign_at 61 a.0.1) _ x a.2 in
    let c = bind_ok (byte_at b.0) _ x b.2 in
    let t0 : ts ≡ name a.0.0 ∷ a.0.1 = name_takes wanted.SettingName ts a.0 a.1 in
    let t1 : a.0.1 ≡ Sign 61 ∷ b.0 = sign_takes (wanted.Sign 61) 61 a.0.1 b.0 b.1 in
    let t2 : b.0 ≡ number c.0.0 ∷ c.0.1 = byte_takes b.0 c.0 c.1 in
    let t3 : c.0.1 ≡ comment (comment_at c.0.1).0 ++ (comment_at c.0.1).1 = comment_takes c.0.1 in
    let made : NumItem × List Token =
    (record { docs = ds; name = a.0.0; default = c.0.0; comment = (comment_at c.0.1).0 }, (comment_at c.0.1).1) in
    let whole : ts ≡ num_item made.0 ++ made.1 = t0
    ∙ ap (λ (r : List Token). name a.0.0 ∷ r)
    (t1 ∙ ap (λ (r : List Token). Sign 61 ∷ r) (t2 ∙ ap (λ (r : List Token). number c.0.0 ∷ r) t3)) in
    subst (NumTaken ds ts) (ok_is made x c.2) (together ds key.Num ts (num_item made.0) made.1 whole)

pub num_within : (ds : List (List ℕ)) → Keeps (num_item_at ds)
unfolding num_item_at
num_within ds ts =
    shorter_bind ts (name_at wanted.SettingName ts) _ (name_within wanted.SettingName ts)
    (λ n. shorter_sign n.1 (sign_at 61 n.1) _ (sign_within (wanted.Sign 61) 61 n.1)
    (λ after. shorter_bind after (byte_at after) _ (byte_within after)
    (λ b. comment_within b.1)))

-- ---- enums

pub enum_again : (i : EnumItem) (rest : List Token) → quoted_first rest ≡ false → enum_item_at i.docs (enum_item i ++ rest) ≡ Ok (i, rest)
unfolding enum_item_at
enum_again i rest h =
    rw (
      append_assoc (listed named i.values) (Sign 41 ∷ comment i.comment) rest,
      name_again wanted.SettingName i.name (Sign 40 ∷ (listed named i.values ++ Sign 41 ∷ (comment i.comment ++ rest))),
      names_again wanted.Value i.values (comment i.comment ++ rest),
      comment_again i.comment rest h,
    ) refl

pub enum_begins : (i : EnumItem) (rest : List Token) → (x : EnumItem × List Token)
    × (enum_item_at i.docs (enum_item i ++ rest) ≡ Ok x) × (length x.1 ≤ length rest)
unfolding enum_item_at
enum_begins i rest =
    let tail = comment_at (comment i.comment ++ rest) in
    let made : EnumItem × List Token = (record { docs = i.docs; name = i.name; values = i.values; comment = tail.0 }, tail.1) in
    let read : enum_item_at i.docs (enum_item i ++ rest) ≡ Ok made =
    rw (
      append_assoc (listed named i.values) (Sign 41 ∷ comment i.comment) rest,
      name_again wanted.SettingName i.name (Sign 40 ∷ (listed named i.values ++ Sign 41 ∷ (comment i.comment ++ rest))),
      names_again wanted.Value i.values (comment i.comment ++ rest),
    ) refl in
    (made, read, comment_less i.comment rest)

abbrev pub EnumTaken : List (List ℕ) → List Token → EnumItem × List Token → Type 0
EnumTaken ds ts x = Spelled ds key.Enum ts x.0.docs (enum_item x.0) x.1

pub enum_takes : (ds : List (List ℕ)) (ts : List Token) (x : EnumItem × List Token) → enum_item_at ds ts ≡ Ok x → EnumTaken ds ts x
unfolding enum_item_at
enum_takes ds ts x e =
    let a = bind_ok (name_at wanted.SettingName ts) _ x e in
    let b = bind_ok (sign_at 40 a.0.1) _ x a.2 in
    let c = bind_ok (list_at (name_at wanted.Value) layouts.Parentheses b.0) _ x b.2 in
    let t0 : ts ≡ name a.0.0 ∷ a.0.1 = name_takes wanted.SettingName ts a.0 a.1 in
    let t1 : a.0.1 ≡ Sign 40 ∷ b.0 = sign_takes (wanted.Sign 40) 40 a.0.1 b.0 b.1 in
    let t2 : b.0 ≡ listed named c.0.0 ++ Sign 41 ∷ c.0.1 = names_takes wanted.Value b.0 c.0 c.1 in
    let t3 : c.0.1 ≡ comment (comment_at c.0.1).0 ++ (comment_at c.0.1).1 = comment_takes c.0.1 in
    let made : EnumItem × List Token =
    (record { docs = ds; name = a.0.0; values = c.0.0; comment = (comment_at c.0.1).0 }, (comment_at c.0.1).1) in
    let tail : b.0 ≡ (listed named c.0.0 ++ Sign 41 ∷ comment (comment_at c.0.1).0) ++ (comment_at c.0.1).1 = t2
    ∙ (ap (λ (r : List Token). listed named c.0.0 ++ Sign 41 ∷ r) t3
    ∙ sym (append_assoc (listed named c.0.0) (Sign 41 ∷ comment (comment_at c.0.1).0) (comment_at c.0.1).1)) in
    let whole : ts ≡ enum_item made.0 ++ made.1 = t0
    ∙ ap (λ (r : List Token). name a.0.0 ∷ r) (t1 ∙ ap (λ (r : List Token). Sign 40 ∷ r) tail) in
    subst (EnumTaken ds ts) (ok_is made x c.2) (together ds key.Enum ts (enum_item made.0) made.1 whole)

pub enum_within : (ds : List (List ℕ)) → Keeps (enum_item_at ds)
unfolding enum_item_at
enum_within ds ts =
    shorter_bind ts (name_at wanted.SettingName ts) _ (name_within wanted.SettingName ts)
    (λ n. shorter_sign n.1 (sign_at 40 n.1) _ (sign_within (wanted.Sign 40) 40 n.1)
    (λ after. shorter_bind after (list_at (name_at wanted.Value) layouts.Parentheses after) _
    (names_within wanted.Value after)
    (λ vs. comment_within vs.1)))

-- ---- presets

pub preset_again : (i : PresetItem) (rest : List Token) → preset_item_at i.docs (preset_item i ++ rest) ≡ Ok (i, rest)
unfolding preset_item_at
preset_again i rest = rw (
  append_assoc (listed named i.args) (Sign 41 ∷ []) rest,
  name_again wanted.PresetName i.name (Sign 40 ∷ (listed named i.args ++ Sign 41 ∷ rest)),
  names_again wanted.Argument i.args rest,
) refl

abbrev pub PresetTaken : List (List ℕ) → List Token → PresetItem × List Token → Type 0
PresetTaken ds ts x = Spelled ds key.Preset ts x.0.docs (preset_item x.0) x.1

pub preset_takes : (ds : List (List ℕ)) (ts : List Token) (x : PresetItem × List Token) → preset_item_at ds ts ≡ Ok x → PresetTaken ds ts x
unfolding preset_item_at
preset_takes ds ts x e =
    let a = bind_ok (name_at wanted.PresetName ts) _ x e in
    let b = bind_ok (sign_at 40 a.0.1) _ x a.2 in
    let c = bind_ok (list_at (name_at wanted.Argument) layouts.Parentheses b.0) _ x b.2 in
    let t0 : ts ≡ name a.0.0 ∷ a.0.1 = name_takes wanted.PresetName ts a.0 a.1 in
    let t1 : a.0.1 ≡ Sign 40 ∷ b.0 = sign_takes (wanted.Sign 40) 40 a.0.1 b.0 b.1 in
    let t2 : b.0 ≡ listed named c.0.0 ++ Sign 41 ∷ c.0.1 = names_takes wanted.Argument b.0 c.0 c.1 in
    let made : PresetItem × List Token = (record { docs = ds; name = a.0.0; args = c.0.0 }, c.0.1) in
    let whole : ts ≡ preset_item made.0 ++ made.1 = t0
    ∙ ap (λ (r : List Token). name a.0.0 ∷ r) (t1 ∙ ap (λ (r : List Token). Sign 40 ∷ r) (t2
    ∙ sym (append_assoc (listed named c.0.0) (Sign 41 ∷ []) c.0.1))) in
    subst (PresetTaken ds ts) (ok_is made x c.2) (together ds key.Preset ts (preset_item made.0) made.1 whole)

pub preset_within : (ds : List (List ℕ)) → Keeps (preset_item_at ds)
unfolding preset_item_at
preset_within ds ts =
    shorter_bind ts (name_at wanted.PresetName ts) _ (name_within wanted.PresetName ts)
    (λ n. shorter_sign n.1 (sign_at 40 n.1) _ (sign_within (wanted.Sign 40) 40 n.1)
    (λ after. shorter_bind after (list_at (name_at wanted.Argument) layouts.Parentheses after) _
    (names_within wanted.Argument after)
    (λ args. omega arith)))
