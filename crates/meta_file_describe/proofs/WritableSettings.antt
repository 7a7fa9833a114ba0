-- The tokens of groups of settings can be written.
use Rattle.std.proofs.Common.{◌≡◌, ℕ, zero, suc, ◌<◌, ◌≤◌, ◌/◌, ◌%◌, Bool, true, false, cond, List, [], ◌∷◌, ◌++◌, map}
use Rattle.std.proofs.Common.{length, Option, Some, None, All, inl, inr, refl, sym, subst, arith}
use Rattle.std.specs.Prelude.{◌==◌, is_none, codes, unwrap_or, option_map}
use Rattle.std.specs.Fmt.{decimal, digits, digits_onto, digit_glyph}
use Rattle.std.specs.Str.{IsUtf8}
use Rattle.std.proofs.lemmas.Bool.{and_parts}
use Rattle.std.proofs.lemmas.Bool.Decides.{nat_tests}
use Rattle.std.proofs.lemmas.List.Elements.{All-cons, All-head, All-tail, All-append, All-map, All-weaker, All-drop, All-nil}
use Rattle.std.proofs.lemmas.Option.{slice_get_cases}
use Rattle.meta_types.specs.Name.{IsName}
use Rattle.meta_file_syntax.specs.declared.token.Token.{Token}
use Rattle.meta_file_syntax.specs.declared.keyword.Keyword.{Keyword}
use Rattle.meta_file_syntax.specs.Keywords.{keyword_of}
use Rattle.meta_file_syntax.specs.Laid.{AreWordBytes, IsWord, CanWrite, CanWriteAll}
use Rattle.meta_file_syntax.specs.declared.name.Name.TheVariants as names
use Rattle.meta_file_syntax.specs.declared.items.Item.{Item}
use Rattle.meta_file_syntax.specs.Spelling.{docs, name, comment, truth, each_after, comma, listed, named, spelled, spelled_all}
use Rattle.meta_settings.specs.declared.setting.SpecificSetting.{SpecificSetting}
use Rattle.meta_settings.specs.declared.setting.SpecificSetting.TheVariants as specific
use Rattle.meta_settings.specs.GroupFaults.{IsPlainByte}
use Rattle.meta_settings.specs.Layout.{PlacedSetting, BuiltPreset, Layout, booleans_in}
use Rattle.meta_settings.specs.PresetLayout.{boolean_name, names_turned_on}
use Rattle.meta_lists.proofs.Everywhere.{at_place}
use Rattle.meta_file_describe.specs.Wording.{are_word_bytes, is_plain_word, name_for, doc_lines}
use Rattle.meta_file_describe.specs.SettingItems.{comment_for, item_as, item_of_setting, item_of_preset, items_of_group, items_of_groups}
use Rattle.meta_file_describe.proofs.Sayable.{values_in, IsSayableSetting, IsSayablePreset, IsSayable}
use Rattle.meta_file_describe.proofs.Wording.{is_word}
use Rattle.meta_file_describe.proofs.PlainTexts.{name_utf8, plain_utf8, plain_lines, plain_line_bytes}

-- ---- parts of items

both_written : (a b : List Token) → CanWriteAll a → CanWriteAll b → CanWriteAll (a ++ b)
both_written [] b h g = g
both_written (t ∷ ts) b h g = (h.0, both_written ts b h.1 g)

none_is : (k : Option Keyword) → is_none k ≡ true → k ≡ None
none_is None e = refl
none_is (Some k) e = absurd cc

name_by : (w : List ℕ) (b : Bool) → is_plain_word w ≡ b → IsUtf8 w → CanWrite (name (cond b (names.Plain w) (names.Quoted w)))
name_by w true is u =
    let parts = and_parts (are_word_bytes w) (is_none (keyword_of w)) is in
    is_word w parts.0 (none_is (keyword_of w) parts.1)
name_by w false is u = u

-- the name that a text is can be written
pub can_name : (w : List ℕ) → IsUtf8 w → CanWrite (name (name_for w))
can_name w u = name_by w (is_plain_word w) refl u

can_docs : (text : List ℕ) → All IsPlainByte text → CanWriteAll (docs (doc_lines text))
can_docs [] all = tt
can_docs (c ∷ cs) all = subst (λ (ls : List (List ℕ)). CanWriteAll (docs ls)) (sym (plain_lines (c ∷ cs) all))
    ((plain_line_bytes (c ∷ cs) all, plain_utf8 (c ∷ cs) all), tt)

can_comment : (text : List ℕ) → IsUtf8 text → CanWriteAll (comment (comment_for text))
can_comment [] u = tt
can_comment (c ∷ cs) u = (u, tt)

can_more : (ws : List (List ℕ)) → All IsName ws → CanWriteAll (each_after comma named (map name_for ws))
can_more [] all = tt
can_more (w ∷ ws) all =
    (inr (inr (inl refl)), (can_name w (name_utf8 w (All-head IsName w ws all)), can_more ws (All-tail IsName w ws all)))

can_listed : (ws : List (List ℕ)) → All IsName ws → CanWriteAll (listed named (map name_for ws))
can_listed [] all = tt
can_listed (w ∷ ws) all = (can_name w (name_utf8 w (All-head IsName w ws all)), can_more ws (All-tail IsName w ws all))

can_truth : (b : Bool) → CanWrite (truth b)
unfolding keyword_of
can_truth true = record { first = 116; more = codes "rue"; is = refl; bytes = (refl, (refl, (refl, (refl, tt)))); free = refl }
can_truth false = record { first = 102; more = codes "alse"; is = refl; bytes = (refl, (refl, (refl, (refl, (refl, tt))))); free = refl }

-- ---- numbers, however large

abbrev IsDigit : ℕ → Type 0
IsDigit c = (48 ≤ c) × (c ≤ 57)

abbrev AreDigits : List ℕ → Type 0
AreDigits [] = Unit {0}
AreDigits (c ∷ cs) = IsDigit c × AreDigits cs

-- one digit and more
abbrev AreSomeDigits : List ℕ → Type 0
AreSomeDigits [] = ⊥
AreSomeDigits (c ∷ cs) = IsDigit c × AreDigits cs

some_are : (cs : List ℕ) → AreSomeDigits cs → AreDigits cs
some_are [] some = tt
some_are (c ∷ cs) some = some

glyph_is : (n : ℕ) → IsDigit (digit_glyph false (n % 10))
glyph_is n = let small : n % 10 < 10 = omega arith in grind (arith, nat_tests)

digits_by : (b : Bool) (one more : List ℕ) → AreSomeDigits one → AreSomeDigits more → AreSomeDigits (cond b one more)
digits_by true one more h g = h
digits_by false one more h g = g

some_digits : (k n : ℕ) (acc : List ℕ) → AreSomeDigits acc → AreSomeDigits (digits_onto k 10 false n acc)
some_digits zero n acc some = some
some_digits (suc k) n acc some =
    digits_by (n / 10 == 0) _ _ (glyph_is n, some_are acc some) (some_digits k (n / 10) _ (glyph_is n, some_are acc some))

decimal_digits : (n : ℕ) → AreSomeDigits (decimal n)
unfolding digits
decimal_digits n = digits_by (n / 10 == 0) _ _ (glyph_is n, tt) (some_digits 63 (n / 10) _ (glyph_is n, tt))

digit_bytes : (cs : List ℕ) → AreDigits cs → AreWordBytes cs
digit_bytes [] are = tt
digit_bytes (c ∷ cs) are = (grind (arith, nat_tests, are.0), digit_bytes cs are.1)

digit_other : (c k : ℕ) → IsDigit c → 57 < k → (c == k) ≡ false
digit_other c k is over = grind (arith, nat_tests)

-- no keyword begins with a digit
no_keyword : (c : ℕ) (cs : List ℕ) → IsDigit c → keyword_of (c ∷ cs) ≡ None
unfolding keyword_of
no_keyword c cs is = rw (
  digit_other c 116 is (omega arith),
  digit_other c 107 is (omega arith),
  digit_other c 102 is (omega arith),
  digit_other c 105 is (omega arith),
  digit_other c 103 is (omega arith),
  digit_other c 98 is (omega arith),
  digit_other c 110 is (omega arith),
  digit_other c 101 is (omega arith),
  digit_other c 112 is (omega arith),
) refl

digits_word : (w : List ℕ) → AreSomeDigits w → IsWord w
digits_word [] some = absurd some
digits_word (c ∷ cs) some = record {
  first = c;
  more = cs;
  is = refl;
  bytes = digit_bytes (c ∷ cs) some;
  free = no_keyword c cs some.0;
}

can_number : (n : ℕ) → IsWord (decimal n)
can_number n = digits_word (decimal n) (decimal_digits n)

-- ---- items

abbrev CanSpell : Item → Type 0
CanSpell i = CanWriteAll (spelled i)

can_as : (s : PlacedSetting) (x : SpecificSetting) → IsName s.name → All IsPlainByte s.description → All IsName (values_in x)
    → IsUtf8 s.comment → CanSpell (item_as s x)
can_as s (specific.Bool b) n d v u = both_written (docs (doc_lines s.description)) _ (can_docs s.description d)
    (tt, (can_name s.name (name_utf8 s.name n), (inl refl, (can_truth b.default, can_comment s.comment u))))
can_as s (specific.Enum values) n d v u = both_written (docs (doc_lines s.description)) _ (can_docs s.description d) (
  tt,
  (
    can_name s.name (name_utf8 s.name n),
    (
      inr (inr (inr (inl refl))),
      both_written (listed named (map name_for values)) _ (can_listed values v)
          (inr (inr (inr (inr (inl refl)))), can_comment s.comment u),
    ),
  ),
)
can_as s (specific.Num default) n d v u = both_written (docs (doc_lines s.description)) _ (can_docs s.description d)
    (tt, (can_name s.name (name_utf8 s.name n), (inl refl, (can_number default, can_comment s.comment u))))

can_setting : (s : PlacedSetting) → IsSayableSetting s → CanSpell (item_of_setting s)
can_setting s h = can_as s s.specific h.name h.description h.values h.comment

named_boolean : (bs : List PlacedSetting) (b : ℕ) → All (λ s. IsName s.name) bs → b < length bs → IsName (boolean_name bs b)
named_boolean bs b all lt = elim (slice_get_cases bs b).1 [
  | inl h ↦ subst (λ (o : Option PlacedSetting). IsName (unwrap_or (option_map (λ s. s.name) o) [])) (sym h.2)
      (at_place (λ s. IsName s.name) bs b h.0 all h.2)
  | inr h ↦ let past = h.0 in absurd (omega arith)
]

-- what a preset turns on has names
pub turned_on_named : (g : Layout) (p : BuiltPreset) → All IsSayableSetting g.settings → All (λ b. b < length (booleans_in g)) p.booleans
    → All IsName (names_turned_on g p)
turned_on_named g p all has = All-map IsName (boolean_name (booleans_in g)) p.booleans
    (All-weaker (λ b. b < length (booleans_in g)) (λ b. IsName (boolean_name (booleans_in g) b))
    (λ b lt. named_boolean (booleans_in g) b
    (All-weaker IsSayableSetting (λ s. IsName s.name) (λ s h. h.name) (booleans_in g)
    (All-drop IsSayableSetting g.bool_start_byte_offset g.settings all))
    lt)
    p.booleans has)

can_preset : (g : Layout) (p : BuiltPreset) → All IsSayableSetting g.settings → IsSayablePreset (length (booleans_in g)) p
    → CanSpell (item_of_preset g p)
can_preset g p all h = both_written (docs (doc_lines p.description)) _ (can_docs p.description h.description) (
  tt,
  (
    can_name p.name (name_utf8 p.name h.name),
    (
      inr (inr (inr (inl refl))),
      both_written (listed named (map name_for (names_turned_on g p))) _
          (can_listed (names_turned_on g p) (turned_on_named g p all h.there))
          (inr (inr (inr (inr (inl refl)))), tt),
    ),
  ),
)

-- ---- groups

each_spelled : (g : Layout) → IsSayable g → All CanSpell (items_of_group g)
each_spelled g h = All-cons CanSpell _ _ (tt, (can_name g.name (name_utf8 g.name h.name), tt))
    (All-append CanSpell (map item_of_setting g.settings) (map (item_of_preset g) g.presets)
    (All-map CanSpell item_of_setting g.settings
    (All-weaker IsSayableSetting (λ s. CanSpell (item_of_setting s)) can_setting g.settings h.settings))
    (All-map CanSpell (item_of_preset g) g.presets
    (All-weaker (IsSayablePreset (length (booleans_in g))) (λ p. CanSpell (item_of_preset g p))
    (λ p is. can_preset g p h.settings is) g.presets h.presets)))

all_spelled : (gs : List Layout) → All IsSayable gs → All CanSpell (items_of_groups gs)
all_spelled [] all = All-nil CanSpell
all_spelled (g ∷ gs) all = All-append CanSpell (items_of_group g) (items_of_groups gs) (each_spelled g (All-head IsSayable g gs all))
    (all_spelled gs (All-tail IsSayable g gs all))

all_written : (items : List Item) → All CanSpell items → CanWriteAll (spelled_all items)
all_written [] all = tt
all_written (i ∷ is) all =
    both_written (spelled i) (spelled_all is) (All-head CanSpell i is all) (all_written is (All-tail CanSpell i is all))

-- the items of groups whose texts can be said can be written
pub can_write : (gs : List Layout) → All IsSayable gs → CanWriteAll (spelled_all (items_of_groups gs))
can_write gs all = all_written (items_of_groups gs) (all_spelled gs all)
