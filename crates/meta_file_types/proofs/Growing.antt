-- What is kept of words and of plain types, where a registry grows.
use Rattle.std.proofs.Common.{◌≡◌, ◌∙◌, ℕ, Bool, true, false, cond, List, [], ◌∷◌, ◌++◌, length, slice_get, sym, ap, subst, refl, inl, inr}
use Rattle.std.specs.Prelude.{Option, Some, None, Contains, ◌⊎◌}
use Rattle.std.specs.Option.{option_or}
use Rattle.std.specs.Cmp.Lexicographic.{bytes_decides}
use Rattle.std.proofs.lemmas.List.Elements.{Contains-append_left, Contains-push, Contains-push_cases}
use Rattle.std.proofs.lemmas.List.Folds.{find-append}
use Rattle.meta_lists.proofs.Pushed.{get_pushed, get_end}
use Rattle.meta_types.specs.TypeParts.{TypeParts}
use Rattle.meta_types.specs.ValueTypes.{type_parts_of}
use Rattle.meta_typevar.specs.declared.content.TypeVarContent.{TypeVarContent}
use Rattle.meta_file_types.specs.declared.plain.PlainRoot.{PlainRoot}
use Rattle.meta_file_types.specs.declared.words.Word.{Word}
use Rattle.meta_file_types.specs.declared.words.Meaning.{Meaning}
use Rattle.meta_file_types.specs.declared.words.Meaning.TheVariants as meanings
use Rattle.meta_file_types.specs.declared.words.Words.{Words}
use Rattle.meta_file_types.specs.Plain.{same_word}
use Rattle.meta_file_types.specs.Meant.{Sense, TypeSense, KindSense, Plain, MeantRoot}
use Rattle.meta_file_types.specs.Symbols.{Symbol, symbol}
use Rattle.meta_file_types.specs.Words.{Entry, entry_of}
use Rattle.meta_file_types.specs.Registered.{Registered, IsNumberOf, IsRegistryOf, Extends}
use Rattle.meta_file_types.specs.Held.{StandsFor, word_at, IsMeaningIn, IsEntryIn, IsWordIn, ArePlain, HoldsIn}
use Rattle.meta_file_types.proofs.Staying.{number_stays, type_stays, kind_stays}
use Rattle.meta_file_types.proofs.Registry.{with_one, extends_one}

-- ---- words

meaning_stays : (old new : Registered) (s : Sense) (w : Meaning) → Extends old new → IsMeaningIn old s w → IsMeaningIn new s w
meaning_stays old new (TypeSense m) (meanings.Type n) e h = type_stays old new m n e h
meaning_stays old new (TypeSense m) (meanings.Kind kind) e h = h
meaning_stays old new (KindSense k) (meanings.Type n) e h = h
meaning_stays old new (KindSense k) (meanings.Kind kind) e h = kind_stays old new k kind e h

pub word_stays : (old new : Registered) → Extends old new → (o : Option Entry) (w : Option Word) → IsWordIn old o w → IsWordIn new o w
word_stays old new e None None h = h
word_stays old new e None (Some w) h = h
word_stays old new e (Some o) None h = h
word_stays old new e (Some o) (Some w) h = record { place = h.place; meaning = meaning_stays old new o.sense w.meaning e h.meaning }

or_none : (o : Option Entry) → option_or o None ≡ o
or_none None = refl
or_none (Some e) = refl

-- what stands for a word where one more is there
word_more : (r : Registered) (entries : List Entry) (e : Entry) (words : Words) (kept : Word) (w : List ℕ) → IsEntryIn r e kept
    → entry_of entries e.word ≡ None → IsWordIn r (entry_of entries w) (word_at words w)
    → IsWordIn r (entry_of (entries ++ e ∷ []) w) (cond (same_word w e.word) (Some kept) (word_at words w))
word_more r entries e words kept w is none h =
    subst (λ (o : Option Entry). IsWordIn r o (cond (same_word w e.word) (Some kept) (word_at words w)))
    (sym (find-append (λ (x : Entry). same_word w x.word) entries (e ∷ []))) (by (same_word w e.word) refl)
  where
    by : (b : Bool) → same_word w e.word ≡ b
        → IsWordIn r (option_or (entry_of entries w) (cond b (Some e) None)) (cond b (Some kept) (word_at words w))
    by false t = subst (λ (o : Option Entry). IsWordIn r o (word_at words w)) (sym (or_none (entry_of entries w))) h
    by true t =
        let same : w ≡ e.word = (bytes_decides w e.word).0 t in
        subst (λ (o : Option Entry). IsWordIn r (option_or o (Some e)) (Some kept))
        (sym (ap (entry_of entries) same ∙ none)) is

pub word_held : (r : Registered) (plain : List PlainRoot) (roots : List MeantRoot) (entries : List Entry) (e : Entry) (old new : Words)
    (kept : Word) → HoldsIn r plain old roots entries → IsEntryIn r e kept → entry_of entries e.word ≡ None
    → ((w : List ℕ) → word_at new w ≡ cond (same_word w e.word) (Some kept) (word_at old w))
    → HoldsIn r plain new roots (entries ++ e ∷ [])
word_held r plain roots entries e old new kept h is none at = record {
  registry = h.registry;
  plain_are = h.plain_are;
  words_are = λ w. subst (IsWordIn r (entry_of (entries ++ e ∷ []) w)) (sym (at w)) (word_more r entries e old kept w is none
      (h.words_are w));
}

-- ---- plain types

-- where something else is added
pub plain_other : (r : Registered) (plain : List PlainRoot) (c : TypeVarContent) (s : Symbol) → ArePlain r plain
    → ((t : TypeParts) → s ≡ symbol (Plain t) [] → ⊥) → ArePlain (with_one r c s) plain
plain_other r plain c s h other = record {
  numbered = λ t n at. number_stays r (with_one r c s) (extends_one r c s) (symbol (Plain t) []) n (h.numbered t n at);
  kept = λ t n at. by t n (get_pushed r.symbols s n (symbol (Plain t) []) at);
}
  where
    by : (t : TypeParts) (n : ℕ) → ((slice_get r.symbols n ≡ Some (symbol (Plain t) [])) ⊎ ((n ≡ length r.symbols) × (s
        ≡ symbol (Plain t) [])))
        → StandsFor plain t n
    by t n (inl at) = h.kept t n at
    by t n (inr e) = absurd (other t e.1)

same_plain : (t u : TypeParts) → symbol (Plain t) [] ≡ symbol (Plain u) [] → t ≡ u
same_plain t u e = let roots : Plain t ≡ Plain u = ap (λ (s : Symbol). s.root) e in cc

-- where a plain type is added
module _ (r : Registered) (roots : List MeantRoot) (plain : List PlainRoot) (c : TypeVarContent) (p : PlainRoot) (h : ArePlain r plain)
    (registry : IsRegistryOf r roots) (next : p.variable ≡ length r.vars) where
  abbrev added : Registered
  added = with_one r c (symbol (Plain (type_parts_of p.value_type)) [])

  numbered_by : (u : TypeParts) (n : ℕ) (s : StandsFor (plain ++ p ∷ []) u n) → (Contains plain s.entry ⊎ (p ≡ s.entry))
      → IsNumberOf added (symbol (Plain u) []) n
  numbered_by u n s (inl among) =
      number_stays r added (extends_one r c (symbol (Plain (type_parts_of p.value_type)) [])) (symbol (Plain u) []) n
      (h.numbered u n (record { entry = s.entry; among = among; type_is = s.type_is; number_is = s.number_is }))
  numbered_by u n s (inr e) =
      let type_is : type_parts_of p.value_type ≡ u = ap (λ (x : PlainRoot). type_parts_of x.value_type) e ∙ s.type_is in
      let number : n ≡ length r.symbols = sym s.number_is ∙ (sym (ap (λ (x : PlainRoot). x.variable) e) ∙ (next ∙ registry.count)) in
      ap (slice_get (r.symbols ++ symbol (Plain (type_parts_of p.value_type)) [] ∷ [])) number
      ∙ (get_end r.symbols (symbol (Plain (type_parts_of p.value_type)) [])
      ∙ ap (λ (t : TypeParts). Some (symbol (Plain t) [])) type_is)

  kept_by : (u : TypeParts) (n : ℕ)
      → ((slice_get r.symbols n ≡ Some (symbol (Plain u) []))
      ⊎ ((n ≡ length r.symbols) × (symbol (Plain (type_parts_of p.value_type)) [] ≡ symbol (Plain u) [])))
      → StandsFor (plain ++ p ∷ []) u n
  kept_by u n (inl at) =
      let s = h.kept u n at in
      record {
        entry = s.entry;
        among = Contains-append_left plain (p ∷ []) s.entry s.among;
        type_is = s.type_is;
        number_is = s.number_is;
      }
  kept_by u n (inr e) = record {
    entry = p;
    among = Contains-push plain p;
    type_is = same_plain (type_parts_of p.value_type) u e.1;
    number_is = next ∙ (registry.count ∙ sym e.0);
  }

  pub plain_more : ArePlain added (plain ++ p ∷ [])
  plain_more = record {
    numbered = λ u n s. numbered_by u n s (Contains-push_cases plain p s.entry s.among);
    kept = λ u n at. kept_by u n (get_pushed r.symbols (symbol (Plain (type_parts_of p.value_type)) []) n (symbol (Plain u) []) at);
  }
