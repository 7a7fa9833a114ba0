-- What a word stands for.
use Rattle.std.proofs.Common.{◌≡◌, ◌≢◌, ◌∙◌, ℕ, List, [], ◌∷◌, sym, ap, refl, Bool, true, false, cond, ⊎_elim}
use Rattle.std.specs.Prelude.{Option, Some, None, Contains, option_map, Err, IfSome, IfNone, ◌↔◌}
use Rattle.std.specs.List.{find}
use Rattle.std.specs.Option.{option_or}
use Rattle.std.specs.Cmp.Lexicographic.{bytes_decides}
use Rattle.std.proofs.lemmas.Bool.{false≢true}
use Rattle.meta_lists.proofs.Contained.{contains_first, contains_after, contains_cases, contains_none}
use Rattle.meta_types.specs.AllTypes.{all_types}
use Rattle.meta_types.specs.TypeParts.{TypeParts, IsType, name_of}
use Rattle.meta_types.specs.ValueTypes.{type_parts_of}
use Rattle.meta_types.specs.declared.value_type.ValueType.{ValueType}
use Rattle.meta_file_types.specs.declared.refused.Reason.TheVariants.{Unknown, NoType}
use Rattle.meta_file_types.specs.declared.given.GivenKind.{GivenKind}
use Rattle.meta_file_types.specs.Plain.{same_word, plain_type, given_kind}
use Rattle.meta_file_types.specs.Meant.{Sense, TypeSense, KindSense, plain, kind_given}
use Rattle.meta_file_types.specs.declared.words.Word.{Word}
use Rattle.meta_file_types.specs.Telling.{Tells}
use Rattle.meta_file_types.specs.Registered.{Registered, IsTypeIn}
use Rattle.meta_file_types.specs.Held.{type_kept, IsWordIn}
use Rattle.meta_file_types.proofs.Told.{tells_by, type_of_word, no_type_of_word}
use Rattle.meta_file_types.specs.Words.{Entry, entry_of, sense_of, type_in, type_named}

-- ---- the one that passes

find_one : {X : Type 0} (p : X → Bool) (xs : List X) (x : X) → Contains xs x → p x ≡ true
    → ((y : X) → Contains xs y → p y ≡ true → y ≡ x) → find p xs ≡ Some x
find_one {X} p [] x c t one = absurd (contains_none x c)
find_one {X} p (y ∷ ys) x c t one =
    by (p y) refl (λ there. find_one p ys x there t (λ z there passes. one z (contains_after y z ys there) passes))
  where
    by : (b : Bool) → p y ≡ b → (Contains ys x → find p ys ≡ Some x) → cond b (Some y) (find p ys) ≡ Some x
    by true e more = ap (λ (z : X). Some z) (one y (contains_first y ys) e)
    by false e more =
        more (⊎_elim (λ same. absurd (false≢true (sym e ∙ ap p same ∙ t))) (λ c. c) (contains_cases y x ys c))

find_none : {X : Type 0} (p : X → Bool) (xs : List X) → ((y : X) → Contains xs y → p y ≡ true → ⊥) → find p xs ≡ None
find_none {X} p [] none = refl
find_none {X} p (y ∷ ys) none = by (p y) refl (find_none p ys (λ z there passes. none z (contains_after y z ys there) passes))
  where
    by : (b : Bool) → p y ≡ b → find p ys ≡ None → cond b (Some y) (find p ys) ≡ None
    by true e more = absurd (none y (contains_first y ys) e)
    by false e more = more

-- ---- plain types

-- what each type and each name is, as the laws on types tell it
abbrev Listed : Type 0
Listed = (t : TypeParts) → (IsType t ↔ Contains all_types t)

abbrev AreNamedOnce : Type 0
AreNamedOnce = (a b : TypeParts) → IsType a → IsType b → name_of a ≡ name_of b → a ≡ b

abbrev AreTypes : Type 0
AreTypes = (t : ValueType) → IsType (type_parts_of t)

found : Listed → AreNamedOnce → AreTypes → (w : List ℕ) (v : ValueType) → name_of (type_parts_of v) ≡ w
    → plain_type w ≡ Some (type_parts_of v)
unfolding plain_type
found listed one typed w v e =
    find_one (λ (t : TypeParts). same_word (name_of t) w) all_types (type_parts_of v) ((listed (type_parts_of v)).0 (typed v))
    ((bytes_decides (name_of (type_parts_of v)) w).1 e)
    (λ u there passes. one u (type_parts_of v) ((listed u).1 there) (typed v) ((bytes_decides (name_of u) w).0 passes ∙ sym e))

missing : Listed → (w : List ℕ) → ((t : TypeParts) → IsType t → name_of t ≢ w) → plain_type w ≡ None
unfolding plain_type
missing listed w none =
    find_none (λ (t : TypeParts). same_word (name_of t) w) all_types
    (λ u there passes. none u ((listed u).1 there) ((bytes_decides (name_of u) w).0 passes))

-- of the type that was parsed, if one was
pub plain_found : Listed → AreNamedOnce → AreTypes → (w : List ℕ) (o : Option ValueType) → IfSome o (λ v. name_of (type_parts_of v) ≡ w)
    → IfSome o (λ v. plain_type w ≡ Some (type_parts_of v))
plain_found listed one typed w None h = tt
plain_found listed one typed w (Some v) h = found listed one typed w v h

pub plain_none : Listed → (w : List ℕ) (o : Option ValueType) → IfNone o ((t : TypeParts) → IsType t → name_of t ≢ w)
    → IfNone o (plain_type w ≡ None)
plain_none listed w None h = missing listed w h
plain_none listed w (Some v) h = tt

-- ---- what a word stands for, by what it is

pub sense_plain : (entries : List Entry) (w : List ℕ) (t : TypeParts) → plain_type w ≡ Some t
    → sense_of entries w ≡ Some (TypeSense (plain t))
sense_plain entries w t e =
    ap (λ (o : Option TypeParts). option_or (option_map (λ t. TypeSense (plain t)) o)
    (option_or (option_map (λ k. KindSense (kind_given k)) (given_kind w)) (option_map (λ e. e.sense) (entry_of entries w)))) e

pub sense_given : (entries : List Entry) (w : List ℕ) (k : GivenKind) → plain_type w ≡ None → given_kind w ≡ Some k
    → sense_of entries w ≡ Some (KindSense (kind_given k))
sense_given entries w k n e =
    ap (λ (o : Option TypeParts). option_or (option_map (λ t. TypeSense (plain t)) o)
    (option_or (option_map (λ k. KindSense (kind_given k)) (given_kind w)) (option_map (λ e. e.sense) (entry_of entries w)))) n
    ∙ ap (λ (o : Option GivenKind). option_or (option_map (λ k. KindSense (kind_given k)) o)
    (option_map (λ e. e.sense) (entry_of entries w))) e

pub sense_word : (entries : List Entry) (w : List ℕ) → plain_type w ≡ None → given_kind w ≡ None
    → sense_of entries w ≡ option_map (λ e. e.sense) (entry_of entries w)
sense_word entries w n e =
    ap (λ (o : Option TypeParts). option_or (option_map (λ t. TypeSense (plain t)) o)
    (option_or (option_map (λ k. KindSense (kind_given k)) (given_kind w)) (option_map (λ e. e.sense) (entry_of entries w)))) n
    ∙ ap (λ (o : Option GivenKind). option_or (option_map (λ k. KindSense (kind_given k)) o)
    (option_map (λ e. e.sense) (entry_of entries w))) e

pub named_by : (entries : List Entry) (w : List ℕ) (o : Option Sense) → sense_of entries w ≡ o → type_named entries w ≡ type_in w o
unfolding type_named
named_by entries w o e = ap (type_in w) e

-- ---- the type that a word stands for

pub named_given : (entries : List Entry) (w : List ℕ) (k : GivenKind) → plain_type w ≡ None → given_kind w ≡ Some k
    → type_named entries w ≡ Err (NoType w)
named_given entries w k none e = named_by entries w _ (sense_given entries w k none e)

named_else : (entries : List Entry) (w : List ℕ) → plain_type w ≡ None → given_kind w ≡ None
    → type_named entries w ≡ type_in w (option_map (λ e. e.sense) (entry_of entries w))
named_else entries w none e = named_by entries w _ (sense_word entries w none e)

pub named_kept : (r : Registered) (entries : List Entry) (w : List ℕ) (kept : Word) → plain_type w ≡ None
    → given_kind w ≡ None → IsWordIn r (entry_of entries w) (Some kept) → Tells (IsTypeIn r) (type_kept w kept.meaning) (type_named entries w)
named_kept r entries w kept none e h =
    tells_by (IsTypeIn r) (type_kept w kept.meaning) (type_named entries w) _ (named_else entries w none e)
    (type_of_word r w (entry_of entries w) kept h)

pub named_none : (r : Registered) (entries : List Entry) (w : List ℕ) → plain_type w ≡ None
    → given_kind w ≡ None → IsWordIn r (entry_of entries w) None → type_named entries w ≡ Err (Unknown w)
named_none r entries w none e h = named_else entries w none e ∙ no_type_of_word r w (entry_of entries w) h
