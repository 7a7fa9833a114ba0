-- What was returned, and what is meant.
use Rattle.std.proofs.Common.{◌≡◌, ℕ, List, sym, ap, refl, subst}
use Rattle.std.specs.Prelude.{Option, Some, None, option_map, Result, Err}
use Rattle.meta_file_types.specs.declared.refused.Reason.{Reason}
use Rattle.meta_file_types.specs.declared.refused.Reason.TheVariants.{Unknown}
use Rattle.meta_file_types.specs.declared.refused.ItemError.{ItemError}
use Rattle.meta_file_types.specs.declared.refused.ItemError.TheVariants.{Memory, Wrong}
use Rattle.meta_file_types.specs.declared.words.Word.{Word}
use Rattle.meta_file_types.specs.declared.words.Meaning.{Meaning}
use Rattle.meta_file_types.specs.declared.words.Meaning.TheVariants as meanings
use Rattle.meta_file_types.specs.Meant.{Sense, TypeSense, KindSense}
use Rattle.meta_file_types.specs.Words.{Entry, type_in}
use Rattle.meta_file_types.specs.Telling.{◌>>=◌, Fails, Tells}
use Rattle.meta_file_types.specs.Registered.{Registered, IsTypeIn}
use Rattle.meta_file_types.specs.Held.{type_kept, kind_kept, IsMeaningIn, IsWordIn}
use Rattle.meta_file_types.specs.Operands.{kind_in, AreKindsIn}

-- the same, of what is meant alike
pub tells_by : {X M : Type 0} (R : M → X → Type 0) (result : Result X ItemError) (a b : Result M Reason) → a ≡ b → Tells R result b
    → Tells R result a
tells_by R result a b e h = subst (Tells R result) (sym e) h

-- an error goes on
pub fails_on : {A B : Type 0} (e : ItemError) (a : Result A Reason) (f : A → Result B Reason) → Fails e a → Fails e (a >>= f)
fails_on Memory a f h = tt
fails_on (Wrong reason) a f h = ap (λ a. a >>= f) h

-- ---- the type that a word is

type_of_meaning : (r : Registered) (v : List ℕ) (s : Sense) (w : Meaning) → IsMeaningIn r s w
    → Tells (IsTypeIn r) (type_kept v w) (type_in v (Some s))
type_of_meaning r v (TypeSense m) (meanings.Type n) h = record { meaning = m; is = refl; by = h }
type_of_meaning r v (TypeSense m) (meanings.Kind kind) h = absurd h
type_of_meaning r v (KindSense k) (meanings.Type n) h = absurd h
type_of_meaning r v (KindSense k) (meanings.Kind kind) h = refl

pub type_of_word : (r : Registered) (v : List ℕ) (o : Option Entry) (w : Word) → IsWordIn r o (Some w)
    → Tells (IsTypeIn r) (type_kept v w.meaning) (type_in v (option_map (λ e. e.sense) o))
type_of_word r v None w h = absurd h
type_of_word r v (Some e) w h = type_of_meaning r v e.sense w.meaning h.meaning

pub no_type_of_word : (r : Registered) (v : List ℕ) (o : Option Entry) → IsWordIn r o None
    → type_in v (option_map (λ e. e.sense) o) ≡ Err (Unknown v)
no_type_of_word r v None h = refl
no_type_of_word r v (Some e) h = absurd h

-- ---- the kind that a word is

kind_of_meaning : (r : Registered) (s : Sense) (w : Meaning) → IsMeaningIn r s w → AreKindsIn r (kind_in (Some s)) (kind_kept w)
kind_of_meaning r (TypeSense m) (meanings.Type n) h = tt
kind_of_meaning r (TypeSense m) (meanings.Kind kind) h = absurd h
kind_of_meaning r (KindSense k) (meanings.Type n) h = absurd h
kind_of_meaning r (KindSense k) (meanings.Kind kind) h = h

pub kind_of_word : (r : Registered) (o : Option Entry) (w : Word) → IsWordIn r o (Some w)
    → AreKindsIn r (kind_in (option_map (λ e. e.sense) o)) (kind_kept w.meaning)
kind_of_word r None w h = absurd h
kind_of_word r (Some e) w h = kind_of_meaning r e.sense w.meaning h.meaning

pub no_kind_of_word : (r : Registered) (o : Option Entry) → IsWordIn r o None → AreKindsIn r (kind_in (option_map (λ e. e.sense) o)) None
no_kind_of_word r None h = tt
no_kind_of_word r (Some e) h = absurd h
