-- What is wrong with an item, and what it declares, by its three steps.
use Rattle.std.proofs.Common.{◌≡◌, ◌∙◌, ℕ, List, [], sym, ap, refl, subst, Bool, true, false, cond, not, ◌==◌, length}
use Rattle.std.specs.Prelude.{Option, Some, None, Result, Ok, Err, OnOk}
use Rattle.meta_typevar.specs.TypeSetParts.{TypeSetParts}
use Rattle.meta_file_syntax.specs.declared.types.TypeItem.{TypeItem}
use Rattle.meta_file_syntax.specs.declared.types.AliasItem.{AliasItem}
use Rattle.meta_file_syntax.specs.declared.kinds.KindItem.{KindItem}
use Rattle.meta_file_types.specs.declared.refused.Reason.{Reason}
use Rattle.meta_file_types.specs.declared.refused.Reason.TheVariants.{NotText, DocumentedAlias}
use Rattle.meta_file_types.specs.declared.refused.ItemError.{ItemError}
use Rattle.meta_file_types.specs.declared.refused.ItemError.TheVariants.{Memory, Wrong}
use Rattle.meta_file_syntax.specs.declared.types.Part.{Part}
use Rattle.meta_file_syntax.specs.declared.types.SetExpr.{SetExpr}
use Rattle.meta_file_syntax.specs.declared.types.SetExpr.TheVariants as sets
use Rattle.meta_file_types.specs.Sets.{wrong_parts, set_of_parts}
use Rattle.meta_file_types.specs.Texts.{are_texts, type_texts, alias_texts, kind_texts}
use Rattle.meta_file_types.specs.Meant.{MeantType, MeantSort}
use Rattle.meta_file_types.specs.Words.{Entry, wrong_word, type_named, type_of, set_of, set_like, sort_of}
use Rattle.meta_file_types.specs.Said.{Said, with_meant, with_set, mentioning, after_set, wrong_docs, root_with, kind_with, root_of}
use Rattle.meta_file_types.specs.Said.{alias_of, kind_of}
use Rattle.meta_file_types.specs.Telling.{◌>>=◌, unless, reason_in, Fails, Refuses, IsMeant, Tells}
use Rattle.meta_file_types.specs.Registered.{Registered, IsTypeIn, AreFieldsIn, Extends}
use Rattle.meta_file_types.specs.Held.{registered, HoldsIn, Holds}
use Rattle.meta_file_types.specs.Symbols.{Symbol}
use Rattle.meta_file_types.specs.declared.types.Types.{Types}
use Rattle.meta_operands.specs.declared.kind.OperandKindFields.{OperandKindFields}
use Rattle.meta_file_types.proofs.Told.{fails_on, tells_by}
use Rattle.meta_file_types.proofs.Checked.{no_text, meant_fails, word_fails, is_right, fails_refuses, some_docs, no_docs}

-- ---- an item, by its texts, what it means, and its word

-- an error at the word
at_word : {A : Type 0} (e : ItemError) (word : Option Reason) (a : Result A Reason) → Refuses {X = Unit {0}} (Err e) word
    → ((reason : Reason) → word ≡ Some reason → a ≡ Err reason) → Refuses {X = Unit {0}} (Err e) (reason_in a)
at_word Memory word a h f = tt
at_word (Wrong reason) word a h f = ap reason_in (f reason h)

-- ---- a type variable

module _ (words : List Entry) (i : TypeItem) where
  pub root_no_text : are_texts (type_texts i) ≡ false → reason_in (root_of words i) ≡ Some NotText
  unfolding root_of
  root_no_text t = ap reason_in (no_text (type_texts i) (set_of words i.set) (wrong_word words i.word) (root_with i) t)

  pub root_fails : (e : ItemError) → are_texts (type_texts i) ≡ true → Fails e (set_of words i.set)
      → Refuses {X = Unit {0}} (Err e) (reason_in (root_of words i))
  unfolding root_of
  root_fails e t h =
      fails_refuses e (root_of words i) (meant_fails (type_texts i) (set_of words i.set) (wrong_word words i.word) (root_with i) e t h)

  root_wrong : (set : TypeSetParts) (reason : Reason) → are_texts (type_texts i) ≡ true → set_of words i.set ≡ Ok set
      → wrong_word words i.word ≡ Some reason → root_of words i ≡ Err reason
  unfolding root_of
  root_wrong set reason t is w =
      word_fails (type_texts i) (set_of words i.set) (wrong_word words i.word) (root_with i) set reason t is w

  pub root_word : (e : ItemError) (set : TypeSetParts) → are_texts (type_texts i) ≡ true
      → IsMeant (λ s x. x ≡ s) set (set_of words i.set) → Refuses {X = Unit {0}} (Err e) (wrong_word words i.word)
      → Refuses {X = Unit {0}} (Err e) (reason_in (root_of words i))
  root_word e set t h w = at_word e (wrong_word words i.word) (root_of words i) w (λ reason is. root_wrong h.meaning reason t h.is is)

  pub root_right : (set : TypeSetParts) → are_texts (type_texts i) ≡ true → IsMeant (λ s x. x ≡ s) set (set_of words i.set)
      → wrong_word words i.word ≡ None → root_of words i ≡ Ok (root_with i set)
  unfolding root_of
  root_right set t h w =
      is_right (type_texts i) (set_of words i.set) (wrong_word words i.word) (root_with i) set t
      (h.is ∙ ap (λ (s : TypeSetParts). Ok s) (sym h.by)) w

-- ---- a kind

module _ (words : List Entry) (i : KindItem) where
  pub kind_no_text : are_texts (kind_texts i) ≡ false → reason_in (kind_of words i) ≡ Some NotText
  unfolding kind_of
  kind_no_text t = ap reason_in (no_text (kind_texts i) (sort_of words i.sort) (wrong_word words i.word) (kind_with i) t)

  pub kind_fails : (e : ItemError) → are_texts (kind_texts i) ≡ true → Fails e (sort_of words i.sort)
      → Refuses {X = Unit {0}} (Err e) (reason_in (kind_of words i))
  unfolding kind_of
  kind_fails e t h =
      fails_refuses e (kind_of words i) (meant_fails (kind_texts i) (sort_of words i.sort) (wrong_word words i.word) (kind_with i) e t h)

  kind_wrong : (sort : MeantSort) (reason : Reason) → are_texts (kind_texts i) ≡ true → sort_of words i.sort ≡ Ok sort
      → wrong_word words i.word ≡ Some reason → kind_of words i ≡ Err reason
  unfolding kind_of
  kind_wrong sort reason t is w =
      word_fails (kind_texts i) (sort_of words i.sort) (wrong_word words i.word) (kind_with i) sort reason t is w

  pub kind_word : (e : ItemError) (r : Registered) (fields : OperandKindFields) → are_texts (kind_texts i) ≡ true
      → IsMeant (AreFieldsIn r) fields (sort_of words i.sort) → Refuses {X = Unit {0}} (Err e) (wrong_word words i.word)
      → Refuses {X = Unit {0}} (Err e) (reason_in (kind_of words i))
  kind_word e r fields t h w = at_word e (wrong_word words i.word) (kind_of words i) w (λ reason is. kind_wrong h.meaning reason t h.is is)

  pub kind_right : (sort : MeantSort) → are_texts (kind_texts i) ≡ true → sort_of words i.sort ≡ Ok sort → wrong_word words i.word ≡ None
      → kind_of words i ≡ Ok (kind_with i sort)
  unfolding kind_of
  kind_right sort t is w = is_right (kind_texts i) (sort_of words i.sort) (wrong_word words i.word) (kind_with i) sort t is w

-- ---- another word

module _ (words : List Entry) (i : AliasItem) where
  -- after the texts
  abbrev rest : Result MeantType Reason
  rest = type_of words i.means >>= λ m. unless (wrong_word words i.word) (Ok m)

  pub alias_no_text : are_texts (alias_texts i) ≡ false → reason_in (alias_of words i) ≡ Some NotText
  unfolding alias_of
  alias_no_text t = ap (λ (b : Bool). reason_in (unless (cond b None (Some NotText)) (unless (wrong_docs i.word i.docs) rest))) t

  text : are_texts (alias_texts i) ≡ true → alias_of words i ≡ unless (wrong_docs i.word i.docs) rest
  unfolding alias_of
  text t = ap (λ (b : Bool). unless (cond b None (Some NotText)) (unless (wrong_docs i.word i.docs) rest)) t

  pub alias_docs : are_texts (alias_texts i) ≡ true → not (length i.docs == 0) ≡ true → reason_in (alias_of words i) ≡ Some (DocumentedAlias i.word)
  alias_docs t d = ap reason_in (text t ∙ ap (λ (o : Option Reason). unless o rest) (some_docs i.word i.docs d))

  plainly : are_texts (alias_texts i) ≡ true → not (length i.docs == 0) ≡ false → alias_of words i ≡ rest
  plainly t d = text t ∙ ap (λ (o : Option Reason). unless o rest) (no_docs i.word i.docs d)

  pub alias_fails : (e : ItemError) → are_texts (alias_texts i) ≡ true → not (length i.docs == 0) ≡ false
      → Fails e (type_of words i.means) → Refuses {X = Unit {0}} (Err e) (reason_in (alias_of words i))
  alias_fails e t d h =
      fails_refuses e (alias_of words i)
      (subst (Fails e) (sym (plainly t d)) (fails_on e (type_of words i.means) (λ m. unless (wrong_word words i.word) (Ok m)) h))

  rest_is : (m : MeantType) (w : Option Reason) → type_of words i.means ≡ Ok m → wrong_word words i.word ≡ w → rest ≡ unless w (Ok m)
  rest_is m w is e =
      ap (λ (a : Result MeantType Reason). a >>= λ m. unless (wrong_word words i.word) (Ok m)) is
      ∙ ap (λ (o : Option Reason). unless o (Ok m)) e

  pub alias_word : (e : ItemError) (r : Registered) (n : ℕ) → are_texts (alias_texts i) ≡ true → not (length i.docs == 0) ≡ false
      → IsMeant (IsTypeIn r) n (type_of words i.means) → Refuses {X = Unit {0}} (Err e) (wrong_word words i.word)
      → Refuses {X = Unit {0}} (Err e) (reason_in (alias_of words i))
  alias_word e r n t d h w =
      at_word e (wrong_word words i.word) (alias_of words i) w (λ reason is. plainly t d ∙ rest_is h.meaning (Some reason) h.is is)

  pub alias_right : (m : MeantType) → are_texts (alias_texts i) ≡ true → not (length i.docs == 0) ≡ false → type_of words i.means ≡ Ok m
      → wrong_word words i.word ≡ None → alias_of words i ≡ Ok m
  alias_right m t d is w = plainly t d ∙ rest_is m None is w

-- ---- the set of a type variable

pub set_wrong : (words : List Entry) (parts : List Part) (reason : Reason) → wrong_parts [] parts ≡ Some reason
    → set_of words (sets.Parts parts) ≡ Err reason
unfolding set_of
set_wrong words parts reason e = ap (λ (o : Option Reason). unless o (Ok (set_of_parts parts))) e

pub set_right : (words : List Entry) (set : SetExpr) (parts ps qs : List Part) (s : TypeSetParts) → set ≡ sets.Parts parts → ps ≡ parts
    → qs ≡ parts → wrong_parts [] ps ≡ None → s ≡ set_of_parts qs → IsMeant (λ s x. x ≡ s) s (set_of words set)
unfolding set_of
set_right words set parts ps qs s set_is ps_are qs_are e is = record {
  meaning = set_of_parts parts;
  is = ap (set_of words) set_is ∙ ap (λ (o : Option Reason). unless o (Ok (set_of_parts parts))) (sym (ap (wrong_parts []) ps_are) ∙ e);
  by = is ∙ ap set_of_parts qs_are;
}

set_other : (words : List Entry) (w : List ℕ) → set_of words (sets.Like w) ≡ set_like words w
unfolding set_of
set_other words w = refl

-- the set of another
module _ (said : Said) (set : SetExpr) (w v : List ℕ) (set_is : set ≡ sets.Like w) (v_is : v ≡ w) where
  set_is_like : set_of said.words set ≡ set_like said.words v
  set_is_like = ap (set_of said.words) set_is ∙ (set_other said.words w ∙ ap (set_like said.words) (sym v_is))

  symbols_are : with_meant said.symbols (type_named said.words v) ≡ with_set said.words said.symbols set
  symbols_are = ap (λ (x : List ℕ). with_meant said.symbols (type_named said.words x)) v_is
      ∙ sym (ap (with_set said.words said.symbols) set_is)

  pub like_means : (result : Result TypeSetParts ItemError) → Tells (λ s x. x ≡ s) result (set_like said.words v)
      → Tells (λ s x. x ≡ s) result (set_of said.words set)
  like_means result h = tells_by (λ s x. x ≡ s) result (set_of said.words set) (set_like said.words v) set_is_like h

  pub like_holds : (t : Types) (result : Result TypeSetParts ItemError)
      → OnOk result (Holds t (mentioning said (type_named said.words v))) → OnOk result (Holds t (after_set said set))
  like_holds t (Ok x) h =
      subst (λ (ss : List Symbol). HoldsIn
      (record { vars = t.vars; symbols = ss }) t.plain.items t.words said.roots said.words) symbols_are h
  like_holds t (Err e) h = tt

  pub like_extends : (old : Registered) (t : Types) (result : Result TypeSetParts ItemError)
      → OnOk result (Extends old (registered t (mentioning said (type_named said.words v))))
      → OnOk result (Extends old (registered t (after_set said set)))
  like_extends old t (Ok x) h = subst (λ (ss : List Symbol). Extends old (record { vars = t.vars; symbols = ss })) symbols_are h
  like_extends old t (Err e) h = tt
