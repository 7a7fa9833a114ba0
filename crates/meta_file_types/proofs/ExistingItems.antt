-- A registry of what items declare of types and kinds, item by item.
use Rattle.std.proofs.Common.{◌<◌, ℕ, List, [], ◌∷◌, ◌++◌, length, refl, arith}
use Rattle.std.specs.Prelude.{Option, Some, None, Result, Ok, Err, IfOk}
use Rattle.std.proofs.lemmas.Option.{slice_get_within}
use Rattle.std.proofs.lemmas.List.Elements.{All-push}
use Rattle.meta_lists.proofs.Pushed.{get_end}
use Rattle.meta_typevar.specs.Registry.{root_content}
use Rattle.meta_typevar.specs.declared.content.TypeVarContent.{TypeVarContent}
use Rattle.meta_operands.specs.EnumEntries.{EnumEntries}
use Rattle.meta_operands.specs.declared.kind.OperandKindFields.{OperandKindFields}
use Rattle.meta_operands.specs.declared.kind.OperandKindFields.TheVariants as fields
use Rattle.meta_file_syntax.specs.declared.types.SetExpr.{SetExpr}
use Rattle.meta_file_syntax.specs.declared.types.SetExpr.TheVariants as sets
use Rattle.meta_file_syntax.specs.declared.types.AliasItem.{AliasItem}
use Rattle.meta_file_syntax.specs.declared.types.TypeExpr.{TypeExpr}
use Rattle.meta_file_syntax.specs.declared.kinds.KindItem.{KindItem}
use Rattle.meta_file_syntax.specs.declared.kinds.Sort.{Sort}
use Rattle.meta_file_syntax.specs.declared.kinds.Sort.TheVariants as sorts
use Rattle.meta_file_syntax.specs.declared.items.Item.{Item}
use Rattle.meta_file_syntax.specs.declared.items.Item.TheVariants as item
use Rattle.meta_file_types.specs.declared.refused.Reason.{Reason}
use Rattle.meta_file_types.specs.Meant.{Declared, MeantType, MeantRoot, MeantSort, ImmEnum, Value, MeantKind}
use Rattle.meta_file_types.specs.Meant.{TypeSense, KindSense, root_type}
use Rattle.meta_file_types.specs.Symbols.{Symbol, symbol}
use Rattle.meta_file_types.specs.Texts.{alias_texts, kind_texts}
use Rattle.meta_file_types.specs.Words.{Entry, wrong_word, type_of, type_named, sort_of, values_from}
use Rattle.meta_file_types.specs.Said.{Said, with_meant, with_set, with_sort, after_set, after_type, after_sort, wrong_texts, wrong_docs}
use Rattle.meta_file_types.specs.Said.{root_of, alias_of, kind_of, kind_with, with_root, with_alias, with_kind, after}
use Rattle.meta_file_types.specs.Telling.{◌>>=◌, unless}
use Rattle.meta_file_types.specs.Registered.{Registered, IsNumberOf, IsRegistryOf, IsVariableAt, IsTypeIn, AreFieldsIn}
use Rattle.meta_file_types.proofs.Staying.{extends_more}
use Rattle.meta_file_types.proofs.Registry.{with_one, extends_one, registry_one, number_one, root_in}
use Rattle.meta_file_types.proofs.Existing.{IsThere, words_stay, Serves, Grows, Mentions, grows_not, mentions_named}
use Rattle.meta_file_types.proofs.Existing.{mentions_type, grows_by, kind_there}

-- ---- what holds where something is meant

pub ok_after : {A B R : Type 0} (a : Result A R) (f : A → Result B R) (P : A → Type 0) (Q : B → Type 0) → IfOk a P
    → ((x : A) → P x → IfOk (f x) Q) → IfOk (a >>= f) Q
ok_after (Ok x) f P Q h g = g x h
ok_after (Err reason) f P Q h g = tt

pub ok_unless : {A R : Type 0} (o : Option R) (a : Result A R) (P : A → Type 0) → IfOk a P → IfOk (unless o a) P
ok_unless None a P h = h
ok_unless (Some reason) a P h = tt

-- the type that is meant is there
pub type_there : (r : Registered) (roots : List MeantRoot) (entries : List Entry) (h : Serves r roots entries) (a : Result MeantType Reason)
    (g : Mentions r roots entries a)
    → IfOk a (λ m. IsThere (record { vars = (grows_by r roots entries h a g).vars; symbols = with_meant r.symbols a }) (TypeSense m))
type_there r roots entries h (Ok m) g = (g.number, g.is)
type_there r roots entries h (Err reason) g = tt

-- ---- an item

module _ (vars : List TypeVarContent) (s : Said) (h : Serves (record { vars = vars; symbols = s.symbols }) s.roots s.words) where
  abbrev now : Registered
  now = record { vars = vars; symbols = s.symbols }

  set_grows : (set : SetExpr) → Grows now (with_set s.words s.symbols set) s.roots s.words
  set_grows (sets.Parts parts) = grows_not now s.roots s.words h
  set_grows (sets.Like w) = grows_by now s.roots s.words h (type_named s.words w) (mentions_named now s.roots s.words h w)

  -- a word more, where a registry has what it stands for
  word_more : (symbols : List Symbol) (g : Grows now symbols s.roots s.words) (e : Entry)
      → IsThere (record { vars = g.vars; symbols = symbols }) e.sense → Grows now symbols s.roots (s.words ++ e ∷ [])
  word_more symbols g e there = record {
    vars = g.vars;
    serves = record {
      registry = g.serves.registry;
      words = All-push (λ (x : Entry). IsThere (record { vars = g.vars; symbols = symbols }) x.sense) s.words e g.serves.words there;
    };
    extends = g.extends;
  }

  -- a type variable more
  module _ (symbols : List Symbol) (g : Grows now symbols s.roots s.words) (root : MeantRoot) (w : List ℕ) (place : ℕ) where
    abbrev before : Registered
    before = record { vars = g.vars; symbols = symbols }

    abbrev one : Symbol
    one = symbol (Declared (length s.roots)) []

    abbrev content : TypeVarContent
    content = root_content root.name root.doc root.set (length g.vars)

    abbrev entry : Entry
    entry = record { word = w; place = place; sense = TypeSense (root_type (Declared (length s.roots)) root.name root.set) }

    undeclared : (n : ℕ) → IsNumberOf before one n → ⊥
    undeclared n at =
        let d = g.serves.registry.variables one n at in
        let l : length s.roots < length s.roots = slice_get_within s.roots (length s.roots) d.root d.at in
        absurd (omega arith)

    placed : IsVariableAt (with_one before content one) (s.roots ++ root ∷ []) one [] (length g.vars)
    placed = record { root = root; at = get_end s.roots root; kept = get_end g.vars content }

    registry : IsRegistryOf (with_one before content one) (s.roots ++ root ∷ [])
    registry = registry_one before s.roots (root ∷ []) content one g.serves.registry undeclared placed

    is : IsTypeIn (with_one before content one) (root_type (Declared (length s.roots)) root.name root.set) (length g.vars)
    is =
        root_in (with_one before content one) (s.roots ++ root ∷ []) (Declared (length s.roots)) (length g.vars) root.name root.doc root.set
        registry (number_one before s.roots (root ∷ []) content one g.serves.registry undeclared placed) (get_end g.vars content)

    root_more : Grows now (symbols ++ one ∷ []) (s.roots ++ root ∷ []) (s.words ++ entry ∷ [])
    root_more = record {
      vars = g.vars ++ content ∷ [];
      serves = record {
        registry = registry;
        words = All-push (λ (x : Entry). IsThere (with_one before content one) x.sense) s.words entry
            (words_stay before (with_one before content one) (extends_one before content one) s.words g.serves.words) (length g.vars, is);
      };
      extends = extends_more now before (with_one before content one) g.extends (extends_one before content one);
    }

  abbrev GrowsTo : Said → Type 0
  GrowsTo t = Grows now t.symbols t.roots t.words

  root_grows : (set : SetExpr) (w : List ℕ) (place : ℕ) (a : Result MeantRoot Reason) → GrowsTo (with_root (after_set s set) w place a)
  root_grows set w place (Err reason) = set_grows set
  root_grows set w place (Ok root) = root_more (with_set s.words s.symbols set) (set_grows set) root w place

  -- another word for a type
  module _ (t : TypeExpr) where
    abbrev type_grows : Grows now (with_meant s.symbols (type_of s.words t)) s.roots s.words
    type_grows = grows_by now s.roots s.words h (type_of s.words t) (mentions_type now s.roots s.words h t)

    abbrev with_type_in : Registered
    with_type_in = record { vars = type_grows.vars; symbols = with_meant s.symbols (type_of s.words t) }

    meant_there : IfOk (type_of s.words t) (λ m. IsThere with_type_in (TypeSense m))
    meant_there = type_there now s.roots s.words h (type_of s.words t) (mentions_type now s.roots s.words h t)

  alias_grows : (t : TypeExpr) (w : List ℕ) (place : ℕ) (a : Result MeantType Reason)
      → IfOk a (λ m. IsThere (with_type_in t) (TypeSense m)) → GrowsTo (with_alias (after_type s t) w place a)
  alias_grows t w place (Err reason) there = type_grows t
  alias_grows t w place (Ok m) there =
      word_more (with_meant s.symbols (type_of s.words t)) (type_grows t) (record { word = w; place = place; sense = TypeSense m }) there

  alias_there : (i : AliasItem) → IfOk (alias_of s.words i) (λ m. IsThere (with_type_in i.means) (TypeSense m))
  unfolding alias_of
  alias_there i =
      let P : MeantType → Type 0 = λ m. IsThere (with_type_in i.means) (TypeSense m) in
      ok_unless (wrong_texts (alias_texts i)) _ P
      (ok_unless (wrong_docs i.word i.docs) _ P
      (ok_after (type_of s.words i.means) (λ m. unless (wrong_word s.words i.word) (Ok m)) P P (meant_there i.means)
      (λ m there. ok_unless (wrong_word s.words i.word) (Ok m) P there)))

  -- a kind
  abbrev sort_grows : (sort : Sort) → Grows now (with_sort s.words s.symbols sort) s.roots s.words
  sort_grows sorts.Entity = grows_not now s.roots s.words h
  sort_grows sorts.Imm = grows_not now s.roots s.words h
  sort_grows (sorts.ImmEnum values) = grows_not now s.roots s.words h
  sort_grows sorts.Varargs = grows_not now s.roots s.words h
  sort_grows (sorts.Value t) = type_grows t

  abbrev with_sort_in : Sort → Registered
  with_sort_in sort = record { vars = (sort_grows sort).vars; symbols = with_sort s.words s.symbols sort }

  abbrev AreThere : Sort → MeantSort → Type 0
  AreThere sort m = (f : OperandKindFields) × AreFieldsIn (with_sort_in sort) m f

  sort_there : (sort : Sort) → IfOk (sort_of s.words sort) (AreThere sort)
  unfolding sort_of
  sort_there sorts.Entity = (fields.EntityRef, refl)
  sort_there sorts.Imm = (fields.ImmValue, refl)
  sort_there (sorts.ImmEnum values) = by (values_from [] values)
    where
      by : (a : Result EnumEntries Reason) → IfOk (a >>= λ es. Ok (ImmEnum es)) (AreThere (sorts.ImmEnum values))
      by (Ok es) = (fields.ImmEnum es, refl)
      by (Err reason) = tt
  sort_there sorts.Varargs = (fields.VariableArgs, refl)
  sort_there (sorts.Value t) =
      ok_after (type_of s.words t) (λ m. Ok (Value m)) (λ m. IsThere (with_type_in t) (TypeSense m)) (AreThere (sorts.Value t))
      (meant_there t)
      (λ m there. (fields.TypeVar there.0, record { number = there.0; is = refl; type_is = there.1 }))

  kind_grows : (sort : Sort) (w : List ℕ) (place : ℕ) (a : Result MeantKind Reason)
      → IfOk a (λ k. IsThere (with_sort_in sort) (KindSense k)) → GrowsTo (with_kind (after_sort s sort) w place a)
  kind_grows sort w place (Err reason) there = sort_grows sort
  kind_grows sort w place (Ok k) there =
      word_more (with_sort s.words s.symbols sort) (sort_grows sort) (record { word = w; place = place; sense = KindSense k }) there

  kind_meant_there : (i : KindItem) → IfOk (kind_of s.words i) (λ k. IsThere (with_sort_in i.sort) (KindSense k))
  unfolding kind_of
  kind_meant_there i =
      let P : MeantKind → Type 0 = λ k. IsThere (with_sort_in i.sort) (KindSense k) in
      ok_unless (wrong_texts (kind_texts i)) _ P
      (ok_after (sort_of s.words i.sort) (λ sort. unless (wrong_word s.words i.word) (Ok (kind_with i sort))) (AreThere i.sort) P
      (sort_there i.sort)
      (λ sort there. ok_unless (wrong_word s.words i.word) (Ok (kind_with i sort)) P
      (kind_there (with_sort_in i.sort) (kind_with i sort) there.0 there.1)))

  -- a registry has what any item declares of types and kinds
  pub item_grows : (place : ℕ) (i : Item) → GrowsTo (after s place i)
  item_grows place (item.Type i) = root_grows i.set i.word place (root_of s.words i)
  item_grows place (item.Alias i) = alias_grows i.means i.word place (alias_of s.words i) (alias_there i)
  item_grows place (item.Kind i) = kind_grows i.sort i.word place (kind_of s.words i) (kind_meant_there i)
  item_grows place (item.Format i) = grows_not now s.roots s.words h
  item_grows place (item.Inst i) = grows_not now s.roots s.words h
  item_grows place (item.Group i) = grows_not now s.roots s.words h
  item_grows place (item.Bool i) = grows_not now s.roots s.words h
  item_grows place (item.Num i) = grows_not now s.roots s.words h
  item_grows place (item.Enum i) = grows_not now s.roots s.words h
  item_grows place (item.Preset i) = grows_not now s.roots s.words h
