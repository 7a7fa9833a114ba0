-- A root more.
use Rattle.std.proofs.Common.{◌≡◌, ◌<◌, ℕ, List, [], ◌∷◌, ◌++◌, length, sym, ap, subst, refl, arith, cond}
use Rattle.std.specs.Prelude.{Some, None}
use Rattle.std.proofs.lemmas.Option.{slice_get_within}
use Rattle.meta_lists.proofs.Pushed.{get_end}
use Rattle.meta_types.specs.TypeParts.{TypeParts, name_of}
use Rattle.meta_types.specs.TypeText.{type_doc}
use Rattle.meta_types.specs.ValueTypes.{type_parts_of}
use Rattle.meta_types.specs.declared.value_type.ValueType.{ValueType}
use Rattle.meta_typevar.specs.Registry.{root_content}
use Rattle.meta_typevar.specs.declared.content.TypeVarContent.{TypeVarContent}
use Rattle.meta_file_types.specs.declared.plain.PlainRoot.{PlainRoot}
use Rattle.meta_file_types.specs.declared.words.Word.{Word}
use Rattle.meta_file_types.specs.declared.words.Meaning.TheVariants as meanings
use Rattle.meta_file_types.specs.declared.words.Words.{Words}
use Rattle.meta_file_types.specs.Plain.{same_word, set_of_one}
use Rattle.meta_file_types.specs.Meant.{Declared, Plain, MeantRoot, Sense, TypeSense, root_type, plain}
use Rattle.meta_file_types.specs.Symbols.{Symbol, symbol, with_type}
use Rattle.meta_file_types.specs.Words.{Entry, entry_of}
use Rattle.meta_file_types.specs.Registered.{Registered, IsNumberOf, IsVariableAt, IsRegistryOf, IsTypeIn, Extends}
use Rattle.meta_file_types.specs.Held.{StandsFor, word_at, IsMeaningIn, IsEntryIn, HoldsIn}
use Rattle.meta_file_types.proofs.SameSymbol.{with_known, with_new}
use Rattle.meta_file_types.proofs.Staying.{extends_same}
use Rattle.meta_file_types.proofs.Registry.{with_one, extends_one, registry_one, registry_same, number_one, root_in}
use Rattle.meta_file_types.proofs.Growing.{word_stays, word_held, plain_other, plain_more}

-- ---- a plain type

module _ (vars : List TypeVarContent) (symbols : List Symbol) (known : List PlainRoot) (words : Words) (roots : List MeantRoot)
    (entries : List Entry) (h : HoldsIn (record { vars = vars; symbols = symbols }) known words roots entries) where
  -- that has a variable
  module _ (t : TypeParts) (n : ℕ) (at : StandsFor known t n) where
    number : IsNumberOf (record { vars = vars; symbols = symbols }) (symbol (Plain t) []) n
    number = h.plain_are.numbered t n at

    same : symbols ≡ with_type symbols (plain t)
    same = sym (with_known (symbol (Plain t) []) symbols n number)

    pub known_held : HoldsIn (record { vars = vars; symbols = with_type symbols (plain t) }) known words roots entries
    known_held = subst (λ (ss : List Symbol). HoldsIn (record { vars = vars; symbols = ss }) known words roots entries) same h

    pub known_extends : Extends (record { vars = vars; symbols = symbols }) (record { vars = vars; symbols = with_type symbols (plain t) })
    known_extends =
        subst (λ (ss : List Symbol). Extends (record { vars = vars; symbols = symbols }) (record { vars = vars; symbols = ss })) same
        (extends_same (record { vars = vars; symbols = symbols }))

    pub known_is : IsTypeIn (record { vars = vars; symbols = with_type symbols (plain t) }) (plain t) n
    known_is =
        subst (λ (ss : List Symbol). IsTypeIn (record { vars = vars; symbols = ss }) (plain t) n) same
        (root_in (record { vars = vars; symbols = symbols }) roots (Plain t) n (name_of t) (type_doc t) (set_of_one t) h.registry number
        (h.registry.variables (symbol (Plain t) []) n number))

  -- that gets one
  module _ (t : ValueType) (unknown : (n : ℕ) → StandsFor known (type_parts_of t) n → ⊥) where
    abbrev parts : TypeParts
    parts = type_parts_of t

    abbrev content : TypeVarContent
    content = root_content (name_of parts) (type_doc parts) (set_of_one parts) (length vars)

    abbrev entry : PlainRoot
    entry = record { value_type = t; variable = length vars }

    abbrev added : Registered
    added = with_one (record { vars = vars; symbols = symbols }) content (symbol (Plain parts) [])

    new : (n : ℕ) → IsNumberOf (record { vars = vars; symbols = symbols }) (symbol (Plain parts) []) n → ⊥
    new n at = unknown n (h.plain_are.kept parts n at)

    more : symbols ++ symbol (Plain parts) [] ∷ [] ≡ with_type symbols (plain parts)
    more = sym (with_new (symbol (Plain parts) []) symbols new)

    registry : IsRegistryOf added roots
    registry = registry_same (record { vars = vars; symbols = symbols }) roots content (symbol (Plain parts) []) h.registry new
        (get_end vars content)

    held : HoldsIn added (known ++ entry ∷ []) words roots entries
    held = record {
      registry = registry;
      plain_are = plain_more (record { vars = vars; symbols = symbols }) roots known content entry h.plain_are h.registry refl;
      words_are = λ w. word_stays (record { vars = vars; symbols = symbols }) added
          (extends_one (record { vars = vars; symbols = symbols }) content (symbol (Plain parts) [])) (entry_of entries w)
          (word_at words w) (h.words_are w);
    }

    is : IsTypeIn added (plain parts) (length vars)
    is = root_in added roots (Plain parts) (length vars) (name_of parts) (type_doc parts) (set_of_one parts) registry
        (number_one (record { vars = vars; symbols = symbols }) roots [] content (symbol (Plain parts) []) h.registry new
        (get_end vars content)) (get_end vars content)

    pub plain_held : (new_vars : List TypeVarContent) (new_known : List PlainRoot) → new_vars ≡ vars ++ content ∷ []
        → new_known ≡ known ++ entry ∷ []
        → HoldsIn (record { vars = new_vars; symbols = with_type symbols (plain parts) }) new_known words roots entries
    plain_held new_vars new_known e f =
        subst (λ (vs : List TypeVarContent). HoldsIn (record {
          vars = vs;
          symbols = with_type symbols
              (plain parts);
        }) new_known words roots entries)
        (sym e)
        (subst (λ (ks : List PlainRoot). HoldsIn (record {
          vars = vars ++ content ∷ [];
          symbols = with_type symbols
              (plain parts);
        }) ks words roots entries)
        (sym f)
        (subst (λ (ss : List Symbol). HoldsIn (record { vars = vars ++ content ∷ []; symbols = ss })
        (known ++ entry ∷ []) words roots entries) more held))

    pub plain_extends : (new_vars : List TypeVarContent) → new_vars ≡ vars ++ content ∷ []
        → Extends (record { vars = vars; symbols = symbols }) (record { vars = new_vars; symbols = with_type symbols (plain parts) })
    plain_extends new_vars e = record {
      more = content ∷ [];
      symbols_more = symbol (Plain parts) [] ∷ [];
      vars = e;
      symbols = sym more;
    }

    pub plain_is : (new_vars : List TypeVarContent) (n : ℕ) → new_vars ≡ vars ++ content ∷ [] → n ≡ length vars
        → IsTypeIn (record { vars = new_vars; symbols = with_type symbols (plain parts) }) (plain parts) n
    plain_is new_vars n e f =
        subst (λ (vs : List TypeVarContent). IsTypeIn (record { vars = vs; symbols = with_type symbols (plain parts) }) (plain parts) n)
        (sym e)
        (subst (λ (k : ℕ). IsTypeIn (record { vars = vars ++ content ∷ []; symbols = with_type symbols (plain parts) }) (plain parts) k)
        (sym f)
        (subst (λ (ss : List Symbol). IsTypeIn (record { vars = vars ++ content ∷ []; symbols = ss }) (plain parts) (length vars)) more is))

-- ---- a type variable

module _ (vars : List TypeVarContent) (symbols : List Symbol) (known : List PlainRoot) (words : Words) (roots : List MeantRoot)
    (entries : List Entry) (h : HoldsIn (record { vars = vars; symbols = symbols }) known words roots entries) (root : MeantRoot) where
  abbrev root_content_of : TypeVarContent
  root_content_of = root_content root.name root.doc root.set (length vars)

  abbrev root_symbol : Symbol
  root_symbol = symbol (Declared (length roots)) []

  abbrev with_declared : Registered
  with_declared = with_one (record { vars = vars; symbols = symbols }) root_content_of root_symbol

  undeclared : (n : ℕ) → IsNumberOf (record { vars = vars; symbols = symbols }) root_symbol n → ⊥
  undeclared n at =
      let d = h.registry.variables root_symbol n at in
      let l : length roots < length roots = slice_get_within roots (length roots) d.root d.at in
      absurd (omega arith)

  placed : IsVariableAt with_declared (roots ++ root ∷ []) root_symbol [] (length vars)
  placed = record { root = root; at = get_end roots root; kept = get_end vars root_content_of }

  declared_registry : IsRegistryOf with_declared (roots ++ root ∷ [])
  declared_registry =
      registry_one (record { vars = vars; symbols = symbols }) roots (root ∷ []) root_content_of root_symbol h.registry undeclared placed

  no_plain : (t : TypeParts) → root_symbol ≡ symbol (Plain t) [] → ⊥
  no_plain t e = let roots_are : Declared (length roots) ≡ Plain t = ap (λ (s : Symbol). s.root) e in absurd (cc)

  before_word : HoldsIn with_declared known words (roots ++ root ∷ []) entries
  before_word = record {
    registry = declared_registry;
    plain_are = plain_other (record { vars = vars; symbols = symbols }) known root_content_of root_symbol h.plain_are no_plain;
    words_are = λ w. word_stays (record { vars = vars; symbols = symbols }) with_declared
        (extends_one (record { vars = vars; symbols = symbols }) root_content_of root_symbol) (entry_of entries w) (word_at words w)
        (h.words_are w);
  }

  declared_is : IsTypeIn with_declared (root_type (Declared (length roots)) root.name root.set) (length vars)
  declared_is =
      root_in with_declared (roots ++ root ∷ []) (Declared (length roots)) (length vars) root.name root.doc root.set declared_registry
      (number_one (record { vars = vars; symbols = symbols }) roots (root ∷ []) root_content_of root_symbol h.registry undeclared placed)
      (get_end vars root_content_of)

  pub declared_extends : (new_vars : List TypeVarContent) → new_vars ≡ vars ++ root_content_of ∷ []
      → Extends (record { vars = vars; symbols = symbols }) (record { vars = new_vars; symbols = symbols ++ root_symbol ∷ [] })
  declared_extends new_vars e = record { more = root_content_of ∷ []; symbols_more = root_symbol ∷ []; vars = e; symbols = refl }

  -- with its word
  pub declared_held : (new_vars : List TypeVarContent) (new_words : Words) (e : Entry) (kept : Word)
      → new_vars ≡ vars ++ root_content_of ∷ []
      → e.sense ≡ TypeSense (root_type (Declared (length roots)) root.name root.set) → entry_of entries e.word ≡ None
      → ((w : List ℕ) → word_at new_words w ≡ cond (same_word w e.word) (Some kept) (word_at words w))
      → kept ≡ record { place = e.place; meaning = meanings.Type (length vars) }
      → HoldsIn (record { vars = new_vars; symbols = symbols ++ root_symbol ∷ [] }) known new_words (roots ++ root ∷ []) (entries ++ e ∷ [])
  declared_held new_vars new_words e kept is sense none at kept_is =
      subst (λ (vs : List TypeVarContent). HoldsIn (record { vars = vs; symbols = symbols ++ root_symbol ∷ [] }) known new_words
      (roots ++ root ∷ [])
      (entries ++ e ∷ [])) (sym is)
      (word_held with_declared known (roots ++ root ∷ []) entries e words new_words kept before_word
      (subst (IsEntryIn with_declared e) (sym kept_is)
      (record {
        place = refl;
        meaning = subst (λ (s : Sense). IsMeaningIn with_declared s (meanings.Type (length vars))) (sym sense) declared_is;
      })) none at)
