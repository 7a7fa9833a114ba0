-- What one function derives from a type that a registry has.
use Rattle.std.proofs.Common.{◌≡◌, ◌∙◌, ◌<◌, ℕ, List, [], ◌∷◌, ◌++◌, length, slice_get, sym, ap, subst, refl}
use Rattle.std.specs.Prelude.{Some}
use Rattle.meta_lists.proofs.Places.{get_stays}
use Rattle.meta_lists.proofs.Pushed.{get_end}
use Rattle.meta_types.specs.Function.{Function}
use Rattle.meta_types.specs.DerivedFunc.{function_of}
use Rattle.meta_types.specs.declared.derived_func.DerivedFunc.{DerivedFunc}
use Rattle.meta_typevar.specs.Variable.{Variable, longer}
use Rattle.meta_typevar.specs.Image.{image_of}
use Rattle.meta_typevar.specs.Registry.{variable_at, sets_of, coded_of, coded_at, derived_content, IsKept}
use Rattle.meta_typevar.specs.declared.content.TypeVarContent.{TypeVarContent}
use Rattle.meta_typevar.proofs.Variables.{coded_last}
use Rattle.meta_file_types.specs.Meant.{MeantType, MeantRoot, derived_by}
use Rattle.meta_file_types.specs.Symbols.{Symbol, symbol, symbol_of}
use Rattle.meta_file_types.specs.Registered.{Registered, IsNumberOf, IsDerivedAt, IsVariableAt, IsRegistryOf, IsTypeIn}
use Rattle.meta_file_types.specs.Depth.{name_from, root_name_at}
use Rattle.meta_file_types.proofs.Staying.{number_stays, variable_stays, coded_stays, name_stays}
use Rattle.meta_file_types.proofs.Registry.{IsOfSymbol, below, symbol_variable, variable_symbol, root_below, with_one, extends_one}
use Rattle.meta_file_types.proofs.Registry.{content_stays, registry_same}

-- the set of what is derived
coded_longer : (vars : List TypeVarContent) (n v : ℕ) (f : Function) → variable_at vars v ≡ longer (variable_at vars n) f
    → coded_at vars v ≡ image_of f (coded_at vars n)
coded_longer vars n v f e =
    ap (coded_of vars) e ∙ coded_last (variable_at vars n).chain f (sets_of vars (variable_at vars n).root)

-- and the name of its root
named_longer : (vars : List TypeVarContent) (n v : ℕ) (f : Function) → variable_at vars v ≡ longer (variable_at vars n) f
    → root_name_at vars v ≡ root_name_at vars n
named_longer vars n v f e = ap (λ (w : Variable). name_from (slice_get vars w.root)) e

module _ (now : Registered) (roots : List MeantRoot) (h : IsRegistryOf now roots) (m : MeantType) (n : ℕ) (is : IsTypeIn now m n)
    (g : DerivedFunc) where
  abbrev f : Function
  f = function_of g

  abbrev made : MeantType
  made = derived_by f m

  abbrev one : Symbol
  one = symbol_of made

  rooted : IsOfSymbol now (symbol_of m) n
  rooted = symbol_variable now roots h (symbol_of m) n is.number

  -- the variable of the symbol is what is derived
  pub derived_there : (k : ℕ) → IsNumberOf now one k → variable_at now.vars k ≡ longer (variable_at now.vars n) f
  derived_there k at =
      let v = symbol_variable now roots h one k at in
      let root : v.root ≡ rooted.root = h.apart (symbol m.root []) v.root rooted.root v.root_is rooted.root_is in
      v.variable
      ∙ (ap (λ (r : ℕ). record { root = r; chain = m.functions ++ f ∷ [] }) root
      ∙ ap (λ (w : Variable). longer w f) (sym rooted.variable))

  -- and what is derived is the variable of the symbol
  pub derived_back : (k : ℕ) → k < length now.vars → variable_at now.vars k ≡ longer (variable_at now.vars n) f → IsNumberOf now one k
  derived_back k l e =
      variable_symbol now roots h m.root rooted.root (m.functions ++ f ∷ []) k rooted.root_is l
      (e ∙ ap (λ (w : Variable). longer w f) rooted.variable)

  -- where it is there
  pub known_type : (k : ℕ) → IsNumberOf now one k → IsTypeIn now made k
  known_type k at = record {
    number = at;
    of = below now roots h one k at;
    root_of = root_below now roots h one k at;
    name = named_longer now.vars n k f (derived_there k at) ∙ is.name;
    set = coded_longer now.vars n k f (derived_there k at) ∙ ap (image_of f) is.set;
  }

  -- where it is made
  module _ (new_one : (k : ℕ) → IsNumberOf now one k → ⊥) (c : TypeVarContent) (kept : IsKept now.vars n c) where
    abbrev content : TypeVarContent
    content = derived_content now.vars n c g

    abbrev after : Registered
    after = with_one now content one

    placed : IsVariableAt after roots one (m.functions ++ f ∷ []) (length now.vars)
    placed = placed_by m.functions refl
      where
        at : (before : List Function) → before ++ f ∷ [] ≡ m.functions ++ f ∷ [] → IsDerivedAt after one (length now.vars)
        at before e = record {
          before = m.functions;
          last = g;
          parent = n;
          content = content;
          functions = refl;
          parent_is = number_stays now after (extends_one now content one) (symbol_of m) n is.number;
          derived = record {
            parent = c;
            kept = get_stays now.vars (content ∷ []) n c kept;
            is = content_stays now.vars (content ∷ []) n c g is.of is.root_of;
          };
          kept = get_end now.vars content;
        }

        placed_by : (before : List Function) → before ≡ m.functions → IsVariableAt after roots one (before ++ f ∷ []) (length now.vars)
        placed_by [] e = at [] (ap (λ (fs : List Function). fs ++ f ∷ []) e)
        placed_by (x ∷ xs) e = at (x ∷ xs) (ap (λ (fs : List Function). fs ++ f ∷ []) e)

    pub made_registry : IsRegistryOf after roots
    made_registry = registry_same now roots content one h new_one placed

    -- it has the next number
    pub made_number : IsNumberOf after one (length now.vars)
    made_number = subst (λ (k : ℕ). slice_get (now.symbols ++ one ∷ []) k ≡ Some one) (sym h.count) (get_end now.symbols one)

    -- its variable is what is derived
    pub made_variable : variable_at (now.vars ++ content ∷ []) (length now.vars) ≡ longer (variable_at now.vars n) f
    made_variable =
        let v = symbol_variable after roots made_registry one (length now.vars) made_number in
        let root_stays : IsNumberOf after (symbol m.root []) rooted.root =
        number_stays now after (extends_one now content one) (symbol m.root []) rooted.root rooted.root_is in
        let root : v.root ≡ rooted.root = made_registry.apart (symbol m.root []) v.root rooted.root v.root_is root_stays in
        v.variable
        ∙ (ap (λ (r : ℕ). record { root = r; chain = m.functions ++ f ∷ [] }) root
        ∙ ap (λ (w : Variable). longer w f) (sym rooted.variable))

    made_longer : variable_at (now.vars ++ content ∷ []) (length now.vars) ≡ longer (variable_at (now.vars ++ content ∷ []) n) f
    made_longer = made_variable ∙ ap (λ (w : Variable). longer w f) (sym (variable_stays now.vars (content ∷ []) n is.of))

    made_set : coded_at (now.vars ++ content ∷ []) (length now.vars) ≡ image_of f m.set
    made_set =
        coded_longer (now.vars ++ content ∷ []) n (length now.vars) f made_longer
        ∙ ap (image_of f) (coded_stays now.vars (content ∷ []) n is.of is.root_of ∙ is.set)

    pub made_type : IsTypeIn after made (length now.vars)
    made_type = record {
      number = made_number;
      of = below after roots made_registry one (length now.vars) made_number;
      root_of = root_below after roots made_registry one (length now.vars) made_number;
      name = named_longer (now.vars ++ content ∷ []) n (length now.vars) f made_longer
          ∙ (name_stays now.vars (content ∷ []) n is.of is.root_of ∙ is.name);
      set = made_set;
    }
