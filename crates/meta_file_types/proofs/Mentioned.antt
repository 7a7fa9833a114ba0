-- A type that a registry has is mentioned already.
use Rattle.std.proofs.Common.{◌≡◌, ◌∙◌, ◌<◌, ◌≤◌, ◌+◌, ℕ, zero, suc, List, [], ◌∷◌, ◌++◌, length, sym, ap, subst, refl, arith}
use Rattle.std.specs.Prelude.{Some, Result, Ok, Err, OnOk}
use Rattle.std.proofs.lemmas.List.{length-append}
use Rattle.meta_types.specs.Function.{Function}
use Rattle.meta_types.specs.DerivedFunc.{function_of}
use Rattle.meta_types.specs.TypeParts.{TypeParts}
use Rattle.meta_file_types.specs.declared.refused.Reason.{Reason}
use Rattle.meta_file_types.specs.declared.refused.ItemError.{ItemError}
use Rattle.meta_file_types.specs.declared.refused.ItemError.TheVariants.{Memory, Wrong}
use Rattle.meta_file_types.specs.declared.types.Types.{Types}
use Rattle.meta_file_types.specs.Meant.{MeantType, MeantRoot, plain}
use Rattle.meta_file_types.specs.Plain.{plain_type}
use Rattle.meta_file_types.specs.Symbols.{Symbol, symbol, symbol_of, symbols_along, with_symbol, with_symbols, with_type}
use Rattle.meta_file_types.specs.Words.{type_named}
use Rattle.meta_file_types.specs.Said.{Said, with_meant, mentioning}
use Rattle.meta_file_types.specs.Telling.{IsMeant, Tells}
use Rattle.meta_file_types.specs.Registered.{Registered, IsNumberOf, IsVariableAt, IsRegistryOf, IsTypeIn, Extends}
use Rattle.meta_file_types.specs.Held.{registered, HoldsIn, Holds}
use Rattle.meta_file_types.proofs.SameSymbol.{with_known}
use Rattle.meta_file_types.proofs.Mentioning.{with_more, along_last}
use Rattle.meta_file_types.proofs.Staying.{extends_same}
use Rattle.meta_file_types.proofs.Naming.{named_by, sense_plain}

-- mentioning it adds nothing
abbrev IsThere : Registered → Symbol → Type 0
IsThere r s = with_symbols r.symbols (symbols_along s.root [] s.functions) ≡ r.symbols

there_by : (r : Registered) (roots : List MeantRoot) (s : Symbol) (n : ℕ) → IsNumberOf r s n
    → ((t : Symbol) (m : ℕ) → length t.functions < length s.functions → IsNumberOf r t m → IsThere r t)
    → (fs : List Function) → s.functions ≡ fs → IsVariableAt r roots s fs n → IsThere r s
there_by r roots s n at shorter [] e v =
    ap (λ (fs : List Function). with_symbols r.symbols (symbols_along s.root [] fs)) e
    ∙ with_known (symbol s.root []) r.symbols n (subst (λ (fs : List Function). IsNumberOf r (symbol s.root fs) n) e at)
there_by r roots s n at shorter (f ∷ fs) e d =
    let long : length s.functions ≡ length d.before + 1 = ap length d.functions ∙ length-append d.before (function_of d.last ∷ []) in
    let last : Symbol = symbol s.root (d.before ++ function_of d.last ∷ []) in
    ap (λ (gs : List Function). with_symbols r.symbols (symbols_along s.root [] gs)) d.functions
    ∙ (ap (with_symbols r.symbols) (along_last s.root [] d.before (function_of d.last))
    ∙ (with_more r.symbols (symbols_along s.root [] d.before) (last ∷ [])
    ∙ (ap (λ (ss : List Symbol). with_symbol ss last) (shorter (symbol s.root d.before) d.parent (omega arith) d.parent_is)
    ∙ with_known last r.symbols n (subst (λ (gs : List Function). IsNumberOf r (symbol s.root gs) n) d.functions at))))

there_of : (r : Registered) (roots : List MeantRoot) → IsRegistryOf r roots → (k : ℕ) (s : Symbol) (n : ℕ) → length s.functions ≤ k
    → IsNumberOf r s n → IsThere r s
there_of r roots h zero s n l at =
    there_by r roots s n at (λ t m fewer there. absurd (omega arith)) s.functions refl (h.variables s n at)
there_of r roots h (suc k) s n l at =
    there_by r roots s n at (λ t m fewer there. there_of r roots h k t m (omega arith) there) s.functions refl (h.variables s n at)

pub with_there : (r : Registered) (roots : List MeantRoot) → IsRegistryOf r roots → (m : MeantType) (n : ℕ) → IsTypeIn r m n
    → with_type r.symbols m ≡ r.symbols
with_there r roots h m n is = there_of r roots h (length m.functions) (symbol_of m) n (omega arith) is.number

-- ---- what is told of a type that is there

module _ (t : Types) (s : Said) (h : Holds t s) (a : Result MeantType Reason) where
  same : (n : ℕ) → IsMeant (IsTypeIn (registered t s)) n a → s.symbols ≡ with_meant s.symbols a
  same n m = sym (ap (with_meant s.symbols) m.is ∙ with_there (registered t s) s.roots h.registry m.meaning n m.by)

  pub there_means : (result : Result ℕ ItemError) → Tells (IsTypeIn (registered t s)) result a
      → Tells (IsTypeIn (registered t (mentioning s a))) result a
  there_means (Ok n) m = record {
    meaning = m.meaning;
    is = m.is;
    by = subst (λ (ss : List Symbol). IsTypeIn (record { vars = t.vars; symbols = ss }) m.meaning n) (same n m) m.by;
  }
  there_means (Err Memory) m = tt
  there_means (Err (Wrong reason)) m = m

  pub there_holds : (result : Result ℕ ItemError) → Tells (IsTypeIn (registered t s)) result a → OnOk result (Holds t (mentioning s a))
  there_holds (Ok n) m =
      subst (λ (ss : List Symbol). HoldsIn (record { vars = t.vars; symbols = ss }) t.plain.items t.words s.roots s.words) (same n m) h
  there_holds (Err e) m = tt

  pub there_extends : (result : Result ℕ ItemError) → Tells (IsTypeIn (registered t s)) result a
      → OnOk result (Extends (registered t s) (registered t (mentioning s a)))
  there_extends (Ok n) m =
      subst (λ (ss : List Symbol). Extends (registered t s) (record { vars = t.vars; symbols = ss })) (same n m) (extends_same
      (registered t s))
  there_extends (Err e) m = tt

-- ---- what is told of a plain type's name

module _ (s : Said) (w : List ℕ) (t : TypeParts) (plain_is : plain_type w ≡ Some t) where
  named : type_named s.words w ≡ Ok (plain t)
  named = named_by s.words w _ (sense_plain s.words w t plain_is)

  pub named_means : (new : Types) (n : ℕ) → IsTypeIn (registered new (mentioning s (Ok (plain t)))) (plain t) n
      → IsMeant (IsTypeIn (registered new (mentioning s (type_named s.words w)))) n (type_named s.words w)
  named_means new n h = record {
    meaning = plain t;
    is = named;
    by = subst (λ (a : Result MeantType Reason). IsTypeIn (registered new (mentioning s a)) (plain t) n) (sym named) h;
  }

  pub named_holds : (new : Types) → Holds new (mentioning s (Ok (plain t))) → Holds new (mentioning s (type_named s.words w))
  named_holds new h = subst (λ (a : Result MeantType Reason). Holds new (mentioning s a)) (sym named) h

  pub named_extends : (old : Registered) (new : Types) → Extends old (registered new (mentioning s (Ok (plain t))))
      → Extends old (registered new (mentioning s (type_named s.words w)))
  named_extends old new h = subst (λ (a : Result MeantType Reason). Extends old (registered new (mentioning s a))) (sym named) h
