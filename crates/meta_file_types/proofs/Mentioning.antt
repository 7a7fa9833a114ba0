-- The symbols where a type is mentioned.
use Rattle.std.proofs.Common.{◌≡◌, ◌∙◌, List, [], ◌∷◌, ◌++◌, refl, ap}
use Rattle.std.proofs.lemmas.List.{append_assoc}
use Rattle.meta_types.specs.Function.{Function}
use Rattle.meta_file_types.specs.Meant.{Root, MeantType, derived_by}
use Rattle.meta_file_types.specs.Symbols.{Symbol, symbol, symbol_of, symbols_along, symbols_of, with_symbol, with_symbols, with_type}

pub with_more : (symbols xs ys : List Symbol) → with_symbols symbols (xs ++ ys) ≡ with_symbols (with_symbols symbols xs) ys
with_more symbols [] ys = refl
with_more symbols (x ∷ xs) ys = with_more (with_symbol symbols x) xs ys

pub along_last : (root : Root) (before fs : List Function) (f : Function)
    → symbols_along root before (fs ++ f ∷ []) ≡ symbols_along root before fs ++ symbol root (before ++ (fs ++ f ∷ [])) ∷ []
along_last root before [] f = refl
along_last root before (g ∷ gs) f =
    ap (λ (ss : List Symbol). symbol root before ∷ ss)
    (along_last root (before ++ g ∷ []) gs f
    ∙ ap (λ (hs : List Function). symbols_along root (before ++ g ∷ []) gs ++ symbol root hs ∷ []) (append_assoc before (g ∷ [])
    (gs ++ f ∷ [])))

-- what is derived is mentioned after that from which it is derived
pub with_derived : (symbols : List Symbol) (m : MeantType) (f : Function)
    → with_type symbols (derived_by f m) ≡ with_symbol (with_type symbols m) (symbol_of (derived_by f m))
with_derived symbols m f =
    ap (with_symbols symbols) (along_last m.root [] m.functions f)
    ∙ with_more symbols (symbols_of m) (symbol_of (derived_by f m) ∷ [])
