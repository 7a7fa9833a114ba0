-- The type variables of a registry, in the order in which items first mention them: the number of each is its place.
--     Symbol                     a type variable: its root, and the functions that derive it from there
--     with_type symbols m        the symbols, and after them those of the type m that aren't among them
use Rattle.std.specs.Prelude.{ℕ, ◌==◌, ◌&&◌, Bool, false, List, [], ◌∷◌, ◌++◌, if◌then◌else◌}
use Rattle.std.specs.List.{list_any}
use Rattle.std.specs.Cmp.Lexicographic.{pointwise}
use Rattle.meta_types.specs.Function.{Function, LaneOf, AsTruthy, HalfWidth, DoubleWidth, SplitLanes, MergeLanes, DynamicToVector, Narrower}
use Rattle.meta_types.specs.Function.{Wider, same_kind, same_mark}
use Rattle.meta_types.specs.TypeParts.{TypeParts}
use Rattle.meta_file_types.specs.Meant.{Root, Declared, Plain, MeantType}

-- a type variable: its root, and the functions that derive it, from the root outwards
pub record Symbol : Type 0 where
  pub root : Root
  pub functions : List Function

abbrev pub symbol : Root → List Function → Symbol
symbol root functions = record { root = root; functions = functions }

abbrev pub symbol_of : MeantType → Symbol
symbol_of m = symbol m.root m.functions

-- ---- whether two are the same

abbrev pub same_type : TypeParts → TypeParts → Bool
same_type t u = (same_kind t.kind u.kind && t.width == u.width) && (t.lanes == u.lanes && same_mark t.is_dynamic u.is_dynamic)

abbrev pub same_root : Root → Root → Bool
same_root (Declared k) (Declared l) = k == l
same_root (Declared k) (Plain u) = false
same_root (Plain t) (Declared l) = false
same_root (Plain t) (Plain u) = same_type t u

-- the functions by numbers
abbrev pub function_number : Function → ℕ
function_number LaneOf = 0
function_number AsTruthy = 1
function_number HalfWidth = 2
function_number DoubleWidth = 3
function_number SplitLanes = 4
function_number MergeLanes = 5
function_number DynamicToVector = 6
function_number Narrower = 7
function_number Wider = 8

abbrev pub same_function : Function → Function → Bool
same_function f g = function_number f == function_number g

abbrev pub same_symbol : Symbol → Symbol → Bool
same_symbol s t = same_root s.root t.root && pointwise same_function s.functions t.functions

-- ---- mentioning a type

-- the type variables of a type: its root, and what its functions derive, one after the other
abbrev pub symbols_along : Root → List Function → List Function → List Symbol
symbols_along root before [] = symbol root before ∷ []
symbols_along root before (f ∷ fs) = symbol root before ∷ symbols_along root (before ++ f ∷ []) fs

abbrev pub symbols_of : MeantType → List Symbol
symbols_of m = symbols_along m.root [] m.functions

-- the symbols, and one more, unless it is among them
abbrev pub with_symbol : List Symbol → Symbol → List Symbol
with_symbol symbols s = if list_any (same_symbol s) symbols then symbols else symbols ++ s ∷ []

abbrev pub with_symbols : List Symbol → List Symbol → List Symbol
with_symbols symbols [] = symbols
with_symbols symbols (s ∷ more) = with_symbols (with_symbol symbols s) more

abbrev pub with_type : List Symbol → MeantType → List Symbol
with_type symbols m = with_symbols symbols (symbols_of m)
