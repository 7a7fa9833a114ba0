-- What is said of an item that can't be declared.
--     declare_why lines reason     why, with the lines of all items
use Rattle.std.specs.Prelude.{ℕ, List, [], ◌∷◌, ◌++◌, slice_get, codes}
use Rattle.std.specs.List.{join_by}
use Rattle.std.specs.Option.{option_map_or}
use Rattle.std.specs.Fmt.{decimal}
use Rattle.meta_file_syntax.specs.Laid.{escaped}
use Rattle.meta_file_syntax.specs.Words.{function_text, dimension_text}
use Rattle.meta_file_syntax.specs.declared.name.Name.{Name}
use Rattle.meta_file_syntax.specs.declared.name.Name.TheVariants as names
use Rattle.meta_types.specs.declared.derived_func.DerivedFunc.{DerivedFunc}
use Rattle.meta_file_syntax.specs.declared.types.Dimension.{Dimension}
use Rattle.meta_file_types.specs.Sets.{numbers_of}
use Rattle.meta_file_types.specs.declared.refused.Reason.{Reason}
use Rattle.meta_file_types.specs.declared.refused.Reason.TheVariants as reasons
use Rattle.meta_file_reader.specs.Reason.{back_quoted}

-- ---- as it is written

-- a text between quotes
abbrev pub quoted_text : List ℕ → List ℕ
quoted_text text = 34 ∷ (escaped text ++ 34 ∷ [])

-- a name: a word, or a text between its quotes
unfoldable pub written_name : Name → List ℕ
written_name (names.Plain w) = w
written_name (names.Quoted t) = quoted_text t

-- a name where a word is told: between backquotes
abbrev pub shown_name : Name → List ℕ
shown_name (names.Plain w) = back_quoted w
shown_name (names.Quoted t) = quoted_text t

-- functions, each with its parenthesis, and as many parentheses to close them
abbrev pub opened : List DerivedFunc → List ℕ
opened [] = []
opened (f ∷ fs) = function_text f ++ (40 ∷ opened fs)

abbrev pub closed : List DerivedFunc → List ℕ
closed [] = []
closed (f ∷ fs) = 41 ∷ closed fs

-- a type: `narrower(lane_of(Any))`
unfoldable pub written_type : List DerivedFunc → List ℕ → List ℕ
written_type fs w = opened fs ++ (w ++ closed fs)

-- ---- parts of what is said

-- the line of the item at a place
abbrev pub line_at_place : List ℕ → ℕ → List ℕ
line_at_place lines place = option_map_or decimal (slice_get lines place) []

-- the item at a place declares the word
abbrev pub declared_in : List ℕ → List ℕ → ℕ → List ℕ
declared_in lines w place = back_quoted w ++ (codes " is declared in line " ++ line_at_place lines place)

-- a function can't be applied to a type
abbrev pub no_derivation : DerivedFunc → List DerivedFunc → List ℕ → List ℕ
no_derivation f fs w = function_text f ++ (codes " cannot be derived from " ++ written_type fs w)

-- a function is one too many after the root of what the word stands for
abbrev pub too_deep : List ℕ → DerivedFunc → List ℕ
too_deep w f = function_text f ++ (codes " is the 65th function after the root of " ++ back_quoted w)

-- the numbers that a part may have
unfoldable pub numbers_text : Dimension → List ℕ
numbers_text d = join_by decimal (codes ", ") (numbers_of d)

-- a number that it can't have
abbrev pub none_of : List ℕ → List ℕ
none_of numbers = codes " is none of " ++ numbers

abbrev pub no_number : Dimension → ℕ → List ℕ
no_number d n = decimal n ++ none_of (numbers_text d)

-- a range whose low end is above its high end
abbrev pub empty_range : ℕ → ℕ → List ℕ
empty_range low high = decimal low ++ (codes ".." ++ (decimal high ++ codes " has no member"))

-- a value of an enum with the name of an earlier one
abbrev pub twice : Name → List ℕ
twice n = written_name n ++ codes " stands twice"

abbrev pub value_twice : Name → List ℕ
value_twice n = codes "the value " ++ twice n

-- a name in a preset that stands for nothing
abbrev pub no_entry : Name → List ℕ
no_entry n = codes "no boolean or preset of the group is named " ++ (shown_name n ++ codes " above")

-- a word with a text before it and one after it
abbrev pub about : List ℕ → List ℕ → List ℕ → List ℕ
about front w rest = front ++ (back_quoted w ++ rest)

-- ---- each reason

abbrev pub declare_why : List ℕ → Reason → List ℕ
declare_why lines reasons.NotText = codes "the line is not UTF-8"
declare_why lines (reasons.DocumentedAlias w) = about [] w (codes " is another word for a type, and has no documentation of its own")
declare_why lines (reasons.PartTwice d) = dimension_text d ++ codes " stands twice"
declare_why lines (reasons.NoNumber d n) = no_number d n
declare_why lines (reasons.EmptyRange low high) = empty_range low high
declare_why lines reasons.DynamicAlone =
    codes "dynamic stands without lanes: lanes none is for dynamic vectors alone, lanes 1 for scalars besides"
declare_why lines (reasons.LikeDerived w) = about [] w (codes " is derived")
declare_why lines (reasons.Unknown w) = about (codes "nothing is named ") w (codes " above")
declare_why lines (reasons.NoType w) = about [] w (codes " is a kind and no type")
declare_why lines (reasons.NoKind w) = about [] w (codes " is a type: a format has value")
declare_why lines (reasons.CannotDerive f fs w) = no_derivation f fs w
declare_why lines (reasons.TooDeep f w) = too_deep w f
declare_why lines (reasons.LongName w) =
    about (codes "nothing can be derived from ") w (codes ": the name of its root has more than 4,096 bytes")
declare_why lines (reasons.ValueTwice n) = value_twice n
declare_why lines (reasons.OwnMeaning w) = about [] w (codes " has a meaning of its own")
declare_why lines (reasons.Declared w place) = declared_in lines w place
declare_why lines (reasons.FormatDeclared w place) = codes "format " ++ declared_in lines w place
declare_why lines (reasons.TwoDesignated k) = codes "two values are designated"
declare_why lines (reasons.UnknownFormat w) = about (codes "no format is named ") w (codes " above")
declare_why lines (reasons.SecondTwice k) = codes "a second control is named twice"
declare_why lines reasons.NoGroup = codes "a setting stands after its group"
declare_why lines (reasons.NoEntry n) = no_entry n
