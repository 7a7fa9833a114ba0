-- The numbers of types and their names.
use Rattle.std.proofs.Common.{◌≡◌, ◌≢◌, ℕ, ◌+◌, ◌*◌, Bool, true, false, cond, List, [], ◌∷◌, ◌++◌, take, drop, Contains, Option, Some, None}
use Rattle.std.proofs.Common.{IfSome, IfNone, lit<, refl, sym, ap, ap₂, ◌∙◌, subst, arith, if◌then◌else◌}
use Rattle.std.specs.Prelude.{nat_eq}
use Rattle.std.specs.Fmt.{digits}
use Rattle.std.specs.Option.{option_map, option_or, option_and_then}
use Rattle.std.specs.Cmp.Lexicographic.{bytes_decides, pointwise}
use Rattle.std.proofs.lemmas.Bool.{eqb-true}
use Rattle.std.proofs.lemmas.List.{take-append-drop}
use Rattle.meta_types.specs.TypeParts.{NumberKind, IntKind, FloatKind, TypeParts, IsType, widths, lane_counts, log2, lane_code, lane_name}
use Rattle.meta_types.specs.TypeParts.{lanes_name, number_of, name_of}
use Rattle.meta_types.specs.TypeNumber.{type_with, IsTypeNumber, IsNameOf, found_in, lane_codes, fixed_rows, dynamic_rows, row_of}
use Rattle.meta_types.specs.TypeNumber.{lane_length, number_of_parts, number_named}
use Rattle.meta_types.specs.ValueTypes.{type_parts_of}
use Rattle.meta_types.specs.declared.value_type.ValueType.{ValueType}
use Rattle.meta_types.proofs.AllTypes.{at_all, at_all_types, same_parts, same_parts_true}
use Rattle.meta_types.proofs.Numbers.{one_number}
use Rattle.meta_types.proofs.Typed.{typed}

-- ---- each type has a number, and its name gives it

all_types_back : at_all (λ t. same_parts (type_with (number_of t)) t) ≡ true
all_types_back = refl

-- the type with the number of a type is that type
pub type_back : (t : TypeParts) → IsType t → type_with (number_of t) ≡ t
type_back t is =
    same_parts_true (type_with (number_of t)) t (at_all_types (λ t. same_parts (type_with (number_of t)) t) all_types_back t is)

-- so the number of a type is one
pub number_is_one : (t : TypeParts) → IsType t → IsTypeNumber (number_of t)
number_is_one t is = record { is_type = subst IsType (sym (type_back t is)) is; numbered = ap number_of (type_back t is) }

-- it is this number
abbrev is_some : Option ℕ → ℕ → Bool
is_some None n = false
is_some (Some m) n = nat_eq m n

all_named : at_all (λ t. is_some (number_named (name_of t)) (number_of t)) ≡ true
unfolding digits
all_named = refl

some_is : (o : Option ℕ) (n : ℕ) → is_some o n ≡ true → o ≡ Some n
some_is None n e = absurd (cc)
some_is (Some m) n e = ap (λ k. Some k) (eqb-true m n e)

-- the name of a type gives its number
pub name_numbered : (t : TypeParts) → IsType t → number_named (name_of t) ≡ Some (number_of t)
name_numbered t is =
    some_is (number_named (name_of t)) (number_of t) (at_all_types (λ t. is_some (number_named (name_of t)) (number_of t)) all_named t is)

-- ---- and a text that gives a number is the name of its type

-- what holds of each row of a table
AllRows : (List ℕ → ℕ → Type 0) → List (List ℕ × ℕ) → Type 0
AllRows P [] = Unit {0}
AllRows P ((name, n) ∷ rows) = P name n × AllRows P rows

-- holds of what is found there
found_row : (P : List ℕ → ℕ → Type 0) (rows : List (List ℕ × ℕ)) → AllRows P rows → (text : List ℕ) (n : ℕ) → found_in rows text ≡ Some n
    → P text n
unfolding AllRows
found_row P [] all text n e = absurd (cc)
found_row P ((name, m) ∷ rows) (first, rest) text n e = by_test (pointwise nat_eq text name) refl e (λ e. found_row P rows rest text n e)
  where
    by_test : (b : Bool) → pointwise nat_eq text name ≡ b → cond b (Some m) (found_in rows text) ≡ Some n
        → (found_in rows text ≡ Some n → P text n) → P text n
    by_test true same e below =
        let number : m ≡ n = cc in
        subst (λ k. P text k) number (subst (λ t. P t m) (sym ((bytes_decides text name).0 same)) first)
    by_test false other e below = below e

-- the text is the name of a lane with this code
record IsLane (text : List ℕ) (code : ℕ) : Type 0 where
  kind : NumberKind
  width : ℕ
  is_width : Contains (widths kind) width
  named : text ≡ lane_name kind width
  coded : code ≡ lane_code kind width

lane : (kind : NumberKind) (width : ℕ) → Contains (widths kind) width → (text : List ℕ) → text ≡ lane_name kind width
    → IsLane text (lane_code kind width)
lane kind width is text e = record { kind = kind; width = width; is_width = is; named = e; coded = refl }

is_lane : (text : List ℕ) (code : ℕ) → found_in lane_codes text ≡ Some code → IsLane text code
unfolding AllRows digits
is_lane text code e = found_row IsLane lane_codes (
  lane IntKind 8 (0, lit< tt, refl) _ refl,
  (
    lane IntKind 16 (1, lit< tt, refl) _ refl,
    (
      lane IntKind 32 (2, lit< tt, refl) _ refl,
      (
        lane IntKind 64 (3, lit< tt, refl) _ refl,
        (
          lane IntKind 128 (4, lit< tt, refl) _ refl,
          (
            lane FloatKind 16 (0, lit< tt, refl) _ refl,
            (
              lane FloatKind 32 (1, lit< tt, refl) _ refl,
              (
                lane FloatKind 64 (2, lit< tt, refl) _ refl,
                (lane FloatKind 128 (3, lit< tt, refl) _ refl, tt),
              ),
            ),
          ),
        ),
      ),
    ),
  ),
) text code e

-- the text is what a name has after that of its lane, with this row
record IsAfterLane (text : List ℕ) (row : ℕ) : Type 0 where
  lanes : ℕ
  is_dynamic : Bool
  may : Contains (lane_counts is_dynamic) lanes
  written : text ≡ lanes_name lanes is_dynamic
  doubled : 16 * row ≡ 16 * log2 lanes + (if is_dynamic then 0x80 else 0)

lanes_of : (lanes : ℕ) (is_dynamic : Bool) → Contains (lane_counts is_dynamic) lanes → (text : List ℕ) (row : ℕ)
    → text ≡ lanes_name lanes is_dynamic → 16 * row ≡ 16 * log2 lanes + (if is_dynamic then 0x80 else 0) → IsAfterLane text row
lanes_of lanes is_dynamic may text row e d = record { lanes = lanes; is_dynamic = is_dynamic; may = may; written = e; doubled = d }

is_fixed : (text : List ℕ) (row : ℕ) → found_in fixed_rows text ≡ Some row → IsAfterLane text row
unfolding AllRows digits
is_fixed text row e = found_row IsAfterLane fixed_rows (
  lanes_of 1 false (0, lit< tt, refl) _ _ refl refl,
  (
    lanes_of 2 false (1, lit< tt, refl) _ _ refl refl,
    (
      lanes_of 4 false (2, lit< tt, refl) _ _ refl refl,
      (
        lanes_of 8 false (3, lit< tt, refl) _ _ refl refl,
        (
          lanes_of 16 false (4, lit< tt, refl) _ _ refl refl,
          (
            lanes_of 32 false (5, lit< tt, refl) _ _ refl refl,
            (
              lanes_of 64 false (6, lit< tt, refl) _ _ refl refl,
              (
                lanes_of 128 false (7, lit< tt, refl) _ _ refl refl,
                (lanes_of 256 false (8, lit< tt, refl) _ _ refl refl, tt),
              ),
            ),
          ),
        ),
      ),
    ),
  ),
) text row e

is_dynamic_row : (text : List ℕ) (row : ℕ) → found_in dynamic_rows text ≡ Some row → IsAfterLane text row
unfolding AllRows digits
is_dynamic_row text row e = found_row IsAfterLane dynamic_rows (
  lanes_of 2 true (0, lit< tt, refl) _ _ refl refl,
  (
    lanes_of 4 true (1, lit< tt, refl) _ _ refl refl,
    (
      lanes_of 8 true (2, lit< tt, refl) _ _ refl refl,
      (
        lanes_of 16 true (3, lit< tt, refl) _ _ refl refl,
        (
          lanes_of 32 true (4, lit< tt, refl) _ _ refl refl,
          (
            lanes_of 64 true (5, lit< tt, refl) _ _ refl refl,
            (
              lanes_of 128 true (6, lit< tt, refl) _ _ refl refl,
              (lanes_of 256 true (7, lit< tt, refl) _ _ refl refl, tt),
            ),
          ),
        ),
      ),
    ),
  ),
) text row e

is_after : (text : List ℕ) (row : ℕ) → row_of text ≡ Some row → IsAfterLane text row
is_after text row e = by_fixed (found_in fixed_rows text) refl e
  where
    by_fixed : (o : Option ℕ) → found_in fixed_rows text ≡ o → option_or o (found_in dynamic_rows text) ≡ Some row → IsAfterLane text row
    by_fixed None none e = is_dynamic_row text row e
    by_fixed (Some k) found e = is_fixed text row (found ∙ e)

of_type : (t : TypeParts) → IsType t → (text : List ℕ) (n : ℕ) → name_of t ≡ text → number_of t ≡ n → IsNameOf text n
of_type t is text n named numbered =
    let back : type_with n ≡ t = ap type_with (sym numbered) ∙ type_back t is in
    record {
      number = record { is_type = subst IsType (sym back) is; numbered = ap number_of back ∙ numbered };
      named = ap name_of back ∙ named;
    }

of_parts : (lane lanes : List ℕ) (code row : ℕ) → IsLane lane code → IsAfterLane lanes row
    → IsNameOf (lane ++ lanes) (0x70 + code + 16 * row)
of_parts lane lanes code row l b =
    of_type (record { kind = l.kind; width = l.width; lanes = b.lanes; is_dynamic = b.is_dynamic })
    (record { width = l.is_width; lanes = b.may }) (lane ++ lanes) (0x70 + code + 16 * row)
    (ap₂ (λ front after. front ++ after) (sym l.named) (sym b.written))
    (let e = l.coded in let d = b.doubled in omega (arith, e, d))

-- ---- of a name that is cut after that of its lane

module _ (text lane lanes : List ℕ) (end : ℕ) (is : end ≡ lane_length text) (front : lane ≡ take end text) (back : lanes
    ≡ drop end text) where
  -- it is the name of the type whose code and row are found
  pub named_by : (code row : ℕ) → found_in lane_codes lane ≡ Some code → row_of lanes ≡ Some row → IsNameOf text (0x70 + code + 16 * row)
  named_by code row c r =
      let whole : lane ++ lanes ≡ text = ap₂ (λ (x y : List ℕ). x ++ y) front back ∙ take-append-drop end text in
      subst (λ t. IsNameOf t (0x70 + code + 16 * row)) whole (of_parts lane lanes code row (is_lane lane code c) (is_after lanes row r))

  parts : number_named text ≡ number_of_parts lane lanes
  parts = ap (λ n. number_of_parts (take n text) (drop n text)) (sym is)
      ∙ ap₂ (λ (x y : List ℕ). number_of_parts x y) (sym front) (sym back)

  no_name : number_of_parts lane lanes ≡ None → (t : TypeParts) → IsType t → name_of t ≢ text
  no_name none t typed e =
      let some : number_named text ≡ Some (number_of t) = ap number_named (sym e) ∙ name_numbered t typed in
      let same : None ≡ Some (number_of t) = sym none ∙ sym parts ∙ some in
      absurd (cc)

  -- and no type's where either isn't found
  pub no_lane : found_in lane_codes lane ≡ None → (t : TypeParts) → IsType t → name_of t ≢ text
  no_lane none = no_name (ap (option_and_then (λ code. option_map (λ row. 0x70 + code + 16 * row) (row_of lanes))) none)

  pub no_row : row_of lanes ≡ None → (t : TypeParts) → IsType t → name_of t ≢ text
  no_row none = no_name (by_code (found_in lane_codes lane))
    where
      by_code : (o : Option ℕ) → option_and_then (λ code. option_map (λ row. 0x70 + code + 16 * row) (row_of lanes)) o ≡ None
      by_code None = refl
      by_code (Some code) = ap (option_map (λ row. 0x70 + code + 16 * row)) none

-- ---- from the number to the value

-- the value of the number has the name
pub value_named : (o : Option ValueType) (n : ℕ) (text : List ℕ) → IsNameOf text n → IfSome o (λ t. number_of (type_parts_of t) ≡ n)
    → IfSome o (λ t. name_of (type_parts_of t) ≡ text)
value_named None n text is e = tt
value_named (Some t) n text is e =
    ap name_of (one_number (type_parts_of t) (type_with n) (typed t) is.number.is_type (e ∙ sym is.number.numbered)) ∙ is.named

-- and there is one
pub value_there : (o : Option ValueType) (n : ℕ) (text : List ℕ) → IsNameOf text n
    → IfNone o ((t : TypeParts) → IsType t → number_of t ≢ n) → IfNone o ((t : TypeParts) → IsType t → name_of t ≢ text)
value_there None n text is none = absurd (none (type_with n) is.number.is_type is.number.numbered)
value_there (Some t) n text is none = tt
