-- The parts of the text of an instruction set.
use Rattle.std.proofs.Common.{◌≡◌, ◌≢◌, ℕ, ◌==◌, cond, Bool, true, false, IsTrue, List, [], ◌∷◌, ◌++◌, ◌⊎◌, inl, inr, All, length, map}
use Rattle.std.proofs.Common.{get_or, slice_index, Option, None, Some, codes, refl, sym, ap, subst, arith}
use Rattle.std.specs.List.{flat_map}
use Rattle.std.specs.Fmt.{digits}
use Rattle.std.proofs.lemmas.Bool.{eqb-true}
use Rattle.std.proofs.lemmas.List.{nil_from_length}
use Rattle.std.proofs.lemmas.List.Elements.{All-map}
use Rattle.meta_types.specs.Name.{IsName}
use Rattle.meta_inst.specs.Tables.{TableContents, NumberConstraint}
use Rattle.meta_gen.specs.Constraint.{number_constraint_of}
use Rattle.meta_table_text.specs.declared.version.Version.{Version}
use Rattle.meta_table_text.specs.declared.version.Version.TheVariants.{One, Two, Three}
use Rattle.meta_table_text.specs.Lists.{list_head}
use Rattle.meta_table_text.specs.ConstraintText.{constraint_line}
use Rattle.meta_table_text.specs.OpcodeText.{camel_at, slot_line}
use Rattle.meta_table_text.specs.TableText.{version_line, sets_list, sets_part, constraints_part}
use Rattle.meta_table_reader.specs.Spans.{is_line}
use Rattle.meta_table_reader.proofs.Lacking.{line_after}
use Rattle.meta_table_reader.specs.Shown.{IsShownConstraint}
use Rattle.meta_table_reader.proofs.EntryComments.{camel_lacks}
use Rattle.meta_gen.proofs.Sameness.{constraint_from, number_constraint_back}

-- ---- the first line

pub version_is_line : (v : Version) → is_line (version_line v) ≡ true
unfolding version_line digits
version_is_line One = refl
version_is_line Two = refl
version_is_line Three = refl

-- the digit that stands for a version
abbrev pub digit : Version → ℕ
digit One = 49
digit Two = 50
digit Three = 51

pub digit_at : (v : Version) (rest : List ℕ) → slice_index (version_line v ++ rest) 22 ≡ digit v
unfolding version_line digits
digit_at One rest = refl
digit_at Two rest = refl
digit_at Three rest = refl

pub is_one : (v : Version) → digit v ≡ 49 → One ≡ v
is_one One e = refl
is_one Two e = absurd (omega (arith, e))
is_one Three e = absurd (omega (arith, e))

pub is_two : (v : Version) → digit v ≡ 50 → Two ≡ v
is_two One e = absurd (omega (arith, e))
is_two Two e = refl
is_two Three e = absurd (omega (arith, e))

pub is_three : (v : Version) → digit v ≢ 49 → digit v ≢ 50 → Three ≡ v
is_three One f g = absurd (f refl)
is_three Two f g = absurd (g refl)
is_three Three f g = refl

pub one_digit : (v w : Version) → digit v ≡ digit w → v ≡ w
one_digit One w e = is_one w (sym e)
one_digit Two w e = is_two w (sym e)
one_digit Three w e = is_three w (λ f. omega (arith, e, f)) (λ f. omega (arith, e, f))

-- ---- the slots

slot_is_line : (t : TableContents) → All IsName t.names → (slot : Option ℕ) → is_line (slot_line t slot) ≡ true
unfolding slot_line
slot_is_line t named None = refl
slot_is_line t named (Some op) = line_after (camel_at t op) (codes ")," ++ 10 ∷ []) (camel_lacks t op named) refl

pub slots_are_lines : (t : TableContents) → All IsName t.names → (slots : List (Option ℕ))
    → All (λ line. IsTrue (is_line line)) (map (slot_line t) slots)
slots_are_lines t named slots =
    All-map (λ line. IsTrue (is_line line)) (slot_line t) slots (λ k d within. slot_is_line t named (get_or slots k d))

-- ---- the type sets

-- there is no list, and that of the constraints stands there, or there is one
pub sets_cases : (t : TableContents) (rest text : List ℕ) → text ≡ sets_part t ++ (constraints_part t ++ rest)
    → ((slice_index text 12 ≡ 111) × (t.type_sets ≡ []) × (text ≡ constraints_part t ++ rest))
    ⊎ ((slice_index text 12 ≡ 118) × (text ≡ sets_list t ++ (constraints_part t ++ rest)))
unfolding sets_part sets_list constraints_part list_head
sets_cases t rest text e = by_test (length t.type_sets == 0) refl e
  where
    by_test : (b : Bool) → (length t.type_sets == 0) ≡ b → text ≡ cond b [] (sets_list t) ++ (constraints_part t ++ rest)
        → ((slice_index text 12 ≡ 111) × (t.type_sets ≡ []) × (text ≡ constraints_part t ++ rest))
        ⊎ ((slice_index text 12 ≡ 118) × (text ≡ sets_list t ++ (constraints_part t ++ rest)))
    by_test true none e = inl (ap (λ w. slice_index w 12) e, nil_from_length t.type_sets (eqb-true (length t.type_sets) 0 none), e)
    by_test false some e = inr (ap (λ w. slice_index w 12) e, e)

-- ---- the constraints

pub same_lines : (ns : List NumberConstraint) → flat_map (λ c. constraint_line (number_constraint_of c)) (map constraint_from ns)
    ≡ flat_map constraint_line ns
same_lines [] = refl
same_lines (n ∷ ns) = (λ i. constraint_line (number_constraint_back n i) ++ same_lines ns i)

pub same_numbers : (ns : List NumberConstraint) → map number_constraint_of (map constraint_from ns) ≡ ns
same_numbers [] = refl
same_numbers (n ∷ ns) = (λ i. number_constraint_back n i ∷ same_numbers ns i)

pub all_shown : (ns : List NumberConstraint) → All IsShownConstraint ns
    → All (λ c. IsShownConstraint (number_constraint_of c)) (map constraint_from ns)
all_shown ns shown = All-map (λ c. IsShownConstraint (number_constraint_of c)) constraint_from ns
    (λ k d within. subst IsShownConstraint (sym (number_constraint_back (get_or ns k d))) (shown k d within))
