-- The comments in the block of an opcode.
use Rattle.std.proofs.Common.{◌≡◌, ℕ, zero, suc, ◌+◌, ◌/◌, ◌%◌, ◌==◌, cond, ◌&&◌, Bool, true, false, IsTrue, List, [], ◌∷◌, ◌++◌, All}
use Rattle.std.proofs.Common.{length, map, drop, slice_get, Option, None, Some, codes, refl, sym, ap, ◌∙◌, subst, append_assoc, append-nil}
use Rattle.std.proofs.Common.{arith}
use Rattle.std.specs.List.{flat_map, list_all}
use Rattle.std.specs.Fmt.{decimal}
use Rattle.std.proofs.lemmas.Bool.{and_from}
use Rattle.std.proofs.lemmas.List.{length-append}
use Rattle.std.proofs.lemmas.List.Folds.{list_all-append}
use Rattle.std.proofs.lemmas.List.Elements.{All-map, All-weaker, All-take, All-drop}
use Rattle.std.proofs.lemmas.Grind.{flat_map-append}
use Rattle.std.proofs.lemmas.Option.{get_or_from_slice_get, slice_get_within}
use Rattle.meta_types.specs.Name.{IsName}
use Rattle.meta_types.specs.TypeNumber.{type_with}
use Rattle.meta_types.specs.CamelCase.{camel_case_of}
use Rattle.meta_inst.specs.Tables.{TableContents, OpcodeNumbers, NumberConstraint, ConcreteNumber, FreeOf, SameNumber, ByNumber}
use Rattle.meta_inst.specs.Tables.{at_opcode, no_type_set, result_count, value_count}
use Rattle.meta_table_text.specs.declared.version.Version.{Version}
use Rattle.meta_table_text.specs.declared.version.Version.TheVariants.{One, Two, Three}
use Rattle.meta_table_text.specs.TypeSetText.{set_or_nothing, set_comment, block_end}
use Rattle.meta_table_text.specs.ConstraintText.{type_text, constraint_text, quoted, quoted_all, constraints_comment}
use Rattle.meta_table_text.specs.OpcodeText.{or_nothing, camel_at, bool_text, flags_comment, constraints_of, control_comment}
use Rattle.meta_table_text.specs.OpcodeText.{second_comment, entry_comments}
use Rattle.meta_table_reader.specs.Spans.{lacks, is_line}
use Rattle.meta_table_reader.proofs.Ends.{number_lacks}
use Rattle.meta_table_reader.proofs.Lacking.{both_lack, line_after}
use Rattle.meta_table_reader.specs.EntryLines.{control_lines, second_lines}
use Rattle.meta_table_reader.specs.Shown.{IsShownConstraint}
use Rattle.meta_table_reader.proofs.SetLines.{HasNoEnd, parted_lacks, set_or_nothing_lacks, set_comment_line, are_lines}
use Rattle.meta_table_reader.proofs.TypesRead.{rust_name_lacks, type_text_is}
use Rattle.meta_table_reader.proofs.Controls.{word_no_end}
use Rattle.meta_table_reader.proofs.NameBytes.{camel_case_lacks}

-- ---- no end of a line stands in what the comments show

pub constraint_lacks : (c : NumberConstraint) → IsShownConstraint c → HasNoEnd (constraint_text c)
constraint_lacks (ConcreteNumber n) shown =
    let named = ap type_text (sym shown.numbered) ∙ type_text_is (type_with n) shown.is_type in
    both_lack 10 (type_text n) (codes ")") (ap (lacks 10) named ∙ rust_name_lacks (type_with n) shown.is_type) refl
constraint_lacks (FreeOf j) small = both_lack 10 (decimal j) (codes ")") (number_lacks 10 refl j (omega (arith, small))) refl
constraint_lacks (SameNumber which) shown = word_no_end (SameNumber which) tt
constraint_lacks (ByNumber which f) shown = word_no_end (ByNumber which f) tt

quoted_lacks : (c : NumberConstraint) → IsShownConstraint c → HasNoEnd (quoted c)
unfolding quoted
quoted_lacks c shown = both_lack 10 (constraint_text c) (codes "'") (constraint_lacks c shown) refl

quoted_all_lack : (cs : List NumberConstraint) → All IsShownConstraint cs → HasNoEnd (quoted_all cs)
unfolding quoted_all
quoted_all_lack cs shown = parted_lacks [] (map quoted cs) refl
    (All-map HasNoEnd quoted cs (All-weaker IsShownConstraint (λ c. HasNoEnd (quoted c)) quoted_lacks cs shown))

name_in_camel_lacks : (name : Option (List ℕ)) → ((n : List ℕ) → name ≡ Some n → IsName n) → HasNoEnd (camel_case_of (or_nothing name))
name_in_camel_lacks None named = refl
name_in_camel_lacks (Some name) named = camel_case_lacks name (named name refl)

at_named : (names : List (List ℕ)) (op : ℕ) → All IsName names → (n : List ℕ) → at_opcode names op ≡ Some n → IsName n
at_named names zero named n e = absurd (cc)
at_named names (suc k) named n e = subst IsName (get_or_from_slice_get names k n n e) (named k n (slice_get_within names k n e))

pub camel_lacks : (t : TableContents) (op : ℕ) → All IsName t.names → HasNoEnd (camel_at t op)
unfolding camel_at
camel_lacks t op named = name_in_camel_lacks (at_opcode t.names op) (at_named t.names op named)

bool_lacks : (b : Bool) → HasNoEnd (bool_text b)
bool_lacks true = refl
bool_lacks false = refl

-- ---- each comment is a line

flags_line : (name : List ℕ) (flags : ℕ) → HasNoEnd name → is_line (flags_comment name flags) ≡ true
unfolding flags_comment
flags_line name flags free =
    let results = decimal (result_count flags) in
    let designated = bool_text (flags / 8 % 2 == 1) in
    let differs = bool_text (flags / 16 % 2 == 1) in
    let values = decimal (value_count flags) in
    let last : List ℕ = codes ", fixed_values=" ++ (values ++ 10 ∷ []) in
    let third : List ℕ = codes ", requires_typevar_operand=" ++ (differs ++ last) in
    let second : List ℕ = codes ", use_typevar_operand=" ++ (designated ++ third) in
    let first : List ℕ = codes ": fixed_results=" ++ (results ++ second) in
    line_after name first free
    (line_after results second (number_lacks 10 refl (result_count flags) (omega arith))
    (line_after designated third (bool_lacks (flags / 8 % 2 == 1))
    (line_after differs last (bool_lacks (flags / 16 % 2 == 1))
    (line_after values (10 ∷ []) (number_lacks 10 refl (value_count flags) (omega arith)) refl))))

constraints_line : (cs : List NumberConstraint) → All IsShownConstraint cs → is_line (constraints_comment cs) ≡ true
unfolding constraints_comment
constraints_line cs shown = line_after (quoted_all cs) (codes "]" ++ 10 ∷ []) (quoted_all_lack cs shown) refl

-- ---- the lines of a block after its fields

-- the line on a control, if it has a type set
abbrev on_control : TableContents → List ℕ → ℕ → List (List ℕ)
on_control t about offset = cond (offset == no_type_set) [] (set_comment about (set_or_nothing (slice_get t.type_sets offset)) ∷ [])

abbrev on_second : Version → TableContents → OpcodeNumbers → List (List ℕ)
on_second One t e = []
on_second Two t e = on_control t (codes "Second control over ") e.second_offset
on_second Three t e = on_control t (codes "Second control over ") e.second_offset

abbrev ends : List (List ℕ)
ends = codes "    }\n" ∷ codes "    ,\n" ∷ []

abbrev pub block_lines : Version → TableContents → ℕ → OpcodeNumbers → List (List ℕ)
block_lines v t op e = flags_comment (camel_at t op) e.flags
    ∷ constraints_comment (constraints_of t e) ∷ (on_control t (codes "Polymorphic over ") e.typeset_offset ++ (on_second v t e ++ ends))

-- they are the comments and the end of the block
on_control_joined : (t : TableContents) (about : List ℕ) (offset : ℕ)
    → flat_map (λ line. line) (on_control t about offset) ≡ control_comment t about offset
unfolding control_comment
on_control_joined t about offset = by_test (offset == no_type_set)
  where
    by_test : (b : Bool) → flat_map (λ line. line) (cond b [] (set_comment about (set_or_nothing (slice_get t.type_sets offset)) ∷ []))
        ≡ cond b [] (set_comment about (set_or_nothing (slice_get t.type_sets offset)))
    by_test true = refl
    by_test false = append-nil (set_comment about (set_or_nothing (slice_get t.type_sets offset)))

on_second_joined : (v : Version) (t : TableContents) (e : OpcodeNumbers) → flat_map (λ line. line) (on_second v t e) ≡ second_comment v t e
unfolding second_comment
on_second_joined One t e = refl
on_second_joined Two t e = on_control_joined t (codes "Second control over ") e.second_offset
on_second_joined Three t e = on_control_joined t (codes "Second control over ") e.second_offset

pub lines_joined : (v : Version) (t : TableContents) (op : ℕ) (e : OpcodeNumbers)
    → flat_map (λ line. line) (block_lines v t op e) ≡ entry_comments v t op e ++ block_end
unfolding entry_comments block_end
lines_joined v t op e =
    let flags = flags_comment (camel_at t op) e.flags in
    let listed = constraints_comment (constraints_of t e) in
    let control = on_control t (codes "Polymorphic over ") e.typeset_offset in
    let second = on_second v t e in
    let after = flat_map-append (λ line. line) control (second ++ ends)
    ∙ ap (λ w. flat_map (λ line. line) control ++ w) (flat_map-append (λ line. line) second ends) in
    ap (λ w. flags ++ (listed ++ w)) (after
    ∙ (λ i. on_control_joined t (codes "Polymorphic over ") e.typeset_offset i
    ++ (on_second_joined v t e i ++ flat_map (λ line. line) ends)))
    ∙ sym (grouped flags listed (control_comment t (codes "Polymorphic over ") e.typeset_offset) (second_comment v t e)
    (flat_map (λ line. line) ends))
  where
    grouped : (a b c d f : List ℕ) → (a ++ (b ++ (c ++ d))) ++ f ≡ a ++ (b ++ (c ++ (d ++ f)))
    grouped a b c d f = simp append_assoc

-- the count of these lines
on_control_count : (t : TableContents) (about : List ℕ) (offset : ℕ) → length (on_control t about offset) ≡ control_lines offset
on_control_count t about offset = by_test (offset == no_type_set)
  where
    by_test : (b : Bool) → length (cond b [] (set_comment about (set_or_nothing (slice_get t.type_sets offset)) ∷ [])) ≡ cond b 0 1
    by_test true = refl
    by_test false = refl

on_second_count : (v : Version) (t : TableContents) (e : OpcodeNumbers) → length (on_second v t e) ≡ second_lines v e.second_offset
on_second_count One t e = refl
on_second_count Two t e = on_control_count t (codes "Second control over ") e.second_offset
on_second_count Three t e = on_control_count t (codes "Second control over ") e.second_offset

pub lines_count : (v : Version) (t : TableContents) (op : ℕ) (e : OpcodeNumbers)
    → 4 + control_lines e.typeset_offset + second_lines v e.second_offset ≡ length (block_lines v t op e)
lines_count v t op e =
    let control = on_control t (codes "Polymorphic over ") e.typeset_offset in
    let second = on_second v t e in
    let one = on_control_count t (codes "Polymorphic over ") e.typeset_offset in
    let two = on_second_count v t e in
    let all = length-append control (second ++ ends) in
    let after = length-append second ends in
    omega (arith, one, two, all, after)

-- and each is a line
on_control_lines : (t : TableContents) (about : List ℕ) (offset : ℕ) → HasNoEnd about → list_all is_line (on_control t about offset) ≡ true
on_control_lines t about offset free = by_test (offset == no_type_set)
  where
    by_test : (b : Bool) → list_all is_line (cond b [] (set_comment about (set_or_nothing (slice_get t.type_sets offset)) ∷ [])) ≡ true
    by_test true = refl
    by_test false = and_from (is_line (set_comment about (set_or_nothing (slice_get t.type_sets offset)))) true
        (set_comment_line about (set_or_nothing (slice_get t.type_sets offset)) free (set_or_nothing_lacks (slice_get t.type_sets offset)))
        refl

on_second_lines : (v : Version) (t : TableContents) (e : OpcodeNumbers) → list_all is_line (on_second v t e) ≡ true
on_second_lines One t e = refl
on_second_lines Two t e = on_control_lines t (codes "Second control over ") e.second_offset refl
on_second_lines Three t e = on_control_lines t (codes "Second control over ") e.second_offset refl

pub lines_are : (v : Version) (t : TableContents) (op : ℕ) (e : OpcodeNumbers) → All IsName t.names
    → All IsShownConstraint t.operand_constraints → All (λ line. IsTrue (is_line line)) (block_lines v t op e)
lines_are v t op e named shown =
    let flags = flags_line (camel_at t op) e.flags (camel_lacks t op named) in
    let some = All-take IsShownConstraint (result_count e.flags + value_count e.flags) (drop e.constraint_offset t.operand_constraints)
    (All-drop IsShownConstraint e.constraint_offset t.operand_constraints shown) in
    let listed = constraints_line (constraints_of t e) some in
    let control = on_control t (codes "Polymorphic over ") e.typeset_offset in
    let second = on_second v t e in
    let after = list_all-append is_line second ends ∙ (λ i. on_second_lines v t e i && true) in
    let comments = list_all-append is_line control (second ++ ends)
    ∙ (λ i. on_control_lines t (codes "Polymorphic over ") e.typeset_offset refl i && after i) in
    are_lines (block_lines v t op e) (and_from (is_line (flags_comment (camel_at t op) e.flags)) _ flags
    (and_from (is_line (constraints_comment (constraints_of t e))) _ listed comments))
