-- What is made of rows, one after the other.
use Rattle.std.proofs.Common.{◌≡◌, ◌∙◌, ◌<◌, ◌≤◌, ◌+◌, ◌&&◌, ℕ, zero, suc, true, List, [], ◌∷◌, ◌++◌, length, take, drop, get_or, map, cond}
use Rattle.std.proofs.Common.{sym, ap, subst, arith}
use Rattle.std.specs.List.{list_all}
use Rattle.std.specs.Borrow.{Bor}
use Rattle.std.proofs.lemmas.List.{append_assoc, append-nil, map-append, take_more, take-append-drop}
use Rattle.std.proofs.lemmas.List.Concat.{flat_map-append}
use Rattle.std.proofs.lemmas.List.Folds.{list_all-append}
use Rattle.std.proofs.lemmas.List.Sums.{sum_by-append, sum_by_push}
use Rattle.std.proofs.lemmas.Bool.{and_parts}
use Rattle.meta_lists.proofs.Pairs.{pairs_joined}
use Rattle.meta_typevar.specs.declared.content.TypeVarContent.{TypeVarContent}
use Rattle.meta_operands.specs.declared.operand.Operand.{Operand}
use Rattle.meta_inst.specs.Builder.{Builder}
use Rattle.meta_shared.specs.declared.format.Format.{Format}
use Rattle.meta_shared.specs.declared.row.OperandRow.{OperandRow}
use Rattle.meta_shared.specs.declared.row.Row.{Row}
use Rattle.meta_shared.specs.Words.{Meanings, Grows, is_derived, derived_count}
use Rattle.meta_shared.specs.Rows.{IsOperandOf, AreOperandsOfRows, IsBuilderOf, AreBuildersOf, AddsRows, derived_among, derived_in_row}
use Rattle.meta_shared.specs.Rows.{derived_in, is_derivable_row, rows_in, row_name, row_format, IsTable}
use Rattle.meta_shared.proofs.Growing.{builders_grow}

-- the operands of one row more
pub operands_more : (vars : List TypeVarContent) (m : Meanings) (rows : List OperandRow) (k : ℕ) (d : OperandRow)
    (operands : List Operand) (o : Operand) → k < length rows → AreOperandsOfRows vars m (take k rows) operands
    → IsOperandOf vars m (get_or rows k d) o → AreOperandsOfRows vars m (take (k + 1) rows) (operands ++ o ∷ [])
operands_more vars m rows k d operands o within held is =
    subst (λ xs. AreOperandsOfRows vars m xs (operands ++ o ∷ [])) (sym (take_more rows k d within))
    (pairs_joined (IsOperandOf vars m) (take k rows) (get_or rows k d ∷ []) operands (o ∷ []) held (is, tt))

pub derived_more : (rows : List OperandRow) (k : ℕ) (d : OperandRow) → k < length rows
    → derived_among (take k rows) + derived_count (get_or rows k d).word ≡ derived_among (take (k + 1) rows)
derived_more rows k d within =
    sym (ap derived_among (take_more rows k d within) ∙ sum_by_push (λ row. cond (is_derived row.word) 1 0) (take k rows) (get_or rows k d))

-- an instruction of one row more
pub adds_one_row : (old new : List TypeVarContent) (n : ℕ) (m : Meanings) (rows : List Row) (k : ℕ) (d : Row)
    (start all now : List Builder) (b : Builder) → k < length rows → Grows n old new
    → AddsRows old m (take k rows) start all → IsBuilderOf new m (get_or rows k d) b → now ≡ all ++ b ∷ []
    → AddsRows new m (take (k + 1) rows) start now
adds_one_row old new n m rows k d start all now b within grows held is added = record {
  more = held.more ++ b ∷ [];
  is = added ∙ (ap (λ xs. xs ++ b ∷ []) held.is ∙ append_assoc start held.more (b ∷ []));
  builders = subst (λ xs. AreBuildersOf new m xs (held.more ++ b ∷ [])) (sym (take_more rows k d within))
      (pairs_joined (IsBuilderOf new m) (take k rows) (get_or rows k d ∷ []) held.more (b ∷ [])
      (builders_grow m (take k rows) held.more grows held.builders) (is, tt));
}

pub rows_derive_more : (rows : List Row) (k : ℕ) (d : Row) → k < length rows
    → derived_in (take k rows) + derived_in_row (get_or rows k d) ≡ derived_in (take (k + 1) rows)
rows_derive_more rows k d within = sym (ap derived_in (take_more rows k d within)
    ∙ sum_by_push derived_in_row (take k rows) (get_or rows k d))

-- the instructions of some rows, and after them those of others
pub adds_joined : (old new : List TypeVarContent) (n : ℕ) (m : Meanings) (rows more : List Row)
    (start now all : List Builder) → Grows n old new → AddsRows old m rows start now → AddsRows new m more now all
    → AddsRows new m (rows ++ more) start all
adds_joined old new n m rows more start now all grows first then = record {
  more = first.more ++ then.more;
  is = then.is ∙ (ap (λ xs. xs ++ then.more) first.is ∙ append_assoc start first.more then.more);
  builders = pairs_joined (IsBuilderOf new m) rows more first.more then.more
      (builders_grow m rows first.more grows first.builders) then.builders;
}

-- the rows of one table more
pub rows_in_more : (tables : List (Bor (List Row))) (k : ℕ) (d : Bor (List Row)) → k < length tables
    → rows_in (take k tables) ++ (get_or tables k d).now ≡ rows_in (take (k + 1) tables)
rows_in_more tables k d within =
    let table = get_or tables k d in
    sym (ap rows_in (take_more tables k d within)
    ∙ (flat_map-append (λ (t : Bor (List Row)). t.now) (take k tables) (table ∷ [])
    ∙ ap (λ xs. rows_in (take k tables) ++ xs) (append-nil table.now)))

-- what the first tables derive is at most what all do
pub tables_derive : (tables : List (Bor (List Row))) (k : ℕ) → derived_in (rows_in (take k tables)) ≤ derived_in (rows_in tables)
tables_derive tables k =
    let all : rows_in tables ≡ rows_in (take k tables) ++ rows_in (drop k tables) =
    ap rows_in (sym (take-append-drop k tables)) ∙ flat_map-append (λ (t : Bor (List Row)). t.now) (take k tables) (drop k tables) in
    let sum : derived_in (rows_in tables) ≡ derived_in (rows_in (take k tables)) + derived_in (rows_in (drop k tables)) = ap derived_in all
    ∙ sum_by-append derived_in_row (rows_in (take k tables)) (rows_in (drop k tables)) in
    omega arith

pub table_derives : (tables : List (Bor (List Row))) (k : ℕ) (d : Bor (List Row)) → k < length tables
    → derived_in (rows_in (take k tables)) + derived_in (get_or tables k d).now ≡ derived_in (rows_in (take (k + 1) tables))
table_derives tables k d within = sym (sum_by-append derived_in_row (rows_in (take k tables)) (get_or tables k d).now)
    ∙ ap derived_in (rows_in_more tables k d within)

-- each table passes the test that all rows pass
pub table_derivable : (tables : List (Bor (List Row))) (k : ℕ) (d : Bor (List Row)) → k < length tables
    → list_all is_derivable_row (rows_in tables) ≡ true → list_all is_derivable_row (get_or tables k d).now ≡ true
table_derivable [] k d within e = absurd (omega arith)
table_derivable (t ∷ tables) zero d within e =
    (and_parts (list_all is_derivable_row t.now) (list_all is_derivable_row (rows_in tables))
    (sym (list_all-append is_derivable_row t.now (rows_in tables)) ∙ e)).0
table_derivable (t ∷ tables) (suc k) d within e = table_derivable tables k d (omega arith)
    (and_parts (list_all is_derivable_row t.now) (list_all is_derivable_row (rows_in tables))
    (sym (list_all-append is_derivable_row t.now (rows_in tables)) ∙ e)).1

-- the rows of a table before those of others
pub tables_joined : (names others : List (List ℕ)) (formats of : List Format) (derived more : ℕ)
    (rows after : List Row) → IsTable names formats derived rows → IsTable others of more after
    → IsTable (names ++ others) (formats ++ of) (derived + more) (rows ++ after)
tables_joined names others formats of derived more rows after first then = record {
  are_named = map-append row_name rows after ∙ (ap (λ xs. xs ++ map row_name after) first.are_named
      ∙ ap (λ xs. names ++ xs) then.are_named);
  are_of = map-append row_format rows after ∙ (ap (λ xs. xs ++ map row_format after) first.are_of ∙ ap (λ xs. formats ++ xs) then.are_of);
  are_derived = sum_by-append derived_in_row rows after
      ∙ (ap (λ n. n + derived_in after) first.are_derived ∙ ap (λ n. derived + n) then.are_derived);
  derivable = list_all-append is_derivable_row rows after
      ∙ (ap (λ b. b && list_all is_derivable_row after) first.derivable ∙ then.derivable);
}
