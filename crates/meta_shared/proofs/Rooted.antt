-- Roots of a registry.
use Rattle.std.proofs.Common.{◌≡◌, ◌∙◌, ◌<◌, ◌+◌, ◌&&◌, ℕ, true, false, List, [], ◌∷◌, ◌++◌, length, map, take, slice_get, get_or, Some}
use Rattle.std.proofs.Common.{zero, suc, sym, ap, subst, refl, nat_le, nat_eq, ⊎_elim, arith}
use Rattle.std.specs.List.{list_any}
use Rattle.std.proofs.lemmas.List.{length-append, length-map, length-take-le, map-append, take_more}
use Rattle.std.proofs.lemmas.Option.{slice_get_within, get_or_from_slice_get}
use Rattle.std.proofs.lemmas.Bool.{eqb-true, leb-true, and_parts}
use Rattle.std.proofs.lemmas.Map.Views.{Contains-from_any}
use Rattle.meta_lists.proofs.Pushed.{get_pushed}
use Rattle.meta_lists.proofs.Mapped.{get_mapped}
use Rattle.meta_types.specs.TypeParts.{IntKind, FloatKind, widths, lane_counts}
use Rattle.meta_typevar.specs.TypeSetParts.{TypeSetParts}
use Rattle.meta_typevar.specs.Intervals.{IsWithin, CanBuild}
use Rattle.meta_typevar.specs.Registry.{root_content, set_of, set_at, variable_from}
use Rattle.meta_typevar.specs.declared.content.TypeVarContent.{TypeVarContent}
use Rattle.meta_shared.specs.declared.root.Root.{Root}
use Rattle.meta_shared.specs.declared.root.Root.TheVariants.{ST1, ST2, I32, A1, A2, V1, B1, B2, Int1, Int4, IxN, I8, F16, F32, F64}
use Rattle.meta_shared.specs.declared.root.Root.TheVariants.{F128, Int2, NarrowInt, NarrowScalar, IB, Truthy, AtomicMem, IntTo1}
use Rattle.meta_shared.specs.declared.root.Root.TheVariants.{IntTo2, Int3, ISwappable, WideInt, V2, Any, Bits, Mem, IExt8, IExt16}
use Rattle.meta_shared.specs.declared.root.Root.TheVariants.{I32_64, IExt32, I16x8, I32x4, I64x2, Tx16, I16or32, Float, W, N}
use Rattle.meta_shared.specs.declared.root.Root.TheVariants.{FloatScalar, F64x2, F32x4, IntTo3, FloatTo, V3, MemTo}
use Rattle.meta_shared.specs.declared.root_rows.Span.{Span}
use Rattle.meta_shared.specs.declared.root_rows.Span.TheVariants.{Nothing, Everything, Between}
use Rattle.meta_shared.specs.declared.root_rows.SetRow.{SetRow}
use Rattle.meta_shared.specs.declared.root_rows.RootRow.{RootRow}
use Rattle.meta_shared.specs.declared.root_rows.RootRow.TheVariants.{Set, Single}
use Rattle.meta_shared.specs.Formats.{AreNumbered}
use Rattle.meta_shared.specs.Roots.{root_place, set_of_root, IsRootWith}
use Rattle.meta_shared.specs.RootRows.{roots_in_order, parts_of, interval_meant, sets_of_row, root_row_content, contents_of, is_within}
use Rattle.meta_shared.specs.RootRows.{can_build_row, AreRootRows, AreAdded, AreFirstRoots}
use Rattle.meta_shared.proofs.Numbered.{numbered_more}

within : (all : List ℕ) (s : Span) → is_within all s ≡ true → IsWithin all (interval_meant s)
within all Nothing e = tt
within all Everything e = tt
within all (Between low high) e =
    let a = list_any (nat_eq low) all in
    let b = list_any (nat_eq high) all in
    let rest : (b && nat_le low high) ≡ true = (and_parts a (b && nat_le low high) e).1 in (
      Contains-from_any eqb-true low all (and_parts a (b && nat_le low high) e).0,
      Contains-from_any eqb-true high all (and_parts b (nat_le low high) rest).0,
      leb-true low high (and_parts b (nat_le low high) rest).1,
    )

-- a row that passes the test can be built
pub buildable : (row : SetRow) → can_build_row (Set row) ≡ true → CanBuild (parts_of row)
buildable row e =
    let a = is_within (widths IntKind) row.ints in
    let b = is_within (widths FloatKind) row.floats in
    let c = is_within (lane_counts false) row.lanes in
    let d = is_within (lane_counts true) row.dynamic_lanes in
    let r1 : (b && (c && d)) ≡ true = (and_parts a (b && (c && d)) e).1 in
    let r2 : (c && d) ≡ true = (and_parts b (c && d) r1).1 in
    record {
      ints = within (widths IntKind) row.ints (and_parts a (b && (c && d)) e).0;
      floats = within (widths FloatKind) row.floats (and_parts b (c && d) r1).0;
      simd_lanes = within (lane_counts false) row.lanes (and_parts c d r2).0;
      dynamic_simd_lanes = within (lane_counts true) row.dynamic_lanes (and_parts c d r2).1;
    }

-- the content of one row more
contents_more : (n : ℕ) (rows : List RootRow) (row : RootRow)
    → contents_of n (rows ++ row ∷ []) ≡ contents_of n rows ++ root_row_content row (n + length rows) ∷ []
contents_more n [] row = let same : n ≡ n + 0 = omega arith in ap (λ k. root_row_content row k ∷ []) same
contents_more n (r ∷ rows) row =
    let same : (n + 1) + length rows ≡ n + length (r ∷ rows) = omega arith in
    ap (λ xs. root_row_content r n ∷ xs) (contents_more (n + 1) rows row
    ∙ ap (λ k. contents_of (n + 1) rows ++ root_row_content row k ∷ []) same)

pub contents_counted : (n : ℕ) (rows : List RootRow) → length (contents_of n rows) ≡ length rows
contents_counted n [] = refl
contents_counted n (r ∷ rows) = ap (λ k. suc k) (contents_counted (n + 1) rows)

-- the roots of the rows so far are as many
pub added_counted : (rows : List RootRow) (k : ℕ) (vars : List TypeVarContent) (found : List ℕ) → k < length rows
    → AreAdded (take k rows) vars found → length vars ≡ k
added_counted rows k vars found within held = ap length held.contents
    ∙ (contents_counted 0 (take k rows) ∙ length-take-le k rows (omega arith))

pub row_count : (rows : List RootRow) → AreRootRows rows → length rows ≡ 49
row_count rows are = sym (length-map rows sets_of_row) ∙ ap length are.sets

-- the root of one row more
pub added_more : (rows : List RootRow) (k : ℕ) (d : RootRow) (vars new : List TypeVarContent) (found : List ℕ) (v : ℕ)
    → k < length rows → AreAdded (take k rows) vars found → v ≡ length vars
    → new ≡ vars ++ root_row_content (get_or rows k d) (length vars) ∷ [] → AreAdded (take (k + 1) rows) new (found ++ v ∷ [])
added_more rows k d vars new found v within held is added =
    let row = get_or rows k d in
    let count : length vars ≡ k = added_counted rows k vars found within held in
    let front_count : length (take k rows) ≡ k = length-take-le k rows (omega arith) in
    let place : length vars ≡ 0 + length (take k rows) = omega arith in
    let one_more : length (take (k + 1) rows) ≡ length (take k rows) + 1 = ap length (take_more rows k d within)
    ∙ length-append (take k rows) (row ∷ []) in
    record {
      contents = added ∙ (ap (λ n. vars ++ root_row_content row n ∷ []) place
          ∙ (ap (λ xs. xs ++ root_row_content row (0 + length (take k rows)) ∷ []) held.contents
          ∙ (sym (contents_more 0 (take k rows) row) ∙ ap (contents_of 0) (sym (take_more rows k d within)))));
      numbers = subst (λ n. AreNumbered 0 n (found ++ v ∷ [])) (sym one_more)
          (numbered_more 0 (length (take k rows)) found v held.numbers (is ∙ place));
    }

row_set : (row : RootRow) (n : ℕ) → set_of (root_row_content row n) ≡ sets_of_row row
row_set (Set row) n = refl
row_set (Single lane) n = refl

contents_sets : (n : ℕ) (rows : List RootRow) → map set_of (contents_of n rows) ≡ map sets_of_row rows
contents_sets n [] = refl
contents_sets n (row ∷ rows) = let first = row_set row n in let others = contents_sets (n + 1) rows in cc

-- what is kept at the place k is that of a root
record IsRootAt (k : ℕ) (c : TypeVarContent) : Type 0 where
  root : c.root ≡ k
  chain : c.chain ≡ []

row_root : (row : RootRow) (n : ℕ) → IsRootAt n (root_row_content row n)
row_root (Set row) n = record { root = refl; chain = refl }
row_root (Single lane) n = record { root = refl; chain = refl }

contents_roots : (n : ℕ) (rows : List RootRow) (k : ℕ) (c : TypeVarContent) → slice_get (contents_of n rows) k ≡ Some c → IsRootAt (n + k) c
contents_roots n [] k c at = absurd (cc)
contents_roots n (row ∷ rows) zero c at =
    let same : root_row_content row n ≡ c = (cc) in
    let place : n ≡ n + 0 = omega arith in
    subst (λ j. IsRootAt j c) place (subst (IsRootAt n) same (row_root row n))
contents_roots n (row ∷ rows) (suc k) c at =
    let place : (n + 1) + k ≡ n + suc k = omega arith in
    subst (λ j. IsRootAt j c) place (contents_roots (n + 1) rows k c at)

contents_placed : (rows : List RootRow) (k : ℕ) (c : TypeVarContent) → slice_get (contents_of 0 rows) k ≡ Some c → IsRootAt k c
contents_placed rows k c at = let place : 0 + k ≡ k = omega arith in subst (λ j. IsRootAt j c) place (contents_roots 0 rows k c at)

-- where each content is that of a root, each set has its root
root_placed : (vars : List TypeVarContent) (sets : List TypeSetParts) (k : ℕ) (s : TypeSetParts)
    → map set_of vars ≡ sets → ((j : ℕ) (c : TypeVarContent) → slice_get vars j ≡ Some c → IsRootAt j c)
    → slice_get sets k ≡ Some s → IsRootWith vars k s
root_placed vars sets k s are roots at =
    let (content, kept, set_is) = get_mapped set_of vars k s (ap (λ xs. slice_get xs k) are ∙ at) in
    let placed : IsRootAt k content = roots k content kept in
    record {
      of = slice_get_within vars k content kept;
      root = ap (variable_from k) kept ∙ (ap (λ (n : ℕ). record { root = n; chain = content.chain }) placed.root
          ∙ ap (λ fs. record { root = k; chain = fs }) placed.chain);
      set_is = ap set_at kept ∙ set_is;
    }

-- the numbers of the first roots
first_counts : {vars : List TypeVarContent} {found : List ℕ} (held : AreFirstRoots vars found) → (length vars ≡ 49) × (length found ≡ 49)
first_counts held =
    let rows = row_count held.rows held.are_rows in
    (ap length held.added.contents ∙ (contents_counted 0 held.rows ∙ rows), held.added.numbers.count_is ∙ rows)

pub vars_counted : {vars : List TypeVarContent} {found : List ℕ} → AreFirstRoots vars found → length vars ≡ 49
vars_counted held = (first_counts held).0

-- what is found at the place of `Mem` is that root
pub mem_root : {vars : List TypeVarContent} {found : List ℕ} (held : AreFirstRoots vars found) (v : ℕ)
    → v ≡ get_or found 30 v → IsRootWith vars v (set_of_root Mem)
mem_root {vars} {found} held v read =
    let rows : length held.rows ≡ 49 = row_count held.rows held.are_rows in
    let at : slice_get found 30 ≡ Some 30 = held.added.numbers.at 30 (omega arith) in
    let is : 30 ≡ v = sym (read ∙ get_or_from_slice_get found 30 30 v at) in
    subst (λ n. IsRootWith vars n (set_of_root Mem)) is
    (root_placed vars (map set_of_root roots_in_order) 30 (set_of_root Mem)
    (ap (map set_of) held.added.contents ∙ (contents_sets 0 held.rows ∙ held.are_rows.sets))
    (λ k c e. contents_placed held.rows k c (ap (λ xs. slice_get xs k) (sym held.added.contents) ∙ e))
    refl)

-- the numbers with that of one more
pub whole_numbers : {vars : List TypeVarContent} {found : List ℕ} (held : AreFirstRoots vars found) (id : ℕ)
    → id ≡ length vars → AreNumbered 0 50 (found ++ id ∷ [])
whole_numbers {vars} {found} held id is =
    let rows : length held.rows ≡ 49 = row_count held.rows held.are_rows in
    let numbers : AreNumbered 0 49 found = subst (λ n. AreNumbered 0 n found) rows held.added.numbers in
    numbered_more 0 49 found id numbers (is ∙ vars_counted held)

-- the sets of all roots, in order
all_sets : List TypeSetParts
all_sets = map set_of_root roots_in_order ++ set_of_root MemTo ∷ []

listed : (root : Root) → slice_get all_sets (root_place root) ≡ Some (set_of_root root)
unfolding all_sets
listed ST1 = refl
listed ST2 = refl
listed I32 = refl
listed A1 = refl
listed A2 = refl
listed V1 = refl
listed B1 = refl
listed B2 = refl
listed Int1 = refl
listed Int4 = refl
listed IxN = refl
listed I8 = refl
listed F16 = refl
listed F32 = refl
listed F64 = refl
listed F128 = refl
listed Int2 = refl
listed NarrowInt = refl
listed NarrowScalar = refl
listed IB = refl
listed Truthy = refl
listed AtomicMem = refl
listed IntTo1 = refl
listed IntTo2 = refl
listed Int3 = refl
listed ISwappable = refl
listed WideInt = refl
listed V2 = refl
listed Any = refl
listed Bits = refl
listed Mem = refl
listed IExt8 = refl
listed IExt16 = refl
listed I32_64 = refl
listed IExt32 = refl
listed I16x8 = refl
listed I32x4 = refl
listed I64x2 = refl
listed Tx16 = refl
listed I16or32 = refl
listed Float = refl
listed W = refl
listed N = refl
listed FloatScalar = refl
listed F64x2 = refl
listed F32x4 = refl
listed IntTo3 = refl
listed FloatTo = refl
listed V3 = refl
listed MemTo = refl

place_within : (root : Root) → root_place root < 50
unfolding all_sets
place_within root = slice_get_within all_sets (root_place root) (set_of_root root) (listed root)

-- the number at the place of a root is that place
pub number_named : (ids : List ℕ) (root : Root) (v : ℕ) → AreNumbered 0 50 ids
    → slice_get ids (root_place root) ≡ Some v → v ≡ root_place root
number_named ids root v numbers at =
    let same : Some v ≡ Some (0 + root_place root) = sym at ∙ numbers.at (root_place root) (place_within root) in
    let is : v ≡ 0 + root_place root = cc in
    omega (arith, is)

-- the first roots and one more, which has the set of the last, are all
pub roots_whole : {vars : List TypeVarContent} {found : List ℕ} (held : AreFirstRoots vars found)
    (new : List TypeVarContent) (name : List ℕ) (s : TypeSetParts) → s ≡ set_of_root MemTo
    → new ≡ vars ++ root_content name [] s (length vars) ∷ [] → (root : Root) → IsRootWith new (root_place root) (set_of_root root)
unfolding all_sets
roots_whole {vars} held new name s same added root =
    let last : TypeVarContent = root_content name [] s (length vars) in
    let contents = held.added.contents in
    let sets : map set_of new ≡ all_sets = ap (map set_of) added
    ∙ (map-append set_of vars (last ∷ [])
    ∙ (ap (λ xs. xs ++ s ∷ []) (ap (map set_of) contents ∙ (contents_sets 0 held.rows ∙ held.are_rows.sets))
    ∙ ap (λ t. map set_of_root roots_in_order ++ t ∷ []) same)) in
    let roots : (k : ℕ) (c : TypeVarContent) → slice_get new k ≡ Some c → IsRootAt k c = λ k c at. ⊎_elim
    (λ e. contents_placed held.rows k c (ap (λ xs. slice_get xs k) (sym contents) ∙ e))
    (λ e. subst (IsRootAt k) e.1 (subst (λ j. IsRootAt j last) (sym e.0) (record { root = refl; chain = refl })))
    (get_pushed vars last k c (ap (λ xs. slice_get xs k) (sym added) ∙ at)) in
    root_placed new all_sets (root_place root) (set_of_root root) sets roots (listed root)
