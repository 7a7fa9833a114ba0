-- The items that are formats and instructions, and what they are.
use Rattle.std.proofs.Common.{◌≡◌, ◌≤◌, ℕ, zero, suc, ◌+◌, List, [], ◌∷◌, ◌++◌, Result, Ok, Err, Some, None, length, take}
use Rattle.std.proofs.Common.{slice_get, refl, sym, ap, ◌∙◌, subst, arith}
use Rattle.std.proofs.Common.{cond}
use Rattle.std.specs.List.{AllZip}
use Rattle.std.proofs.lemmas.List.{append-nil, map-append, take_all}
use Rattle.meta_lists.proofs.Places.{get_there, take_next}
use Rattle.meta_lists.proofs.Pairs.{pairs_joined}
use Rattle.meta_file_syntax.specs.declared.formats.FormatItem.{FormatItem}
use Rattle.meta_file_syntax.specs.declared.insts.InstItem.{InstItem}
use Rattle.meta_file_syntax.specs.declared.items.Item.{Item}
use Rattle.meta_file_syntax.specs.declared.items.Item.TheVariants as item
use Rattle.meta_file_types.specs.declared.refused.Reason.{Reason}
use Rattle.meta_file_types.specs.Telling.{reason_in}
use Rattle.meta_file_declare.specs.Formats.{MeantFormat, FormatEntry, format_of}
use Rattle.meta_file_declare.specs.Insts.{MeantInst, inst_of}
use Rattle.meta_file_declare.specs.SaidOfInsts.{Above, with_format, with_inst, wrong_with, after, said}
use Rattle.meta_file_declare.specs.Held.{meant_formats}
use Rattle.meta_file_declare.specs.Places.{is_format, is_inst, places_of}
use Rattle.meta_file_declare.specs.AllItems.{AllRight}
use Rattle.meta_file_declare.proofs.NthPlaces.{places_more}
use Rattle.meta_file_declare.proofs.Folding.{said_more, insts_right, length_taken}

-- the item at place k is an instruction, and this is what it says after the items above it
pub record IsInstAt (items : List Item) (k : ℕ) (meant : MeantInst) : Type 0 where
  pub inst : InstItem
  pub at : slice_get items k ≡ Some (item.Inst inst)
  pub says : inst_of (said (take k items)).types.words (said (take k items)).insts.formats inst ≡ Ok meant

-- the same of a format
pub record IsFormatAt (items : List Item) (k : ℕ) (meant : MeantFormat) : Type 0 where
  pub format : FormatItem
  pub at : slice_get items k ≡ Some (item.Format format)
  pub says : format_of (said (take k items)).types.words (said (take k items)).insts.formats format ≡ Ok meant

-- ---- one item more

module _ (items : List Item) (k : ℕ) where
  insts_by : (i : InstItem) (is : List MeantInst) (formats : List FormatEntry) (r : Result MeantInst Reason) (ps : List ℕ)
      → slice_get items k ≡ Some (item.Inst i)
      → inst_of (said (take k items)).types.words (said (take k items)).insts.formats i ≡ r → reason_in r ≡ None
      → AllZip (IsInstAt items) ps is
      → AllZip (IsInstAt items) (ps ++ k ∷ []) (with_inst (record { formats = formats; insts = is }) r).insts
  insts_by i is formats (Ok m) ps at e right h =
      pairs_joined (IsInstAt items) ps (k ∷ []) is (m ∷ []) h (record { inst = i; at = at; says = e }, tt)
  insts_by i is formats (Err reason) ps at e right h = absurd (cc)

  formats_by : (i : FormatItem) (is : List MeantInst) (formats : List FormatEntry) (r : Result MeantFormat Reason) (ps : List ℕ)
      → slice_get items k ≡ Some (item.Format i)
      → format_of (said (take k items)).types.words (said (take k items)).insts.formats i ≡ r → reason_in r ≡ None
      → AllZip (IsFormatAt items) ps (meant_formats formats)
      → AllZip (IsFormatAt items) (ps ++ k ∷ []) (meant_formats (with_format (record { formats = formats; insts = is }) i.word k r).formats)
  formats_by i is formats (Ok m) ps at e right h =
      subst (AllZip (IsFormatAt items) (ps ++ k ∷ []))
      (sym (map-append (λ (x : FormatEntry). x.format) formats ((record { word = i.word; place = k; format = m }) ∷ [])))
      (pairs_joined (IsFormatAt items) ps (k ∷ []) (meant_formats formats) (m ∷ []) h (record { format = i; at = at; says = e }, tt))
  formats_by i is formats (Err reason) ps at e right h = absurd (cc)

  -- any other item adds nothing
  same_insts : (ps : List ℕ) (is : List MeantInst) → AllZip (IsInstAt items) ps is → AllZip (IsInstAt items) (ps ++ []) is
  same_insts ps is h = subst (λ (ks : List ℕ). AllZip (IsInstAt items) ks is) (sym (append-nil ps)) h

  same_formats : (ps : List ℕ) (fs : List MeantFormat) → AllZip (IsFormatAt items) ps fs → AllZip (IsFormatAt items) (ps ++ []) fs
  same_formats ps fs h = subst (λ (ks : List ℕ). AllZip (IsFormatAt items) ks fs) (sym (append-nil ps)) h

  insts_step : (i : Item) (ps : List ℕ) → slice_get items k ≡ Some i → wrong_with (said (take k items)) i ≡ None
      → AllZip (IsInstAt items) ps (said (take k items)).insts.insts
      → AllZip (IsInstAt items) (ps ++ cond (is_inst i) (k ∷ []) []) (after (said (take k items)) k i).insts.insts
  insts_step (item.Group n) ps at right h = same_insts ps _ h
  insts_step (item.Type i) ps at right h = same_insts ps _ h
  insts_step (item.Alias i) ps at right h = same_insts ps _ h
  insts_step (item.Kind i) ps at right h = same_insts ps _ h
  insts_step (item.Format i) ps at right h =
      same_insts ps _ (format_keeps (format_of (said (take k items)).types.words (said (take k items)).insts.formats i))
    where
      format_keeps : (r : Result MeantFormat Reason)
          → AllZip (IsInstAt items) ps (with_format (said (take k items)).insts i.word k r).insts
      format_keeps (Ok m) = h
      format_keeps (Err reason) = h
  insts_step (item.Inst i) ps at right h =
      insts_by i (said (take k items)).insts.insts (said (take k items)).insts.formats _ ps at refl right h
  insts_step (item.Bool i) ps at right h = same_insts ps _ h
  insts_step (item.Num i) ps at right h = same_insts ps _ h
  insts_step (item.Enum i) ps at right h = same_insts ps _ h
  insts_step (item.Preset i) ps at right h = same_insts ps _ h

  formats_step : (i : Item) (ps : List ℕ) → slice_get items k ≡ Some i → wrong_with (said (take k items)) i ≡ None
      → AllZip (IsFormatAt items) ps (meant_formats (said (take k items)).insts.formats)
      → AllZip (IsFormatAt items) (ps ++ cond (is_format i) (k ∷ []) []) (meant_formats (after (said (take k items)) k i).insts.formats)
  formats_step (item.Group n) ps at right h = same_formats ps _ h
  formats_step (item.Type i) ps at right h = same_formats ps _ h
  formats_step (item.Alias i) ps at right h = same_formats ps _ h
  formats_step (item.Kind i) ps at right h = same_formats ps _ h
  formats_step (item.Format i) ps at right h =
      formats_by i (said (take k items)).insts.insts (said (take k items)).insts.formats _ ps at refl right h
  formats_step (item.Inst i) ps at right h =
      same_formats ps _ (inst_keeps (inst_of (said (take k items)).types.words (said (take k items)).insts.formats i))
    where
      inst_keeps : (r : Result MeantInst Reason)
          → AllZip (IsFormatAt items) ps (meant_formats (with_inst (said (take k items)).insts r).formats)
      inst_keeps (Ok m) = h
      inst_keeps (Err reason) = h
  formats_step (item.Bool i) ps at right h = same_formats ps _ h
  formats_step (item.Num i) ps at right h = same_formats ps _ h
  formats_step (item.Enum i) ps at right h = same_formats ps _ h
  formats_step (item.Preset i) ps at right h = same_formats ps _ h

-- ---- all items

-- the places of a sort, with one item more
places_next : (is : Item → _) (items : List Item) (k : ℕ) (i : Item) → slice_get items k ≡ Some i
    → places_of is (take (k + 1) items) ≡ places_of is (take k items) ++ cond (is i) (k ∷ []) []
places_next is items k i at =
    ap (places_of is) (take_next items k i at) ∙ places_more is (take k items) i
    ∙ ap (λ (n : ℕ). places_of is (take k items) ++ cond (is i) (n ∷ []) []) (length_taken items k i at)

module _ (items : List Item) (right : AllRight items (length items)) where
  insts_so_far : (k : ℕ) → k ≤ length items → AllZip (IsInstAt items) (places_of is_inst (take k items)) (said (take k items)).insts.insts
  insts_so_far zero l = tt
  insts_so_far (suc k) l =
      let there = get_there items k (omega (arith, l)) in
      let next : k + 1 ≡ suc k = omega arith in
      let wrong = insts_right items k there.0 there.1 (right k (omega (arith, l))) in
      subst (λ (n : ℕ). AllZip (IsInstAt items) (places_of is_inst (take n items)) (said (take n items)).insts.insts) next
      (subst (λ (ps : List ℕ). AllZip (IsInstAt items) ps (said (take (k + 1) items)).insts.insts)
      (sym (places_next is_inst items k there.0 there.1))
      (subst (λ (a : Above). AllZip (IsInstAt items) (places_of is_inst (take k items) ++ cond (is_inst there.0) (k ∷ []) []) a.insts.insts)
      (sym (said_more items k there.0 there.1))
      (insts_step items k there.0 (places_of is_inst (take k items)) there.1 wrong (insts_so_far k (omega (arith, l))))))

  formats_so_far : (k : ℕ) → k ≤ length items
      → AllZip (IsFormatAt items) (places_of is_format (take k items)) (meant_formats (said (take k items)).insts.formats)
  formats_so_far zero l = tt
  formats_so_far (suc k) l =
      let there = get_there items k (omega (arith, l)) in
      let next : k + 1 ≡ suc k = omega arith in
      let wrong = insts_right items k there.0 there.1 (right k (omega (arith, l))) in
      subst (λ (n : ℕ). AllZip (IsFormatAt items) (places_of is_format (take n items))
      (meant_formats (said (take n items)).insts.formats)) next
      (subst (λ (ps : List ℕ). AllZip (IsFormatAt items) ps (meant_formats (said (take (k + 1) items)).insts.formats))
      (sym (places_next is_format items k there.0 there.1))
      (subst (λ (a : Above). AllZip (IsFormatAt items) (places_of is_format (take k items) ++ cond (is_format there.0) (k ∷ []) [])
      (meant_formats a.insts.formats)) (sym (said_more items k there.0 there.1))
      (formats_step items k there.0 (places_of is_format (take k items)) there.1 wrong (formats_so_far k (omega (arith, l))))))

  pub all_insts : AllZip (IsInstAt items) (places_of is_inst items) (said items).insts.insts
  all_insts =
      subst (λ (is : List Item). AllZip (IsInstAt items) (places_of is_inst is) (said is).insts.insts)
      (take_all (length items) items (omega arith))
      (insts_so_far (length items) (omega arith))

  pub all_formats : AllZip (IsFormatAt items) (places_of is_format items) (meant_formats (said items).insts.formats)
  all_formats =
      subst (λ (is : List Item). AllZip (IsFormatAt items) (places_of is_format is) (meant_formats (said is).insts.formats))
      (take_all (length items) items (omega arith)) (formats_so_far (length items) (omega arith))
