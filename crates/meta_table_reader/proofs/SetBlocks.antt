-- The block of a type set, field by field.
use Rattle.std.proofs.Common.{◌≡◌, ℕ, List, [], ◌∷◌, ◌++◌, codes, append_assoc, refl, sym, ◌∙◌, arith}
use Rattle.std.specs.Fmt.{decimal}
use Rattle.std.specs.List.{flat_map}
use Rattle.meta_typevar.specs.declared.masks.Masks.{Masks}
use Rattle.meta_table_text.specs.TypeSetText.{mask_lines, masks_text, set_comment, block_end, set_block}
use Rattle.meta_table_reader.proofs.Cancel.{cancel_front, cancel_number, cancel_lines}
use Rattle.meta_table_reader.specs.Shown.{AreShownMasks}
use Rattle.meta_table_reader.proofs.SetLines.{set_lines}

-- the lines after the fields
abbrev pub last_lines : Masks → List (List ℕ)
last_lines m = set_comment [] (masks_text m) ∷ codes "    }\n" ∷ codes "    ,\n" ∷ []

-- what stands before each field
abbrev pub before_lanes : List ℕ
before_lanes = codes "    ir::instructions::ValueTypeSet {\n        lanes: ScalarBitSet::<u16>("

abbrev pub before_dynamic : List ℕ
before_dynamic = codes "),\n        dynamic_lanes: ScalarBitSet::<u16>("

abbrev pub before_ints : List ℕ
before_ints = codes "),\n        ints: ScalarBitSet::<u8>("

abbrev pub before_floats : List ℕ
before_floats = codes "),\n        floats: ScalarBitSet::<u8>("

-- what comes after each field, and then the rest
abbrev pub at_lines : Masks → List ℕ → List ℕ
at_lines m rest = flat_map (λ line. line) (last_lines m) ++ rest

abbrev pub at_floats : Masks → List ℕ → List ℕ
at_floats m rest = before_floats ++ (decimal m.floats ++ (codes "),\n" ++ at_lines m rest))

abbrev pub at_ints : Masks → List ℕ → List ℕ
at_ints m rest = before_ints ++ (decimal m.ints ++ at_floats m rest)

abbrev pub at_dynamic : Masks → List ℕ → List ℕ
at_dynamic m rest = before_dynamic ++ (decimal m.dynamic_lanes ++ at_ints m rest)

regroup : (p a q b r c s d t y z : List ℕ) → ((p ++ (a ++ (q ++ (b ++ (r ++ (c ++ (s ++ (d ++ t)))))))) ++ y) ++ z
    ≡ p ++ (a ++ (q ++ (b ++ (r ++ (c ++ (s ++ (d ++ (t ++ (y ++ z)))))))))
regroup p a q b r c s d t y z = simp append_assoc

-- the block, and then the rest
pub set_opened : (m : Masks) (rest : List ℕ) → set_block m ++ rest ≡ before_lanes ++ (decimal m.lanes ++ at_dynamic m rest)
unfolding set_block mask_lines block_end
set_opened m rest = regroup before_lanes (decimal m.lanes) before_dynamic (decimal m.dynamic_lanes) before_ints
    (decimal m.ints) before_floats (decimal m.floats) (codes "),\n") (set_comment [] (masks_text m) ++ block_end) rest

-- the block tells the set
pub set_told : (m n : Masks) (r s : List ℕ) → AreShownMasks m → AreShownMasks n → set_block m ++ r ≡ set_block n ++ s → (m ≡ n) × (r ≡ s)
set_told m n r s one other e =
    let lanes_one = one.lanes in let lanes_other = other.lanes in
    let dynamic_one = one.dynamic_lanes in let dynamic_other = other.dynamic_lanes in
    let ints_one = one.ints in let ints_other = other.ints in
    let floats_one = one.floats in let floats_other = other.floats in
    let (lanes, a) = cancel_number 41 m.lanes n.lanes (at_dynamic m r) (at_dynamic n s) refl (omega (arith, lanes_one))
    (omega (arith, lanes_other)) refl refl (cancel_front before_lanes _ _ (sym (set_opened m r) ∙ e ∙ set_opened n s)) in
    let (dynamic_lanes, b) = cancel_number 41 m.dynamic_lanes n.dynamic_lanes (at_ints m r) (at_ints n s) refl (omega (arith, dynamic_one))
    (omega (arith, dynamic_other)) refl refl (cancel_front before_dynamic _ _ a) in
    let (ints, d) = cancel_number 41 m.ints n.ints (at_floats m r) (at_floats n s) refl (omega (arith, ints_one))
    (omega (arith, ints_other)) refl refl (cancel_front before_ints _ _ b) in
    let (floats, f) = cancel_number 41 m.floats n.floats (codes "),\n" ++ at_lines m r) (codes "),\n" ++ at_lines n s) refl
    (omega (arith, floats_one)) (omega (arith, floats_other)) refl refl (cancel_front before_floats _ _ d) in (
      λ i. record { lanes = lanes i; dynamic_lanes = dynamic_lanes i; ints = ints i; floats = floats i },
      cancel_lines (last_lines m) (last_lines n) r s (set_lines m) (set_lines n) refl (cancel_front (codes "),\n") _ _ f),
    )
