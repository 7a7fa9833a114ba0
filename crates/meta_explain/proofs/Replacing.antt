-- A part that is made what it has to be passes, and those before it still do.
use Rattle.std.proofs.Common.{◌≡◌, ◌<◌, ◌≤◌, ◌+◌, ⊎_elim, ℕ, List, ◌++◌, slice_get, Some, sym, ◌∙◌, subst, arith}
use Rattle.std.proofs.lemmas.Bool.{cases_eq, cases_lt}
use Rattle.std.proofs.lemmas.Option.{same_Some}
use Rattle.meta_inst.specs.Tables.{TableContents, ControlNumberFits, PassesAt}
use Rattle.meta_explain.specs.Parts.{numbers_of, PartPasses, order_of, FailsFirst, AreReplaced}
use Rattle.meta_explain.specs.declared.control_types.ControlTypes.{ControlTypes}
use Rattle.meta_explain.specs.declared.part.Part.{Part}
use Rattle.meta_explain.specs.declared.part.Part.TheVariants.{Control, Second, ResultCount, ValueCount, Operand}

-- an opcode has one entry
same_entry : (tables : TableContents) (op : ℕ) (c d : ControlTypes) (rs vs new_rs new_vs : List ℕ) (p q : Part)
    (f : FailsFirst tables op c rs vs p) (g : FailsFirst tables op d new_rs new_vs q) → f.entry ≡ g.entry
same_entry tables op c d rs vs new_rs new_vs p q f g = same_Some f.entry g.entry (sym f.is_opcode ∙ g.is_opcode)

module _ (tables : TableContents) (op : ℕ) (c : ControlTypes) (rs vs new_rs new_vs : List ℕ) (k n : ℕ)
    (f : FailsFirst tables op c rs vs (Operand k)) (passes : PassesAt tables (numbers_of c) (f.entry.constraint_offset + k) n)
    (r : AreReplaced rs vs k n new_rs new_vs) where
  -- what stands now at a place up to k passes
  operand_now : (j m : ℕ) → 4 + j ≤ 4 + k → slice_get (new_rs ++ new_vs) j ≡ Some m
      → PassesAt tables (numbers_of c) (f.entry.constraint_offset + j) m
  operand_now j m l at = ⊎_elim
      (λ same. subst (λ i. slice_get (new_rs ++ new_vs) i ≡ Some m → PassesAt tables (numbers_of c) (f.entry.constraint_offset + i) m)
      (sym same)
      (λ there. subst (PassesAt tables (numbers_of c) (f.entry.constraint_offset + k)) (same_Some n m (sym r.here ∙ there)) passes) at)
      (λ other. f.first.earlier (Operand j) (omega (arith, l, other)) m (r.others j m other at))
      (cases_eq j k)

  part_now : (q : Part) → order_of q ≤ 4 + k → PartPasses tables f.entry c new_rs new_vs q
  part_now Control l = f.first.earlier Control (omega arith)
  part_now Second l = f.first.earlier Second (omega arith)
  part_now ResultCount l = r.count ∙ f.first.earlier ResultCount (omega arith)
  part_now ValueCount l = r.long ∙ f.first.earlier ValueCount (omega arith)
  part_now (Operand j) l = λ m at. operand_now j m l at

  pub operand_later : (p : Part) → FailsFirst tables op c new_rs new_vs p → 4 + k < order_of p
  operand_later p g = ⊎_elim
      (λ later. later)
      (λ (l : order_of p ≤ 4 + k). absurd (g.first.fails (subst (λ e. PartPasses tables e c new_rs new_vs p)
      (same_entry tables op c c rs vs new_rs new_vs (Operand k) p f g) (part_now p l))))
      (cases_lt (4 + k) (order_of p))

module _ (tables : TableContents) (op : ℕ) (c d : ControlTypes) (rs vs : List ℕ) where
  pub control_later : (p : Part) (f : FailsFirst tables op c rs vs Control) → ControlNumberFits tables f.entry.typeset_offset d.ctrl
      → FailsFirst tables op d rs vs p → 0 < order_of p
  control_later Control f fits g = absurd (g.first.fails (subst (λ e. ControlNumberFits tables e.typeset_offset d.ctrl)
      (same_entry tables op c d rs vs rs vs Control Control f g) fits))
  control_later Second f fits g = omega arith
  control_later ResultCount f fits g = omega arith
  control_later ValueCount f fits g = omega arith
  control_later (Operand k) f fits g = omega arith

  pub second_later : (p : Part) (f : FailsFirst tables op c rs vs Second) → c.ctrl ≡ d.ctrl
      → ControlNumberFits tables f.entry.second_offset d.second → FailsFirst tables op d rs vs p → 1 < order_of p
  second_later Control f same fits g =
      let first : ControlNumberFits tables f.entry.typeset_offset d.ctrl =
      subst (ControlNumberFits tables f.entry.typeset_offset) same (f.first.earlier Control (omega arith)) in
      absurd (g.first.fails (subst (λ e. ControlNumberFits tables e.typeset_offset d.ctrl)
      (same_entry tables op c d rs vs rs vs Second Control f g) first))
  second_later Second f same fits g = absurd (g.first.fails (subst (λ e. ControlNumberFits tables e.second_offset d.second)
      (same_entry tables op c d rs vs rs vs Second Second f g) fits))
  second_later ResultCount f same fits g = omega arith
  second_later ValueCount f same fits g = omega arith
  second_later (Operand k) f same fits g = omega arith
