-- The type parameters of operands, counted as the operands come.
use Rattle.std.proofs.Common.{◌≡◌, ◌+◌, ◌<◌, ◌≤◌, ◌||◌, ℕ, Bool, cond, List, length, get_or, take, count_by, sym, ap, ap₂, ◌∙◌, arith}
use Rattle.std.specs.Prelude.{if◌then◌else◌}
use Rattle.std.specs.List.{list_any}
use Rattle.std.proofs.lemmas.List.{length-take}
use Rattle.std.proofs.lemmas.List.Sums.{sum_by_more, count_by-le-length}
use Rattle.std.proofs.lemmas.List.Folds.{list_any_more}
use Rattle.meta_operands.specs.declared.operand.Operand.{Operand}
use Rattle.meta_inst.specs.FormatMatch.{is_block_operand}
use Rattle.meta_rust_text.specs.declared.numbering.Numbering.{Numbering}
use Rattle.meta_rust_text.specs.Operands.{is_converted}
use Rattle.meta_rust_text.specs.MethodArguments.{parameter_count}

-- these operands are counted
pub record Counts (n : Numbering) (xs : List Operand) : Type 0 where
  pub converted : n.converted ≡ count_by is_converted xs
  pub has_block : n.has_block ≡ list_any is_block_operand xs

-- so the next parameter has this number
pub next_counted : (n : Numbering) (xs : List Operand) → Counts n xs
    → n.converted + (if n.has_block then 1 else 0) + 1 ≡ parameter_count xs + 1
next_counted n xs counts =
    ap (λ (c : ℕ). c + 1) (ap₂ (λ (c : ℕ) (b : Bool). c + (if b then 1 else 0)) counts.converted counts.has_block)

-- one operand more
pub one_more : (xs : List Operand) (k : ℕ) (o : Operand) (old new : Numbering) → k < length xs → o ≡ get_or xs k o
    → new.converted ≡ old.converted + (if is_converted o then 1 else 0) → new.has_block ≡ (old.has_block || is_block_operand o)
    → Counts old (take k xs) → Counts new (take (k + 1) xs)
one_more xs k o old new within is converted has_block counts = record {
  converted = converted ∙ (ap₂ (λ (c : ℕ) (x : Operand). c + (if is_converted x then 1 else 0)) counts.converted is
      ∙ sym (sum_by_more (λ (x : Operand). cond (is_converted x) 1 0) xs k o within));
  has_block = has_block ∙ (ap₂ (λ (b : Bool) (x : Operand). b || is_block_operand x) counts.has_block is
      ∙ sym (list_any_more is_block_operand xs k o within));
}

-- no more are counted than there are
pub few : (xs : List Operand) (k : ℕ) (n : Numbering) → Counts n (take k xs) → n.converted ≤ k
few xs k n counts = omega (arith, counts.converted, count_by-le-length is_converted (take k xs), length-take k xs)
