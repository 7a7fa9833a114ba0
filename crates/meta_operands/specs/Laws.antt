-- Laws of the tests of this crate's definitions.
--     texts_Decides, pairs_Decides, structures_Decides      the test is true exactly where the two are the same
use Rattle.std.specs.Prelude.{◌≡◌, ℕ, List}
use Rattle.std.specs.Bool.{Decides}
use Rattle.std.specs.Cmp.{booleans_Decides}
use Rattle.std.specs.Cmp.Lexicographic.{pointwise_decides, bytes_decides}
use Rattle.std.proofs.Common.{ap}
use Rattle.std.proofs.lemmas.Bool.Decides.{Decides-and, Decides-like, Decides-eqb}
use Rattle.meta_operands.specs.Texts.{same_text, same_pair, same_pairs}
use Rattle.meta_operands.specs.Structure.{same_structure}
use Rattle.meta_operands.specs.declared.structure.FormatStructure.{FormatStructure}

pub texts_Decides : (a b : List ℕ) → Decides (same_text a b) (a ≡ b)
texts_Decides a b = bytes_decides a b

pair_Decides : (a b : List ℕ × List ℕ) → Decides (same_pair a b) (a ≡ b)
pair_Decides a b =
    Decides-like (same_pair a b) (λ e i. (e.0 i, e.1 i)) (λ e. (ap (λ p. p.0) e, ap (λ p. p.1) e))
    (Decides-and (same_text a.0 b.0) (same_text a.1 b.1) (texts_Decides a.0 b.0) (texts_Decides a.1 b.1))

pub pairs_Decides : (a b : List (List ℕ × List ℕ)) → Decides (same_pairs a b) (a ≡ b)
pairs_Decides = pointwise_decides pair_Decides

pub structures_Decides : (a b : FormatStructure) → Decides (same_structure a b) (a ≡ b)
structures_Decides a b =
    Decides-like (same_structure a b)
    (λ e i. record {
      num_value_operands = e.0 i;
      has_value_list = e.1.0 i;
      num_block_operands = e.1.1.0 i;
      num_raw_block_operands = e.1.1.1.0 i;
      imm_field_names = e.1.1.1.1 i;
    })
    (λ e. (
      ap (λ s. s.num_value_operands) e,
      (
        ap (λ s. s.has_value_list) e,
        (ap (λ s. s.num_block_operands) e, (ap (λ s. s.num_raw_block_operands) e, ap (λ s. s.imm_field_names) e)),
      ),
    ))
    (Decides-and _ _ (Decides-eqb a.num_value_operands b.num_value_operands)
    (Decides-and _ _ (booleans_Decides a.has_value_list b.has_value_list)
    (Decides-and _ _ (Decides-eqb a.num_block_operands b.num_block_operands)
    (Decides-and _ _ (Decides-eqb a.num_raw_block_operands b.num_raw_block_operands)
    (pairs_Decides a.imm_field_names b.imm_field_names)))))
