-- The lines of the formats of opcodes.
use Rattle.std.proofs.Common.{◌≡◌, ℕ, suc, List, [], ◌∷◌, ◌++◌, slice_get, Some, codes, append_assoc, ap, ◌∙◌}
use Rattle.meta_inst.specs.Tables.{TableContents}
use Rattle.meta_text.specs.Lines.{at, text_of}
use Rattle.meta_table_text.specs.OpcodeText.{or_nothing, format_line}

abbrev pub before_format : List ℕ
before_format = codes "    InstructionFormat::"

four : (a b c d e : List ℕ) → (a ++ (b ++ (c ++ d))) ++ e ≡ a ++ (b ++ (c ++ (d ++ e)))
four a b c d e = simp append_assoc

-- the line of an opcode with this format and this name, and then the rest
pub format_opened : (t : TableContents) (i : ℕ) (f n rest : List ℕ) → slice_get t.formats i ≡ Some f → slice_get t.names i ≡ Some n
    → format_line t (suc i) ++ rest ≡ before_format ++ (f ++ (codes ", // " ++ (n ++ (codes "\n" ++ rest))))
unfolding format_line
format_opened t i f n rest at_format at_name =
    let line : List ℕ → List ℕ → List ℕ = λ f n. text_of (at 1 (codes "InstructionFormat::" ∷ f ∷ codes ", // " ∷ n ∷ []) ∷ []) in
    (λ k. line (or_nothing (at_format k)) (or_nothing (at_name k)) ++ rest)
    ∙ ap (λ (w : List ℕ). before_format ++ w) (four f (codes ", // ") n (codes "\n") rest)
