use Rattle.std.proofs.Common.{◌≡◌, ◌<◌, ◌+◌, ◌++◌, ◌∷◌, [], ℕ, List, take, length, get_or, ap, ◌∙◌, sym, append_assoc}
use Rattle.std.proofs.lemmas.List.{take_more}
use Rattle.std.proofs.lemmas.List.Elements.{filter_map-append}
use Rattle.meta_operands.specs.Operand.{variable_of, variables_of}
use Rattle.meta_operands.specs.declared.operand.Operand.{Operand}
use Rattle.meta_inst.proofs.operands.push_variables.Goals as goal

-- one more operand
one_more : (xs : List Operand) (i : ℕ) (x : Operand) (old mid new : List ℕ) → i < length xs → x ≡ get_or xs i x
    → mid ≡ old ++ variables_of (take i xs) → new ≡ mid ++ variables_of (x ∷ []) → new ≡ old ++ variables_of (take (i + 1) xs)
one_more xs i x old mid new l is before step =
    step ∙ ap (λ m. m ++ variables_of (x ∷ [])) before ∙ append_assoc old (variables_of (take i xs)) (variables_of (x ∷ []))
    ∙ ap (λ t. old ++ t) (sym (filter_map-append variable_of (take i xs) (x ∷ []))
    ∙ ap variables_of (ap (λ y. take i xs ++ y ∷ []) is ∙ sym (take_more xs i x l)))

pub loop-operand-preserved : goal.loop-operand-preserved
loop-operand-preserved c =
    one_more _ _ _ _ _ _ c.loop-operand-test.true c.operand-item.is c.loop-operand.invariant c.in_ok-push_variable.ensures
