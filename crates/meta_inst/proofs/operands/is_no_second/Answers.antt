use Rattle.std.proofs.Common.{◌≡◌, ◌↔◌, IsTrue, MatchBool, Bool, true, false, not, ℕ, List, [], inl, inr, refl}
use Rattle.std.proofs.lemmas.Bool.{false≢true}
use Rattle.meta_typevar.specs.Registry.{variable_at}
use Rattle.meta_typevar.specs.declared.content.TypeVarContent.{TypeVarContent}
use Rattle.meta_inst.specs.Operands.{Uses, UsesNowhere, HasSeveralTypes, AllHaveOneType, IsNoSecond}
use Rattle.meta_inst.proofs.operands.is_no_second.Goals as goal

-- an underived variable that is used is no second control exactly where nothing is polymorphic
last : (vars : List TypeVarContent) (numbers : List ℕ) (s : ℕ) (used several : Bool) → (variable_at vars s).chain ≡ [] → used ≡ true
    → MatchBool used (Uses vars numbers s) (UsesNowhere vars numbers s)
    → MatchBool several (HasSeveralTypes vars numbers) (AllHaveOneType vars numbers) → IsTrue (not several) ↔ IsNoSecond vars numbers s
last vars numbers s false several underived is uses types = absurd (false≢true is)
last vars numbers s true false underived is uses types = ((λ e. inr (inr types)), (λ h. refl))
last vars numbers s true true underived is uses types = ((λ e. absurd (false≢true e)), (λ h. absurd (by_case h)))
  where
    by_case : IsNoSecond vars numbers s → ⊥
    by_case (inl derived) = derived underived
    by_case (inr (inl nowhere)) = nowhere uses.place uses.variable uses.at uses.root
    by_case (inr (inr all)) = types.several (all types.place types.variable types.at)

pub returns : goal.returns
returns c = last c.args.vars.now c.args.variables.now c.args.s c.is_used.result c.is_polymorphic.result
    (c.is_underived.ensures.0 c.if-not-is_underived.false) c.if-not-is_used.false c.is_used.ensures c.is_polymorphic.ensures
