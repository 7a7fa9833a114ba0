use Rattle.std.proofs.Common.{◌≡◌, ◌<◌, ℕ, List, length, get_or, slice_get, Option, Some, refl, sym, subst, ◌∙◌, inl, inr}
use Rattle.std.proofs.lemmas.Bool.{false≢true}
use Rattle.std.proofs.lemmas.Option.{slice_get_read}
use Rattle.meta_typevar.specs.declared.content.TypeVarContent.{TypeVarContent}
use Rattle.meta_typevar.specs.Registry.{variable_at}
use Rattle.meta_inst.specs.Which.{Which}
use Rattle.meta_inst.specs.Controls.{IsOneOf}
use Rattle.meta_inst.specs.Operands.{LetsControl, HasOneType, IsLone}
use Rattle.meta_inst.proofs.operands.lets_control.Goals as goal

-- what is read at the place is the variable there
read : (xs ys : List ℕ) (i r n : ℕ) → xs ≡ ys → i < length ys → r ≡ get_or xs i r → slice_get ys i ≡ Some n → r ≡ n
read xs ys i r n same within is at =
    let here = subst (λ (zs : List ℕ). slice_get zs i ≡ Some r) same
    (slice_get_read xs _ i r refl (subst (λ (zs : List ℕ). i < length zs) (sym same) within) is) in
    cc

module _ (vars : List TypeVarContent) (controls : Which → Option ℕ) (numbers : List ℕ) (from place r : ℕ) where
  -- it lets these be the controls since one of them is its root
  by_root : (root : ℕ) → root ≡ (variable_at vars r).root → IsOneOf controls root → LetsControl vars controls numbers from place r
  by_root root is h = inl (subst (IsOneOf controls) is h)

  -- and else by itself alone
  by_itself : (root : ℕ) → root ≡ (variable_at vars r).root → (IsOneOf controls root → ⊥) → (HasOneType vars r → ⊥)
      → LetsControl vars controls numbers from place r → IsLone vars numbers from place r
  by_itself root is none several (inl h) = absurd (none (subst (IsOneOf controls) (sym is) h))
  by_itself root is none several (inr (inl one)) = absurd (several one)
  by_itself root is none several (inr (inr lone)) = lone

pub returns-then-is_control : goal.returns-then-is_control
returns-then-is_control c = λ n at.
    let is = read _ _ _ _ n c.variables.ensures c.requires.within c.index-variables-place.is at in (
      (λ e. subst (LetsControl _ _ _ _ _) is
          (by_root _ _ _ _ _ _ _ c.root.ensures.root (c.is_control.ensures.0 c.if-is_control.true))),
      (λ h. refl),
    )

pub returns-then-has_one_type : goal.returns-then-has_one_type
returns-then-has_one_type c = λ n at.
    let is = read _ _ _ _ n c.variables.ensures c.requires.within c.index-variables-place.is at in
    ((λ e. inr (inl (subst (HasOneType c.args.vars.now) is (c.has_one_type.ensures.0 c.if-has_one_type.true)))), (λ h. refl))

pub returns-then-is_underived : goal.returns-then-is_underived
returns-then-is_underived c = λ n at.
    let is = read _ _ _ _ n c.variables.ensures c.requires.within c.index-variables-place.is at in
    let lone = by_itself c.args.vars.now c.args.controls.now c.args.operands.now.variables
    c.args.operands.now.result_count c.args.place _ _ c.root.ensures.root
    (λ h. false≢true (sym c.if-is_control.false ∙ c.is_control.ensures.1 h))
    (λ h. false≢true (sym c.if-has_one_type.false ∙ c.has_one_type.ensures.1 h)) in (
      (λ e. subst (LetsControl _ _ _ _ _) is
          (inr (inr (record { underived = c.is_underived.ensures.0 c.if-is_underived.true; alone = c.is_alone.ensures.0 e })))),
      (λ h. c.is_alone.ensures.1 (lone (subst (LetsControl _ _ _ _ _) (sym is) h)).alone),
    )

pub returns-else-is_underived : goal.returns-else-is_underived
returns-else-is_underived c = λ n at.
    let is = read _ _ _ _ n c.variables.ensures c.requires.within c.index-variables-place.is at in
    let lone = by_itself c.args.vars.now c.args.controls.now c.args.operands.now.variables
    c.args.operands.now.result_count c.args.place _ _ c.root.ensures.root
    (λ h. false≢true (sym c.if-is_control.false ∙ c.is_control.ensures.1 h))
    (λ h. false≢true (sym c.if-has_one_type.false ∙ c.has_one_type.ensures.1 h)) in (
      (λ e. absurd (false≢true (sym c.if-is_underived.false ∙ e))),
      (λ h. absurd (false≢true (c.if-is_underived.ensures.1 (lone (subst (LetsControl _ _ _ _ _) (sym is) h)).underived))),
    )
