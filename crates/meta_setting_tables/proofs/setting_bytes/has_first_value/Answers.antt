use Rattle.std.proofs.Common.{◌≡◌, ◌↔◌, ℕ, Bool, IsTrue, nat_eq, nat_lt, List, length, get_or, Option, None, Some, IfSome, Bor, refl, sym}
use Rattle.std.proofs.Common.{ap, subst, ◌∙◌, arith, rules}
use Rattle.std.specs.Option.{is_some, option_eq}
use Rattle.std.proofs.lemmas.Bool.{false≢true, eqb-true, eq-eqb}
use Rattle.std.proofs.lemmas.Bool.Decides.{nat_tests}
use Rattle.std.proofs.lemmas.Option.{slice_get_within, slice_get_read, same_Some}
use Rattle.meta_setting_tables.specs.WellFormed.{HasFirstValue}
use Rattle.meta_setting_tables.specs.declared.descriptor.Detail.{Detail}
use Rattle.meta_setting_tables.specs.declared.descriptor.Detail.TheVariants.{Enum as AnEnum}
use Rattle.meta_setting_tables.proofs.setting_bytes.has_first_value.Goals as goal

-- what the comparison of the byte that was read with 0 tells
first_value : (xs : List ℕ) (k : ℕ) (d : Detail) (last place : ℕ) (read : Option (Bor ℕ)) (zero : Bor ℕ) (b : Bool)
    → d ≡ AnEnum last place → b ≡ option_eq (λ x y. nat_eq x.now y.now) read (Some zero) → zero.now ≡ 0
    → is_some read ≡ nat_lt k (length xs) → IfSome read (λ x. x.now ≡ get_or xs k x.now) → IsTrue b ↔ HasFirstValue xs k d
first_value xs k d last place None zero b is e z within at =
    subst (λ x. IsTrue b ↔ HasFirstValue xs k x) (sym is)
    (λ t. absurd (false≢true (sym e ∙ t)), λ h. let l = slice_get_within xs k 0 h in absurd (grind (arith, nat_tests)))
first_value xs k d last place (Some x) zero b is e z within at =
    let there = slice_get_read xs (length xs) k x.now refl (grind (arith, nat_tests)) at in
    subst (λ y. IsTrue b ↔ HasFirstValue xs k y) (sym is)
    (λ t. there ∙ ap Some (eqb-true _ _ (sym e ∙ t) ∙ z), λ h. e ∙ eq-eqb _ _ (same_Some x.now 0 (sym there ∙ h) ∙ sym z))

pub returns-in-Enum : goal.returns-in-Enum
returns-in-Enum c = search (rules, first_value)
