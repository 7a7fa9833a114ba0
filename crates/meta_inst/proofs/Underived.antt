-- A variable has no parent exactly where its chain is empty.
use Rattle.std.proofs.Common.{◌≡◌, ℕ, List, [], ◌↔◌, IsTrue, Bool, true, false, not, Option, None, Some, refl}
use Rattle.std.specs.Prelude.{is_some}
use Rattle.meta_typevar.specs.Registry.{variable_at, IsKept, IsRegistry}
use Rattle.meta_typevar.specs.declared.content.TypeVarContent.{TypeVarContent}
use Rattle.meta_typevar.proofs.Variables.{underived_told}

-- a test for nothing
pub none_is : {X : Type 0} (o : Option X) (r : Bool) → is_some o ≡ not r → (r ≡ true) ↔ (o ≡ None)
none_is None true e = (λ h. refl, λ h. refl)
none_is None false e = absurd (cc)
none_is (Some x) true e = absurd (cc)
none_is (Some x) false e = (λ h. absurd (cc), λ h. absurd (cc))

-- what a test of the parent tells
pub none_told : (vars : List TypeVarContent) (n : ℕ) (c : TypeVarContent) (r : Bool) → IsRegistry vars
    → IsKept vars n c → is_some c.base ≡ not r → (IsTrue r ↔ ((variable_at vars n).chain ≡ []))
none_told vars n c r registry kept e =
    let told = underived_told vars n c registry kept in
    let none = none_is c.base r e in
    (λ t. told.0 (none.0 t), λ h. none.1 (told.1 h))
